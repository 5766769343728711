-- `record::event_of` meets its contract: each byte is read as the definition reads it.
use Prim.Native.Nat.{ℕ, ◌+◌, ◌*◌}
use mathlib.Core.Path.{◌≡◌, ap, ap₂, ◌∙◌}
use mathlib.Core.List.{List}
use Rattle.record.specs.declared.Op.{Op}
use Rattle.record.specs.declared.Event.{Event}
use Rattle.record.specs.Record.{byte, two_bytes, operation, event}
use Rattle.record.proofs.event_of.Goals as goal

pub returns : goal.returns
unfolding event
returns c =
    let l : List ℕ = c.args.src.now in
    let value : c.word-value.result ≡ two_bytes l 6 = c.word-value.ensures ∙ ap₂ (λ (x y : ℕ). x + 256 * y) c.byte.ensures c.byte-2.ensures in
    let is : c.operation_of.result ≡ operation (byte l 2) (byte l 4) (two_bytes l 6) =
    c.operation_of.ensures ∙ ap₂ (λ (k x : ℕ). operation k x c.word-value.result) c.byte-4.ensures c.byte-5.ensures ∙ ap (operation (byte l 2) (byte l 4)) value in
    ap₂ {C = Event} (λ (t : ℕ) (o : Op). record { thread = t; op = o }) c.byte-3.ensures is
