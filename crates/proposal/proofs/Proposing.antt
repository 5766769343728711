-- The whole promise as the code comes to it: the sizes, the records, the walk, and what is written.
use Prim.Native.Nat.{ℕ, ◌≤◌}
use native.Mathlib.Omega.{arith}
use mathlib.Core.Path.{◌≡◌, sym, ap, ap₂, ◌∙◌}
use mathlib.Core.Logic.{◌≢◌}
use mathlib.Core.Bool.{Bool}
use mathlib.Core.List.{List, [], ◌++◌}
use lib.ListN.{length, drop, replicate, length-replicate}
use lib.Dec.{T}
use Rattle.record.specs.declared.Event.{Event}
use Rattle.record.specs.Faults.{Refusal, first_fault}
use Rattle.record.specs.Answers.{Numbers, refused_as, Ending}
use Rattle.record.specs.Record.{in_range}
use Rattle.replay.specs.Machine.{fresh, possible}
use Rattle.lists.specs.Lists.{all_of, over}
use Rattle.rows.specs.Bits.{cleared}
use Rattle.rows.proofs.Laws.{cleared-is}
use Rattle.graph.specs.Transactions.{work_size}
use Rattle.looking.specs.Refusals.{input_checks, refused_by, events}
use Rattle.looking.proofs.Refusing.{size-refused}
use Rattle.looking.proofs.Laws.{Passed, passed}
use Rattle.proposal.specs.declared.Added.{Added}
use Rattle.proposal.specs.Walk.{Placed, events_in, finished, stop}
use Rattle.proposal.specs.Proposed.{size_checks, refusal, yields_in, done, proposed, lines_from, told}
use Rattle.proposal.specs.Weaving.{woven_all, bytes_in}
use Rattle.proposal.specs.Keeping.{Walked}
use Rattle.proposal.proofs.Walks.{limits}
use Rattle.proposal.proofs.Bytes.{bytes-size}
use Rattle.proposal.proofs.Endings.{sizes, sizes-fit, refused-before, refused-walking, proposed-done, told-refused, told-done}

-- a work area that is cleared at the end
cleared-over : (work w : List ℕ) → 4096 ≤ length w → drop 4096 w ≡ drop 4096 work → cleared w ≡ over (replicate work_size 0) work
unfolding over
cleared-over work w long rest =
    let n : ℕ = 4096 in
    let z : ℕ = 0 in
    cleared-is w long ∙ ap (λ l. replicate n z ++ l) (rest ∙ ap (λ k. drop k work) (sym (length-replicate n z)))

module _ (input out work : List ℕ) (lines : List Added) where
  abbrev es : List Event
  es = events input

  abbrev proposed_as : ℕ → ℕ → Numbers
  proposed_as bytes yields = record { kind = 0; first = bytes; second = yields }

  -- the answer and the contents that are left, and the lines
  abbrev Ends : Numbers → List ℕ → List ℕ → List Added → Type 0
  Ends answer out' work' lines' =
      (◌≡◌ {A = Ending} (record { answer = answer; out = out'; work = work' }) (proposed input out work)) × (lines' ≡ told input out work lines)

  -- the answer by its numbers
  pub ends-as : (a b : Numbers) (out' work' : List ℕ) (lines' : List Added) → a ≡ b → Ends b out' work' lines' → Ends a out' work' lines'
  ends-as a b out' work' lines' h e = (ap (λ n. record { answer = n; out = out'; work = work' }) h ∙ e.0, e.1)

  -- ---- refused before the walk

  refused-first : (r : Refusal) → refusal input out work ≡ r → r.number ≢ 0 → Ends (refused_as r) out work lines
  refused-first r is some =
      let e = refused-before input out work r is some in (sym e, sym (told-refused input out work lines (ap (λ x. x.answer.kind) e)))

  pub refused-sizes : (n : ℕ) → n ≡ first_fault (size_checks input out work) → n ≢ 0 → Ends (refused_as (record { number = n; place = 0 })) out work lines
  refused-sizes n h some = refused-first (record { number = n; place = 0 }) (size-refused (size_checks input out work) input n (sym h) some) some

  -- ---- the records were looked at

  module _ (fit : first_fault (size_checks input out work) ≡ 0) (r : Refusal) (is : r ≡ refused_by (input_checks input) input) where
    same : refusal input out work ≡ r
    same = sizes-fit input out work fit ∙ sym is

    pub refused-record : r.number ≢ 0 → Ends (refused_as r) out work lines
    refused-record some = refused-first r same some

    module _ (none : r.number ≡ 0) where
      here : Passed input
      here = passed input (ap (λ f. f.number) (sym is) ∙ none)

      unrefused : (refusal input out work).number ≡ 0
      unrefused = ap (λ f. f.number) same ∙ none

      -- what the walk asks for
      pub walk-ready : (length input ≤ 8192) × (4096 ≤ length work) × T (possible fresh es) × T (all_of in_range es)
      walk-ready = let s = sizes input out work fit in (s.most, s.work-room, here.can-be, here.in-range)

      module _ (marks : List Bool) (w w' : List ℕ) (s : Refusal) (walk : Walked es marks work w s) (size : length w ≡ length work) (clear : w' ≡ cleared w) where
        left : w' ≡ over (replicate work_size 0) work
        left = clear ∙ cleared-over work w (omega (arith, size, (sizes input out work fit).work-room)) walk.rest

        -- there was no room
        pub refused-room : s.number ≢ 0 → Ends (refused_as s) out w' lines
        refused-room some =
            let e = refused-walking input out work unrefused s (sym walk.stopped) some in
            let f : proposed input out work ≡ record { answer = refused_as s; out = out; work = w' } =
            e ∙ ap (λ (v : List ℕ). record { answer = refused_as s; out = out; work = v }) (sym left) in
            (sym f, sym (told-refused input out work lines (ap (λ x. x.answer.kind) f)))

        -- there was
        module _ (room : s.number ≡ 0) where
          abbrev ps : List Placed
          ps = woven_all es marks

          unstopped : (stop [] 0 es).number ≡ 0
          unstopped = ap (λ f. f.number) (sym walk.stopped) ∙ room

          -- the finished recording fits
          pub out-fits : length (bytes_in ps) ≤ length out
          unfolding bytes_in
          out-fits = omega (
            arith,
            ap (λ l. length (bytes_in l)) (walk.marked room),
            bytes-size (events_in (finished es)),
            (limits es unstopped).0,
            (sizes input out work fit).out-room,
          )

          is-done : proposed input out work ≡ done ps out work
          is-done = proposed-done input out work unrefused unstopped ∙ ap (λ p. done p out work) (sym (walk.marked room))

          pub proposed-whole : (bytes yields : ℕ) (out' : List ℕ) (lines' : List Added) → bytes ≡ length (bytes_in ps) → out' ≡ over (bytes_in ps) out → yields ≡ length (yields_in ps)
              → lines' ≡ over (lines_from 0 ps) lines → Ends (proposed_as bytes yields) out' w' lines'
          unfolding bytes_in done
          proposed-whole bytes yields out' lines' b o y l =
              let answer : ◌≡◌ {A = Numbers} (proposed_as bytes yields) (proposed_as (length (bytes_in ps)) (length (yields_in ps))) = ap₂ proposed_as b y in (
                ap₂ (λ (a : Numbers) (v : List ℕ). record { answer = a; out = out'; work = v }) answer left
                    ∙ ap (λ (v : List ℕ). record {
                      answer = proposed_as (length (bytes_in ps)) (length (yields_in ps));
                      out = v;
                      work = over (replicate work_size 0) work;
                    }) o
                    ∙ sym is-done,
                l ∙ ap (λ p. over (lines_from 0 p) lines) (walk.marked room) ∙ sym (told-done input out work lines (ap (λ v. v.answer.kind) is-done)),
              )
