-- `picture::linking::link_all` meets its contract: the edges of the first k records are marked.
use Prim.Native.Nat.{◌<◌}
use native.Mathlib.Omega.{arith}
use mathlib.Core.Path.{◌≡◌, refl, sym, ap, ◌∙◌, subst}
use mathlib.Core.List.{List, []}
use lib.ListN.{length, take, drop}
use lib.Seq.{take_all, length-take-le}
use Rattle.std.proofs.Common.{get_or-take}
use Rattle.lists.proofs.Places.{take-one-more}
use Rattle.graph.specs.declared.Labelled.{Labelled}
use Rattle.rows.proofs.Laws.{rest-cleared}
use Rattle.picture.specs.Linking.{Few, Links}
use Rattle.picture.proofs.Marks.{links-none}
use Rattle.picture.proofs.linking.link_all.Goals as goal

pub loop-k-init : goal.loop-k-init
loop-k-init c = record { links = subst (Links []) (sym c.clear.ensures) (links-none c.args.work.now c.requires.1); rest = refl }

pub link_record-requires : goal.link_record-requires
link_record-requires c =
    let k = c.loop-k.k in
    let xs : List Labelled = c.args.records.now in
    let all : Few xs = c.requires.0 in
    let size : length (take k xs) ≡ k = length-take-le k xs (omega arith) in
    record {
      few = ((λ i d h. let below : i < k = omega (arith, h, size) in rw get_or-take (all i d (omega arith))), all k _ (omega arith));
      links = c.loop-k.invariant.links;
    }

pub loop-k-preserved : goal.loop-k-preserved
loop-k-preserved c =
    let xs : List Labelled = c.args.records.now in
    record {
      links = subst (λ ys. Links ys c.link_record.new.work) (sym (take-one-more xs c.loop-k.k _ (omega arith))) c.link_record.ensures.0;
      rest = c.link_record.ensures.1 ∙ c.loop-k.invariant.rest;
    }

pub returns : goal.returns
returns c =
    let a = c.args in
    let i = c.loop-k.invariant in
    (subst (λ ys. Links ys c.loop-k.work) (take_all c.loop-k.k a.records.now (omega arith)) i.links, i.rest ∙ ap (drop 4096) c.clear.ensures ∙ rest-cleared a.work.now c.requires.1)
