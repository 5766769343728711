-- `naming::name` meets its contract.
use Prim.Native.Nat.{suc}
use native.Mathlib.Omega.{arith}
use mathlib.Core.Path.{◌≡◌, refl, sym, ap, ◌∙◌}
use lib.ListN.{length, take}
use Rattle.lists.specs.Lists.{over}
use Rattle.ancestors.specs.Search.{prefix_of}
use Rattle.graph.specs.Serial.{thread_of}
use Rattle.naming.specs.Naming.{transaction_at, order_by, named_by}
use Rattle.naming.proofs.Fits.{nothing-many, nothing-short, nothing-beyond, nothing-outside, nothing-away, none_written, named-order, cycle-named, first_ones}
use Rattle.naming.proofs.name.Goals.{then-n-gt512-via-then-n-gt512, then-n-gt512-via-else-n-gt512+then-work-lt4096, else-t-n-via-then-t-n+else-test, else-t-n-via-else-t-n}
use Rattle.naming.proofs.name.Goals as goal

pub returns-then-n-gt512 : goal.returns-then-n-gt512
returns-then-n-gt512 c =
    let n = c.args.n in
    let p = prefix_of c.args.closing in
    let rows = c.args.work.now in
    let xs = take 1024 c.args.records.now in
    none_written (named_by xs n p rows) c.args.order.now (elim c.then-n-gt512.branch [
      | then-n-gt512-via-then-n-gt512 w ↦ nothing-many xs n p rows w.if-n-gt512.true
      | then-n-gt512-via-else-n-gt512+then-work-lt4096 w ↦ nothing-short xs n p rows w.if-work-lt4096.true
    ])

pub returns-in_default : goal.returns-in_default
returns-in_default c =
    let n = c.args.n in
    let rows = c.args.work.now in
    let xs = take 1024 c.args.records.now in
    let same = first_ones c.min.result c.args.records.now (omega (arith, c.min.ensures)) in
    let named : order_by (thread_of (take c.min.result c.args.records.now)) n rows ≡ named_by xs n (prefix_of c.args.closing) rows =
    ap (λ l. order_by (thread_of l) n rows) same ∙ sym (named-order xs n rows c.if-n-gt512.false c.if-work-lt4096.false)
    ∙ ap (λ o. named_by xs n (prefix_of o) rows) (sym c.in_default.is) in
    (c.take_all.ensures.0 ∙ ap length named, c.take_all.ensures.1 ∙ ap (λ new. over new c.args.order.now) named)

pub returns-then-records-i : goal.returns-then-records-i
returns-then-records-i c =
    let n = c.args.n in
    let rows = c.args.work.now in
    let xs = take 1024 c.args.records.now in
    let same = first_ones c.min.result c.args.records.now (omega (arith, c.min.ensures)) in
    none_written (named_by xs n (prefix_of c.args.closing) rows) c.args.order.now
    (ap (λ o. named_by xs n (prefix_of o) rows) c.in-Some.is ∙ nothing-beyond xs n (suc c.in-Some.i) rows (omega (arith, ap length same, c.if-records-i.true)))

pub returns-then-test : goal.returns-then-test
returns-then-test c =
    let n = c.args.n in
    let rows = c.args.work.now in
    let i = c.in-Some.i in
    let xs = take 1024 c.args.records.now in
    let ys = take c.min.result c.args.records.now in
    let same : ys ≡ xs = first_ones c.min.result c.args.records.now (omega (arith, c.min.ensures)) in
    let named = cycle-named ys n i (transaction_at ys i) rows c.if-n-gt512.false c.if-work-lt4096.false c.if-records-i.false refl c.if-t-n.true (sym c.test.ensures ∙ c.if-test.true)
    ∙ ap (λ l. named_by l n (suc i) rows) same ∙ ap (λ o. named_by xs n (prefix_of o) rows) (sym c.in-Some.is) in
    (c.follow.ensures.0 ∙ ap length named, c.follow.ensures.1 ∙ ap (λ new. over new c.args.order.now) named)

pub returns : goal.returns
returns c =
    let n = c.args.n in
    let rows = c.args.work.now in
    let i = c.in-Some.i in
    let xs = take 1024 c.args.records.now in
    let ys = take c.min.result c.args.records.now in
    let same : ys ≡ xs = first_ones c.min.result c.args.records.now (omega (arith, c.min.ensures)) in
    none_written (named_by xs n (prefix_of c.args.closing) rows) c.args.order.now
    (ap (λ o. named_by xs n (prefix_of o) rows) c.in-Some.is ∙ ap (λ l. named_by l n (suc i) rows) (sym same)
    ∙ elim c.else-t-n.branch [
      | else-t-n-via-then-t-n+else-test w ↦ nothing-away ys n i (transaction_at ys i) rows c.if-n-gt512.false c.if-work-lt4096.false c.if-records-i.false refl (sym w.test.ensures ∙ w.if-test.false)
      | else-t-n-via-else-t-n w ↦ nothing-outside ys n i (transaction_at ys i) rows c.if-n-gt512.false c.if-work-lt4096.false c.if-records-i.false refl w.if-t-n.false
    ])
