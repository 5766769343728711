-- `short::Short::extend` meets its contract.
use native.Mathlib.Omega.{arith}
use mathlib.Core.Path.{ap, subst}
use Rattle.std.specs.Prelude.{◌+◌, ◌-◌, ◌≡◌, length}
use Rattle.short.proofs.Filling.{filled-put}
use Rattle.short.specs.Zeros.{Filled}
use borrow.Rule.Slice.PartMut.{put_mid}
use Rattle.short.proofs.Short.extend.Goals as goal

pub invariant_of-self : goal.invariant_of-self
invariant_of-self g c =
    let len = c.self.inside.len in
    let more = length c.args.more.now in
    let same : more ≡ len + more - len = omega arith in
    subst (λ k. Filled g.row.N (put_mid len k c.self.inside.bytes c.copy_from_slice.new.self) (len + more)) same
    (filled-put g.row.N c.self.inside.bytes c.copy_from_slice.new.self len more c.self.invariant (omega (arith, c.if-more-self.true, c.self.invariant.0)) (ap length c.copy_from_slice.ensures.after))
