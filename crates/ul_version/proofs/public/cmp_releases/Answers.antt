use Rattle.std.proofs.Common.{arith, sym, ◌∙◌, ◌≡◌, max, length, refl}
use Rattle.std.proofs.lemmas.Cmp.{nat_cmp_total, tied_itself}
use Rattle.ul_version.specs.Order.{release_cmp}
use Rattle.ul_version.proofs.Orders.{numbers_cmp-next, numbers_cmp-ended, nat_cmp-decided}
use Rattle.ul_version.proofs.public.cmp_releases.Goals as goal

pub loop-i-init : goal.loop-i-init
unfolding release_cmp
loop-i-init c = rw c.max-size.ensures refl

pub returns-then-x-y : goal.returns-then-x-y
returns-then-x-y c =
    let xs = c.args.release.now in
    let ys = c.args.other.now in
    let i = c.loop-i.i in
    sym (c.loop-i.invariant ∙ numbers_cmp-next c.max-size.result xs ys i c.loop-i-test.true
    ∙ rw (← c.number_at-x.ensures, ← c.number_at-y.ensures) (nat_cmp-decided c.number_at-x.result c.number_at-y.result _ c.if-x-y.true)
    ∙ sym c.cmp.ensures)

pub loop-i-preserved : goal.loop-i-preserved
loop-i-preserved c =
    let xs = c.args.release.now in
    let ys = c.args.other.now in
    c.loop-i.invariant ∙ numbers_cmp-next c.max-size.result xs ys c.loop-i.i c.loop-i-test.true
    ∙ rw (← c.number_at-x.ensures, ← c.number_at-y.ensures, c.if-x-y.false, tied_itself nat_cmp_total c.number_at-y.result) refl

pub returns : goal.returns
returns c =
    let size : c.max-size.result ≡ max (length c.args.release.now) (length c.args.other.now) = c.max-size.ensures in
    sym (c.loop-i.invariant ∙ numbers_cmp-ended c.max-size.result c.args.release.now c.args.other.now c.loop-i.i (omega arith) (omega arith) (omega arith))
