use Rattle.std.proofs.Common.{arith, subst}
use Rattle.ul_trail.specs.Findings.{IsSeen}
use Rattle.ul_trail.proofs.Looks.{failed_here, two_here, held_here, loose_here, seen_all}
use Rattle.ul_trail.proofs.propagation.examine.Goals as goal
use Rattle.ul_trail.proofs.propagation.examine.Goals.{in-Holds, in-Unknown+else-is_some}

pub returns-in-Fails : goal.returns-in-Fails
returns-in-Fails c = failed_here _ _ _ c.loop-place.place c.index-terms-place.result c.told-told.result c.loop-place-test.true c.index-terms-place.is c.told-told.ensures c.in-Fails.is

pub returns-then-is_some : goal.returns-then-is_some
returns-then-is_some c = two_here _ _ _ c.loop-place.place c.index-terms-place.result c.told-told.result c.loop-place.loose c.loop-place-test.true c.index-terms-place.is c.told-told.ensures c.in-Unknown.is c.loop-place.invariant c.if-is_some.ensures

pub loop-place-preserved : goal.loop-place-preserved
loop-place-preserved c = elim c.match-told.branch [
  | in-Holds w ↦ held_here _ _ _ c.loop-place.place c.index-terms-place.result c.told-told.result c.loop-place.loose _ c.loop-place-test.true c.index-terms-place.is c.told-told.ensures w.in-Holds.is c.loop-place.invariant w.loose-is
  | in-Unknown+else-is_some w ↦ loose_here _ _ _ c.loop-place.place c.index-terms-place.result c.told-told.result c.loop-place.loose _ c.loop-place-test.true c.index-terms-place.is c.told-told.ensures w.in-Unknown.is c.loop-place.invariant w.if-is_some.ensures w.loose-is
]

pub returns-in-Some : goal.returns-in-Some
returns-in-Some c = subst (IsSeen c.args.standing.now.sizes.items c.args.standing.now.facts.items c.args.terms.now c.args.terms.now) c.in-Some.is (seen_all _ _ _ c.loop-place.place c.loop-place.loose (omega arith) c.loop-place.invariant)

pub returns-in-None : goal.returns-in-None
returns-in-None c = subst (IsSeen c.args.standing.now.sizes.items c.args.standing.now.facts.items c.args.terms.now c.args.terms.now) c.in-None.is (seen_all _ _ _ c.loop-place.place c.loop-place.loose (omega arith) c.loop-place.invariant)
