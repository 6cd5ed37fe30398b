use Rattle.std.proofs.Common.{◌≡◌, arith, false, subst, sym}
use Rattle.ul_base.proofs.ForCallers.{made_holds}
use Rattle.ul_region.specs.Truths.{DiagramMark, IsTruth}
use Rattle.ul_reach.specs.Reaching.{AreNowhere}
use Rattle.ul_reach.proofs.Settled.{nowhere_more, nowhere_none}
use Rattle.ul_reach.proofs.settling.no_reaches.Goals as goal

pub loop-init : goal.loop-init
loop-init g c = nowhere_none _ c.in_ok-regions.regions.items c.in_ok-regions.ensures.items

pub loop-preserved : goal.loop-preserved
loop-preserved g c =
    let more = c.in_ok-regions-2.ensures in
    let same : more.0 ≡ c.in_ok-none.none = made_holds c.share.result more.0 (λ (d : DiagramMark). d ≡ c.in_ok-none.none) more.1 c.share.ensures in
    nowhere_more _ c.loop.counter c.loop.regions.items _ more.0 c.loop.invariant more.2
    (subst (λ (d : DiagramMark). IsTruth c.nowhere.new.algebra d (λ w. false)) (sym same) c.in_ok-none.ensures.truth)

pub returns-clause-regions : goal.returns-clause-regions
returns-clause-regions g c = subst (λ n. AreNowhere c.nowhere.new.algebra n c.loop.regions.items) (omega (arith, c.loop-test.false, c.loop.auto.counter-end)) c.loop.invariant
