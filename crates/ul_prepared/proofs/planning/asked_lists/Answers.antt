use Rattle.std.proofs.Common.{subst}
use Rattle.std.proofs.lemmas.List.{take_all}
use Rattle.std.specs.List.{AllZip}
use Rattle.ul_base.proofs.ForCallers.{made_holds}
use Rattle.ul_region.specs.Rows.{AreAsked}
use Rattle.ul_region.proofs.ForCallers.{grown_then}
use Rattle.ul_prepared.proofs.SharedFacts.{asked_more}
use Rattle.ul_prepared.proofs.planning.asked_lists.Goals as goal

pub returns-in_err-list-2-clause-grown : goal.returns-in_err-list-2-clause-grown
returns-in_err-list-2-clause-grown g c = grown_then _ _ _ _ _ _ c.loop-requirements.invariant.grown c.asked_at-asked.ensures.grown

pub loop-requirements-preserved : goal.loop-requirements-preserved
loop-requirements-preserved g c =
    let before = c.loop-requirements.list.items in
    let after = c.in_ok-list-2.list.items in
    let more = c.in_ok-list-2.ensures in
    let one = more.0 in
    record {
      grown = grown_then _ _ _ _ _ _ c.loop-requirements.invariant.grown c.asked_at-asked.ensures.grown;
      asked = asked_more c.loop-requirements.algebra c.asked_at-asked.new.algebra c.args.node.now c.loop-requirements.truths.marks.items c.asked_at-asked.new.truths.marks.items c.args.lists.now before after
          c.loop-requirements.requirements-index c.requirements-item.result one more.2 c.asked_at-asked.ensures.grown c.loop-requirements.invariant.asked
          (made_holds c.asked_at-asked.result one (λ v. AreAsked c.asked_at-asked.new.algebra c.args.node.now c.asked_at-asked.new.truths.marks.items c.requirements-item.result v) more.1 c.asked_at-asked.ensures.asked) c.loop-requirements-test.true c.requirements-item.is;
    }

pub returns-clause-asked : goal.returns-clause-asked
returns-clause-asked g c =
    subst (λ ls. AllZip (AreAsked c.loop-requirements.algebra c.args.node.now c.loop-requirements.truths.marks.items) ls c.loop-requirements.list.items)
    (take_all c.loop-requirements.requirements-index c.args.lists.now c.loop-requirements-test.false) c.loop-requirements.invariant.asked
