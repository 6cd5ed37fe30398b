use Rattle.std.proofs.Common.{subst, sym, ◌∙◌}
use Rattle.std.specs.Prelude.{All}
use Rattle.std.proofs.lemmas.List.{take_all}
use Rattle.std.proofs.lemmas.List.Elements.{All-get_or}
use Rattle.std.specs.List.{AllZip}
use Rattle.ul_base.proofs.ForCallers.{made_holds}
use Rattle.ul_prepared.specs.Places.{IsAmong}
use Rattle.ul_prepared.specs.Prepared.{AreRowAims}
use Rattle.ul_prepared.specs.Targets.{AsksTargets}
use Rattle.ul_prepared.proofs.Zipped.{made_first}
use Rattle.ul_prepared.proofs.aims.list_aims.Goals as goal

pub asked_aims-aims-requires-clause-targets : goal.asked_aims-aims-requires-clause-targets
asked_aims-aims-requires-clause-targets c =
    let ask = All (AsksTargets (IsAmong c.args.nodes.now)) in
    subst ask (sym (c.as_slice.ensures ∙ c.asked-item.is)) (All-get_or ask c.args.lists.now c.loop-asked.asked-index c.asked-item.result c.loop-asked-test.true c.requires.targets)

pub loop-asked-preserved : goal.loop-asked-preserved
loop-asked-preserved c =
    let more = c.in_ok-list-2.ensures in
    let one = more.0 in
    record {
      sets = c.asked_aims-aims.ensures.sets;
      aims = made_first (AreRowAims c.args.names.now c.args.nodes.now) c.args.lists.now c.loop-asked.list.items c.in_ok-list-2.list.items c.loop-asked.asked-index c.asked-item.result one
          more.2 c.loop-asked.invariant.aims
          (subst (AreRowAims c.args.names.now c.args.nodes.now one) c.as_slice.ensures (made_holds c.asked_aims-aims.result one _ more.1 c.asked_aims-aims.ensures.aims))
          c.loop-asked-test.true c.asked-item.is;
    }

pub returns-clause-aims : goal.returns-clause-aims
returns-clause-aims c =
    subst (AllZip (AreRowAims c.args.names.now c.args.nodes.now) c.loop-asked.list.items) (take_all c.loop-asked.asked-index c.args.lists.now c.loop-asked-test.false) c.loop-asked.invariant.aims
