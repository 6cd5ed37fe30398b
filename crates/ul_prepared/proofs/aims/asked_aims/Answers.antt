use Rattle.std.proofs.Common.{subst, sym}
use Rattle.std.proofs.lemmas.List.Elements.{All-get_or}
use Rattle.ul_base.proofs.ForCallers.{made_holds}
use Rattle.ul_prepared.specs.Places.{IsAmong}
use Rattle.ul_prepared.specs.Targets.{AsksTargets}
use Rattle.ul_prepared.proofs.Aiming.{rows_more}
use Rattle.ul_prepared.proofs.aims.asked_aims.Goals as goal

pub aims_of-aims-requires-clause-targets : goal.aims_of-aims-requires-clause-targets
aims_of-aims-requires-clause-targets c =
    let asks = AsksTargets (IsAmong c.args.nodes.now) in
    subst asks (sym c.one-item.is) (All-get_or asks c.args.asked.now c.loop-one.one-index c.one-item.result c.loop-one-test.true c.requires.targets)

pub loop-one-preserved : goal.loop-one-preserved
loop-one-preserved c =
    let more = c.in_ok-rows-2.ensures in
    let one = more.0 in
    record {
      sets = c.aims_of-aims.ensures.sets;
      aims = rows_more c.args.names.now c.args.nodes.now c.loop-one.rows.items c.in_ok-rows-2.rows.items c.args.asked.now c.loop-one.one-index one c.one-item.result
          more.2 c.loop-one.invariant.aims (made_holds c.aims_of-aims.result one _ more.1 c.aims_of-aims.ensures.aims) c.loop-one-test.true c.one-item.is;
    }
