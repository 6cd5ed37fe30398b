use Rattle.std.proofs.Common.{subst, sym}
use Rattle.std.proofs.lemmas.List.Elements.{All-get_or}
use Rattle.ul_base.proofs.ForCallers.{made_holds}
use Rattle.ul_prepared.specs.Places.{IsAmong}
use Rattle.ul_prepared.proofs.Aiming.{aims_more}
use Rattle.ul_prepared.proofs.aims.aims_at.Goals as goal

pub aim-one-requires-clause-target : goal.aim-one-requires-clause-target
aim-one-requires-clause-target c =
    let among = IsAmong c.args.nodes.now in
    subst among (sym c.target-item.is) (All-get_or among c.args.targets.now c.loop-target.target-index c.target-item.result c.loop-target-test.true c.requires.targets)

pub loop-target-preserved : goal.loop-target-preserved
loop-target-preserved c =
    let more = c.in_ok-row-2.ensures in
    let one = more.0 in
    record {
      sets = c.aim-one.ensures.sets;
      aims = aims_more c.args.names.now c.args.nodes.now c.args.specifiers.now c.loop-target.row.items c.in_ok-row-2.row.items c.args.targets.now c.loop-target.target-index one c.target-item.result
          more.2 c.loop-target.invariant.aims (made_holds c.aim-one.result one _ more.1 c.aim-one.ensures.aim) c.loop-target-test.true c.target-item.is;
    }
