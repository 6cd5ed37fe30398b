use Rattle.ul_prepared.proofs.ClauseSets.{from_is}
use Rattle.ul_prepared.proofs.Loops.{made_equal}
use Rattle.ul_prepared.proofs.clauses.set_from.Goals as goal

pub returns : goal.returns
returns c = made_equal c.between.result _ _ c.between.ensures (from_is c.args.version.now c.args.versions.now c.count_before-low.result c.count_before-low.ensures)
