use Rattle.ul_prepared.proofs.ClauseSets.{up_to_is}
use Rattle.ul_prepared.proofs.Loops.{made_equal}
use Rattle.ul_prepared.proofs.clauses.set_up_to.Goals as goal

pub returns : goal.returns
returns c = made_equal c.front.result _ _ c.front.ensures (up_to_is c.args.version.now c.args.versions.now c.count_through-high.result c.count_through-high.ensures)
