use Rattle.ul_prepared.proofs.ClauseSets.{equal_is}
use Rattle.ul_prepared.proofs.Loops.{made_equal}
use Rattle.ul_prepared.proofs.clauses.equal_set.Goals as goal

pub returns : goal.returns
returns c = made_equal c.between.result _ _ c.between.ensures
    (equal_is c.args.part c.args.version.now c.args.versions.now c.count_before-low.result c.count_through-high.result c.count_before-low.ensures c.count_through-high.ensures)
