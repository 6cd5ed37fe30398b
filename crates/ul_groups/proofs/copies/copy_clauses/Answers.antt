use Rattle.std.proofs.Common.{◌∙◌, arith}
use Rattle.std.proofs.lemmas.List.{take_all}
use Rattle.ul_groups.proofs.MadeLists.{copied_next}
use Rattle.ul_groups.proofs.copies.copy_clauses.Goals as goal

pub loop-clause-preserved : goal.loop-clause-preserved
loop-clause-preserved c =
    copied_next _ _ _ _ _ c.copy.result c.in_ok-list-2.ensures c.copy.ensures c.loop-clause-test.true c.clause-item.is c.loop-clause.invariant

pub returns : goal.returns
returns c = c.loop-clause.invariant ∙ take_all c.loop-clause.clause-index c.args.clauses.now (omega arith)
