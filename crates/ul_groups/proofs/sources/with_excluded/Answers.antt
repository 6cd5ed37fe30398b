use Rattle.ul_groups.proofs.SourceLists.{clauses_are}
use Rattle.ul_groups.proofs.sources.with_excluded.Goals as goal

pub invariant_of-result : goal.invariant_of-result
invariant_of-result c =
    clauses_are c.specifiers.inside.clauses.items c.in_ok-clauses.clauses.items c.excluded.result c.in_ok-clauses.ensures c.specifiers.invariant
    c.excluded.ensures.valid
