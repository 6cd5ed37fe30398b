use Rattle.ul_groups.proofs.SourceLaws.{clauses_are_sources}
use Rattle.ul_groups.proofs.laws.clauses_are_sources.Goals as goal

pub returns : goal.returns
returns c = clauses_are_sources
