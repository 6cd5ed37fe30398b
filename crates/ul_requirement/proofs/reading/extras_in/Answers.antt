use Rattle.ul_requirement.proofs.Names.{sorted_none}
use Rattle.ul_requirement.proofs.reading.extras_in.Goals as goal

pub returns-then-is_empty-clause-rises : goal.returns-then-is_empty-clause-rises
returns-then-is_empty-clause-rises c = sorted_none c.new.result.items c.new.ensures.items
