use Rattle.ul_requirement.proofs.Names.{sorted_none}
use Rattle.ul_requirement.proofs.reading.extras_front.Goals as goal

pub returns-in_default-clause-rises : goal.returns-in_default-clause-rises
returns-in_default-clause-rises c = sorted_none c.new.result.items c.new.ensures.items

pub returns-then-byte-ne91-clause-rises : goal.returns-then-byte-ne91-clause-rises
returns-then-byte-ne91-clause-rises c = sorted_none c.new-then-byte-ne91.result.items c.new-then-byte-ne91.ensures.items
