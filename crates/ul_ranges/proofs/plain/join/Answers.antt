use Rattle.ul_ranges.proofs.PlainLaws.{either_zip}
use Rattle.ul_ranges.proofs.plain.join.Goals as goal

pub returns : goal.returns
returns c = rw (either_zip c.args.left.now c.args.right.now c.requires) at c.flags_by.ensures
