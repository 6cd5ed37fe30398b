use Rattle.ul_ranges.proofs.PlainLaws.{less_zip}
use Rattle.ul_ranges.proofs.plain.less.Goals as goal

pub returns : goal.returns
returns c = rw (less_zip c.args.left.now c.args.right.now c.requires) at c.flags_by.ensures
