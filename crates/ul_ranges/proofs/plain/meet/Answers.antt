use Rattle.ul_ranges.proofs.PlainLaws.{both_zip}
use Rattle.ul_ranges.proofs.plain.meet.Goals as goal

pub returns : goal.returns
returns c = rw (both_zip c.args.left.now c.args.right.now c.requires) at c.flags_by.ensures
