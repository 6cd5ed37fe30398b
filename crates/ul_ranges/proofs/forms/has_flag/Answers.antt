use Rattle.ul_ranges.proofs.BlockLaws.{flag_read, flag_unread}
use Rattle.ul_ranges.proofs.forms.has_flag.Goals as goal

pub returns-in-Some : goal.returns-in-Some
returns-in-Some c = flag_read c.args.blocks.now c.args.k c.in-Some.block.now (c.in-Some.ensures.lookup.3.1 0)

pub returns-in-None : goal.returns-in-None
returns-in-None c = flag_unread c.args.blocks.now c.args.k c.in-None.ensures.lookup.3
