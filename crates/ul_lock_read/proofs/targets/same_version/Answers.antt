use Rattle.ul_lock_read.proofs.Halving.{same_texts}
use Rattle.ul_lock_read.proofs.targets.same_version.Goals as goal

pub returns : goal.returns
returns c = same_texts c.args.version.now c.args.other.now c.same.result c.is_proper.ensures c.is_proper-2.ensures c.same.ensures
