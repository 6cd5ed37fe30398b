use Rattle.ul_lock_read.proofs.Answered.{first_version as law}
use Rattle.ul_lock_read.proofs.laws.first_version.Goals as goal

pub returns : goal.returns
returns c = law
