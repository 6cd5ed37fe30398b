use Rattle.ul_marker.proofs.Dialects.{dialects_agree}
use Rattle.ul_marker.proofs.laws.dialects_agree.Goals as goal

pub returns : goal.returns
returns c = dialects_agree
