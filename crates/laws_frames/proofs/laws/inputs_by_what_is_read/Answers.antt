use Rattle.laws_frames.proofs.Inputs.{by_what_is_read as law}
use Rattle.laws_frames.proofs.laws.inputs_by_what_is_read.Goals as goal

pub returns : goal.returns
returns c = law c.turns_agree.ensures c.loading_ends.ensures
