use Rattle.laws_relock.proofs.Texts.{settled_text_promises as law}
use Rattle.laws_relock.proofs.laws.settled_texts.Goals as goal

pub returns : goal.returns
returns c = law c.settled_locks.ensures
