use Rattle.laws_given.proofs.Adjusted.{adjusted_are_texts as law}
use Rattle.laws_given.proofs.laws.adjusted_are_texts.Goals as goal

pub returns : goal.returns
returns c = law
