use Rattle.laws_given.proofs.Expanded.{expanded_are_texts as law}
use Rattle.laws_given.proofs.laws.expanded_are_texts.Goals as goal

pub returns : goal.returns
returns c = law
