use Rattle.laws_given.proofs.Files.{files_are_texts as law}
use Rattle.laws_given.proofs.laws.files_are_texts.Goals as goal

pub returns : goal.returns
returns c = law c.requirements_are_named.ensures
