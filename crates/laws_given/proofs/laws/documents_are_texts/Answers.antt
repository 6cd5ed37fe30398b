use Rattle.laws_given.proofs.Documents.{documents_are_texts as law}
use Rattle.laws_given.proofs.laws.documents_are_texts.Goals as goal

pub returns : goal.returns
returns c = law c.requirements_are_named.ensures
