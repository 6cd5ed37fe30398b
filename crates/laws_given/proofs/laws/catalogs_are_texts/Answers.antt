use Rattle.laws_given.proofs.Catalogs.{catalogs_are_texts as law}
use Rattle.laws_given.proofs.laws.catalogs_are_texts.Goals as goal

pub returns : goal.returns
returns c = law c.documents_are_texts.ensures
