use Rattle.laws_relock.proofs.Answered.{files_are_documents as law}
use Rattle.laws_relock.proofs.laws.files_are_documents.Goals as goal

pub returns : goal.returns
returns c = law
