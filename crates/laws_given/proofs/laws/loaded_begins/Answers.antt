use Rattle.laws_given.proofs.Loaded.{loaded_begins as law}
use Rattle.laws_given.proofs.laws.loaded_begins.Goals as goal

pub returns : goal.returns
returns c = law
