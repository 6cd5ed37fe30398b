use Rattle.laws_comparisons.proofs.OfMerged.{merged_ask_theirs as law}
use Rattle.laws_comparisons.proofs.laws.merged_ask_theirs.Goals as goal

pub returns : goal.returns
returns c = law
