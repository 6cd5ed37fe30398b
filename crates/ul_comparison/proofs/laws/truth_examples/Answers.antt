use Rattle.ul_comparison.proofs.TruthExamples.{truths}
use Rattle.ul_comparison.proofs.laws.truth_examples.Goals as goal

pub returns : goal.returns
returns c = truths
