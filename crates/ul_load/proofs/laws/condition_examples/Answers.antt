use Rattle.ul_load.proofs.LoadingExamples.{condition_examples}
use Rattle.ul_load.proofs.laws.condition_examples.Goals as goal

pub returns : goal.returns
returns c = condition_examples
