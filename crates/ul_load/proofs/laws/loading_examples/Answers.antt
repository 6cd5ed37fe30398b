use Rattle.ul_load.proofs.LoadingExamples.{loading_examples}
use Rattle.ul_load.proofs.laws.loading_examples.Goals as goal

pub returns : goal.returns
returns c = loading_examples
