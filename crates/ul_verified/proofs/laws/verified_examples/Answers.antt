use Rattle.ul_verified.proofs.Examples.{examples}
use Rattle.ul_verified.proofs.laws.verified_examples.Goals as goal

pub returns : goal.returns
returns c = examples
