use Rattle.laws_exports.proofs.Examples.{reading_examples, pin_examples}
use Rattle.laws_exports.proofs.laws.examples.Goals as goal

pub returns-clause-lines : goal.returns-clause-lines
returns-clause-lines c = reading_examples

pub returns-clause-pins : goal.returns-clause-pins
returns-clause-pins c = pin_examples
