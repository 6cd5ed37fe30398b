use Rattle.ul_index.proofs.DocumentExamples.{document_examples}
use Rattle.ul_index.proofs.laws.document_examples.Goals as goal

pub returns : goal.returns
returns c = document_examples
