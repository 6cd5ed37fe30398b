use Rattle.ul_specifier.proofs.EachRead.{clause-read, clause_operand, clauses-read, clauses_text}
use Rattle.ul_specifier.proofs.laws.every_clause_is_read.Goals as goal

pub returns : goal.returns
returns c = record { one = λ d is so. (clause_operand d, clause-read d is so); list = λ cs all so. (clauses_text cs, clauses-read cs all so) }
