use Rattle.ul_ranges.proofs.FormTests.{word_empty, few_empty, many_filled}
use Rattle.ul_ranges.proofs.form_tests.is_empty.Goals as goal

pub returns-in-Word : goal.returns-in-Word
returns-in-Word c = rw c.in-Word.is (word_empty _ c.in-Word.word (rw c.in-Word.is at c.requires))

pub returns-in-Few : goal.returns-in-Few
returns-in-Few c = rw c.in-Few.is (few_empty c.in-Few.one c.is_none.result c.is_none.ensures)

pub returns-in-Many : goal.returns-in-Many
returns-in-Many c = rw c.in-Many.is (many_filled _ (rw c.in-Many.is at c.requires).two)
