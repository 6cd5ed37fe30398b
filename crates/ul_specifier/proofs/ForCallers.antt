-- The lemmas that crates above may cite.

-- an operator in front of a text is read
pub use Rattle.ul_specifier.proofs.Spelled.{is_equals, operator-read}
-- tests of each byte, and bytes that are dropped at the ends of a text
pub use Rattle.ul_specifier.proofs.Spelled.{all-joined, all-weaker, end-dropped, front-dropped, nothing-dropped}
pub use Rattle.ul_specifier.proofs.Texts.{before_all-kept}
-- each clause but an exclusion is read from its text
pub use Rattle.ul_specifier.proofs.EachRead.{clause-read, clause_operand, clauses-read, clauses_text, operand_text}
-- what is read is a clause and no exclusion, and a length that isn't 0 is more
pub use Rattle.ul_specifier.proofs.Spelled.{clause_with-spelled, specifiers-spelled}
pub use Rattle.ul_specifier.proofs.Texts.{clause_with-clause, not_empty}
-- `!=`, `<` and `>` beside `==`, `>=` and `<=`, and an exclusion beside `==`
pub use Rattle.ul_specifier.proofs.LawProofs.{unequal, distinct, less, more}
-- the exclusion of a version is a clause
pub use Rattle.ul_specifier.proofs.LowerBounds.{distinct-clause}
