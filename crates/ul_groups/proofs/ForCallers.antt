-- The lemmas that crates above may cite.

-- a negation is a formula that a text can spell, where the formula is
pub use Rattle.ul_groups.proofs.NegatedFormulas.{negated_formula, negated_formulas}
-- the constraints that sources are are requirements, where the sources' conditions are such formulas
pub use Rattle.ul_groups.proofs.SourceRequirements.{AreSources, constraints_are_requirements}
