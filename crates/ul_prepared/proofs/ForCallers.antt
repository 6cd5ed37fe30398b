-- The lemmas that crates above may cite.

-- what all regions share stays right where more is known
pub use Rattle.ul_prepared.proofs.Still.{prepared_still}
