-- The lemmas that crates above may cite.

-- the requirements of a version whose release is found
pub use Rattle.ul_split.proofs.LeafLaws.{requirements_found}
