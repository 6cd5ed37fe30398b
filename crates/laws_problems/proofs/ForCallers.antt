-- The lemmas that crates above may cite.

-- whether a requirement is firm at a node in a region that has a tree
pub use Rattle.laws_problems.proofs.Leading.{firm_decided}
