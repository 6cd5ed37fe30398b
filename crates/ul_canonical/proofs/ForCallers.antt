-- The lemmas that crates above may cite.

-- the bytes of a file have one answer, and they have one where each formula has a tree
pub use Rattle.ul_canonical.proofs.Answered.{canonical_exists, canonical_once}
