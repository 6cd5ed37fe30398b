-- The lemmas that crates above cite: all else here may change.
pub use Rattle.ul_algebra.proofs.Kept.{diagram_stays}
