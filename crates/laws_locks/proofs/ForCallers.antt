-- The lemmas that crates above may cite.

-- what is wanted has an index, where candidates are listed and each is decided
pub use Rattle.laws_locks.proofs.Indexes.{AreIndexParts, index_exists}
-- the order of nodes at versions is total
pub use Rattle.laws_locks.proofs.Levels.{picks_total}
-- what has a tree has a marker under a region that isn't false
pub use Rattle.laws_locks.proofs.Edges.{marker_made}
