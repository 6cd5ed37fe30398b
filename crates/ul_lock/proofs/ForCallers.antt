-- The lemmas that crates above may cite.

-- all worlds are a region
pub use Rattle.ul_lock.proofs.AllWorlds.{all_region}
-- the walk is the least such set, and the same in worlds that agree on the lock's comparisons
pub use Rattle.ul_lock.proofs.Walks.{walk_is_least, walks_agree}
-- worlds that agree on a tree's comparisons give it one truth
pub use Rattle.ul_lock.proofs.Walks.{holds_alike}
