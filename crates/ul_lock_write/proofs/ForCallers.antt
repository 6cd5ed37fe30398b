-- The lemmas that crates above may cite.

-- the first marker that isn't printed, among two lists, in a list of one, and in none
pub use Rattle.ul_lock_write.proofs.OverPaths.{over_join, over_one, over_none}
-- a lock that is written is one that is read
pub use Rattle.ul_lock_write.proofs.Readable.{lock_readable}
