-- The lemmas that crates above may cite.

-- the orders of a lock's lists are strict
pub use Rattle.ul_sound.proofs.Strict.{IsStrict, strict, blocks_strict, edges_strict, extras_strict}
-- a list in order with a right element for each wanted key is determined
pub use Rattle.ul_sound.proofs.Indexes.{before_all, increasing_same, index_once}
-- a tree that is simplified under a region is a region, if both hold at some world
pub use Rattle.ul_sound.proofs.NoExtra.{simplified_region}
-- the project has one eligible version
pub use Rattle.ul_sound.proofs.RootVersion.{only_version}
-- an eligible version of the project's name is that of its release
pub use Rattle.ul_sound.proofs.RootVersion.{version_in_first}
-- a merged lock has the packages and edges of its leaves, and says where they are true
pub use Rattle.ul_sound.proofs.Reading.{leads_from, leads_to}
-- such a lock is sound, what it gives in a world, the leaf of the world chose, and what some leaf chose is eligible
pub use Rattle.ul_sound.proofs.Soundness.{given_chosen, merges_sound, pair_eligible}
