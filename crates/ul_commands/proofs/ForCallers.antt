-- Lemmas for crates above.

-- the catalog begins with the project, whose region has a world
pub use Rattle.ul_commands.proofs.Mergeable.{begins, supported_has_world}
-- a lock that is answered is the merged one, and no refused fork is answered with one
pub use Rattle.ul_commands.proofs.Written.{fork_not_locked, written_lock}
-- the regions of leaves have worlds, and lie in the supported region
pub use Rattle.ul_commands.proofs.Mergeable.{IsInside, all_inside, leaves_have_worlds}
-- the test of the extras that the root lists decides; and without an old lock's versions a resolution is one as well
pub use Rattle.ul_commands.proofs.RootExtras.{extras_decided}
pub use Rattle.ul_commands.proofs.Relocked.{unkept_is}
