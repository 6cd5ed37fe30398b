-- The lemmas that crates above may cite.

-- both regions of a split have trees
pub use Rattle.laws_commands.proofs.Reasons.{split_goes}
-- equal results have equal values, and no value is a refusal
pub use Rattle.laws_commands.proofs.Ones.{not_both, ok_same}
-- a lock file gives at most one result
pub use Rattle.laws_commands.proofs.Inputs.{one_lock_at}
-- a length within the limit, the text of a lock is read as the lock, and the parts of what the files give
pub use Rattle.laws_commands.proofs.ReadFiles.{Read, fits, read_of, text_read}
-- what is read of a file is its text
pub use Rattle.laws_commands.proofs.LockFiles.{file_read}
-- a lock that is read is well formed, and one that is answered is that and verified
pub use Rattle.laws_commands.proofs.VerifiedFiles.{answered_verified, answered_well, read_well}
