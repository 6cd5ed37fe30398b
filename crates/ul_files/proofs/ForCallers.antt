-- The lemmas that crates above may cite.

-- what is still on record after one read more, and what that read tells of each map that agrees with the record
pub use Rattle.ul_files.proofs.Agreeing.{agrees_front, remembers_read, read_tells}
