-- The lemmas that crates above may cite.

-- what is read of a line is spelled so, what is spelled so is read, and a line ends in LF
pub use Rattle.ul_lock_lines.proofs.TypedLaws.{line_takes, line_again, line_ends}
-- the region of all worlds is read
pub use Rattle.ul_lock_lines.proofs.TypedLaws.{all_readable}
-- names and versions in a line: what is read is spelled so, what is spelled so is read, and bytes that none has
pub use Rattle.ul_lock_lines.proofs.TypedLaws.{name_is, name_again, name_has, version_is, version_again, version_has}
