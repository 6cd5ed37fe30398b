-- The lemmas that crates above may cite.

-- steps that are right one after another have names
pub use Rattle.ul_report.proofs.Nameable.{right_named}
