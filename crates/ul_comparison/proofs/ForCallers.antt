-- The lemmas that crates above may cite.

-- the order of atoms is total and tells them apart, as numbers tell variables and kinds
pub use Rattle.ul_comparison.proofs.AtomOrder.{atoms_total}
pub use Rattle.ul_comparison.proofs.AtomNumbers.{kind_back, kind_of, same_atom, variable_back, variable_of}
-- atoms that are put among others, and the truths of a machine
pub use Rattle.ul_comparison.proofs.Placed.{put_atoms, put_rises, truths_are, truths_rise}
-- the texts of interpreters
pub use Rattle.ul_comparison.proofs.Interpreters.{interpreter-is, interpreter-literal, interpreter-version, interpreter_quoted}
-- a name in its normal form reads as itself
pub use Rattle.ul_comparison.proofs.NormalNames.{normal_if, normal_then}
