-- The lemmas that crates above may cite.

-- literals of names, and formulas that don't ask for an extra
pub use Rattle.ul_marker.proofs.PartProofs.{names_are_literals, truth_is_plain}
-- the formula of a marker that was read is a marker's
pub use Rattle.ul_marker.proofs.Valid.{marker-formula, printed-formula}
-- a text is read as what the grammar spells
pub use Rattle.ul_marker.proofs.Spelled.{reading_is_grammar, spelled_once}
-- what a document and a lock read of what is printed
pub use Rattle.ul_marker.proofs.Dialects.{dialects_agree}
-- printed comparisons are read back, alone and joined
pub use Rattle.ul_marker.proofs.PrintedBack.{comparison-reads, paths-read}
