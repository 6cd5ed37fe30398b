-- The lemmas that crates above may cite.

-- what is read of a text, and what a marker of a lock is
pub use Rattle.ul_marker_text.proofs.MarkerTrees.{text_again, read_is_marker, truth_is_none, star_is_none, tree_is_marker}
pub use Rattle.ul_marker_text.proofs.MarkerTrees.{marker_reduced, marker_region, marker_no_extra, marker_readable}
-- which trees' texts are read
pub use Rattle.ul_marker_text.proofs.Levels.{printable_readable, truth_readable}
-- one text, one tree
pub use Rattle.ul_marker_text.proofs.MarkerTrees.{one_text, star_is_true}
-- a tree's text as a marker
pub use Rattle.ul_marker_text.proofs.SaidTruths.{node_reads, text_reads}
-- the bytes of texts
pub use Rattle.ul_marker_text.proofs.PlainTexts.{marker_plain, marker_10, marker_92}
