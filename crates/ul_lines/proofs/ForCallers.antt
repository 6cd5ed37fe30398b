-- The lemmas that crates above may cite.

-- values that are there
pub use Rattle.ul_lines.proofs.LinePieces.{some_is, bind_some, map_some, same_text, eqb_self, bytes_eq_self}
-- pieces of a line: what is cut is what stood there, and what stands there is cut
pub use Rattle.ul_lines.proofs.LinePieces.{strip_is, strip_again, until_is, until_again, inside_is, inside_again, enclosed_is, enclosed_again, has_none}
-- a line's end
pub use Rattle.ul_lines.proofs.TextLines.{skip_line}
-- properties of each element
pub use Rattle.ul_lines.proofs.Reading.{Each-join, Each-snoc, Each-left, Each-right, Each-weaker}
-- running over lines
pub use Rattle.ul_lines.proofs.Reading.{run_append, run_then, run_one}
-- as a program goes over a text
pub use Rattle.ul_lines.proofs.Reading.{read_start, reads_on, reads_wrong, reads_end}
-- what a reader reads, exactly
pub use Rattle.ul_lines.proofs.Reading.{Right, text_taken, text_again, text_fault, one_text}
-- a text has at most one fault, and none where it is right
pub use Rattle.ul_lines.proofs.Faults.{one_fault, right_has_none}
