-- The lemmas that crates above may cite.

-- texts that are cut by classes of bytes: how many bytes in front pass a test, and the text after them
pub use Rattle.ul_version.proofs.ByteRuns.{run-more, run-stop, run-end, run-all, run-fits, after_all-drop, after_all-skip, after_all-stop, after_all-end}
-- the text before the bytes at its end that pass a test
pub use Rattle.ul_version.proofs.ByteRuns.{before_all-skip, before_all-stop, before_all-none}
-- whether each byte passes, and the pieces between those that do
pub use Rattle.ul_version.proofs.ByteRuns.{all-more, all-stop, split-last, split-more}
-- an answer that is there, behind a step, a test or a constructor
pub use Rattle.ul_version.proofs.Cuts.{bind_some}
pub use Rattle.ul_version.proofs.Spelling.{cond_some, inside}
-- padded releases, and lists of numbers whose first difference decides
pub use Rattle.ul_version.proofs.Orders.{get_or-padded, length-padded, numbers_cmp-next, numbers_cmp-ended, nat_cmp-decided}
-- the order of versions is total, and its ties differ in zeros
pub use Rattle.ul_version.proofs.OrderLaws.{version_total, version_ties}
-- the numbers with which a padded release begins
pub use Rattle.ul_version.proofs.Fronts.{front-all, front-differs}
-- what a text is read as is a version, and a version's normal text reads as it
pub use Rattle.ul_version.proofs.LawProofs.{versions}
pub use Rattle.ul_version.proofs.RoundTrip.{version-read}
-- a normal text is plain, and tells versions apart
pub use Rattle.ul_version.proofs.LawProofs.{plain, tells}
-- the laws of the order
pub use Rattle.ul_version.proofs.LawProofs.{order, ties}
-- above each version there is a greater one, and the release 0 is a version
pub use Rattle.ul_version.proofs.VersionAbove.{above_is_version, version_below, zero_is_version}
