-- The lemmas that crates above may cite.

-- the text of a lock is a shaped one, and one shaped text says one thing
pub use Rattle.ul_lock_read.proofs.Forms.{text_of}
pub use Rattle.ul_lock_read.proofs.WholeTexts.{one_text}
-- what is read of a text is shaped, or its first wrong line is told
pub use Rattle.ul_lock_read.proofs.WholeTexts.{text_fault, text_taken}
-- the lock of a shaped text without fault is well formed, and its markers are read
pub use Rattle.ul_lock_read.proofs.Forms.{readable, well_formed}
