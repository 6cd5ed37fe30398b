-- Reading whole texts: the reader of locks is one, and what follows of it.
use Rattle.std.proofs.Common.{◌≡◌, ℕ, List, Ok, Err}
use Rattle.ul_lines.specs.Lines.{lines_of}
use Rattle.ul_lines.specs.Faults.{IsFault}
use Rattle.ul_lines.specs.Reader.{IsReader, read_text}
use Rattle.ul_lines.proofs.ForCallers.{text_taken as taken_by, text_again as again_by, text_fault as fault_by, one_text as one_by}
use Rattle.ul_lock_lines.specs.Text.{Fit}
use Rattle.ul_lock_lines.proofs.ForCallers.{line_takes, line_again, line_ends}
use Rattle.ul_lock_write.specs.declared.sheets.Sheet.{Sheet}
use Rattle.ul_lock_read.specs.Automaton.{lock_reader}
use Rattle.ul_lock_read.specs.Shaped.{IsSheet}
use Rattle.ul_lock_write.specs.Sheet.{sheet_lines}
use Rattle.ul_lock_write.specs.Texts.{sheet_text}
use Rattle.ul_lock_read.specs.ShapedTexts.{IsText, AreShaped}
use Rattle.ul_lock_read.proofs.Accepts.{accepts}
use Rattle.ul_lock_read.proofs.Finishes.{run_shaped, run_begins}

reader_laws : IsReader lock_reader Fit sheet_lines IsSheet
reader_laws = record { takes = line_takes; again = line_again; ends = line_ends; shaped = run_shaped; begins = run_begins; accepts = accepts }

-- what is read is spelled so, and shaped
pub text_taken : (bytes : List ℕ) (x : Sheet) → read_text lock_reader bytes ≡ Ok x → IsText x × (sheet_text x ≡ bytes)
text_taken bytes x e = taken_by lock_reader Fit sheet_lines IsSheet reader_laws bytes x e

-- a shaped text is read
pub text_again : (x : Sheet) → IsText x → read_text lock_reader (sheet_text x) ≡ Ok x
text_again x k = again_by lock_reader Fit sheet_lines IsSheet reader_laws x k

-- a fault is the first line that is wrong
pub text_fault : (bytes : List ℕ) (n : ℕ) → read_text lock_reader bytes ≡ Err n → IsFault AreShaped (lines_of bytes) n
text_fault bytes n e = fault_by lock_reader Fit sheet_lines IsSheet reader_laws bytes n e

-- one shaped text says one thing
pub one_text : (x y : Sheet) → IsText x → IsText y → sheet_text x ≡ sheet_text y → x ≡ y
one_text x y h k e = one_by lock_reader Fit sheet_lines IsSheet reader_laws x y h k e
