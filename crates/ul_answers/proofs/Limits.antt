-- What is printed where a text isn't written.
use Rattle.std.proofs.Common.{◌≡◌, ◌<◌, ℕ, List, Bool, false, arith, cond, length, Option, Some, None, ap, sym, ◌∙◌}
use Rattle.std.specs.Prelude.{Err, codes, nat_le}
use Rattle.std.proofs.lemmas.Bool.Decides.{nat_tests}
use Rattle.std.proofs.lemmas.Option.{same_Some}
use Rattle.ul_inputs.specs.Inputs.{text_bytes}
use Rattle.ul_inputs.specs.Refused.{limit}
use Rattle.ul_lock.specs.declared.parts.Lock.{Lock}
use Rattle.ul_lock_write.specs.Headline.{WritesLock}
use Rattle.ul_lock_write.specs.Markers.{first_over, markers_of}
use Rattle.ul_lock_write.specs.Texts.{lock_text}
use Rattle.ul_nodes.specs.Plain.{Plain}
use Rattle.ul_marker_text.specs.Faults.{IsTextFault}
use Rattle.ul_marker_text.specs.declared.fault.TextFault.{TextFault}
use Rattle.ul_marker_text.specs.declared.fault.TextFault.TheVariants.{TooLong as TooLongToPrint, NoMemory as NoMemoryToPrint}
use Rattle.ul_lock_write.specs.declared.writing.WriteFault.{WriteFault}
use Rattle.ul_lock_write.specs.declared.writing.WriteFault.TheVariants.{TooManyPaths as TooManyPathsToWrite, TooLong as TooLongToWrite, NoMemory as NoMemoryToWrite}
use Rattle.ul_reach.specs.Lines.{ExportsRows, row_markers, rows_text}
use Rattle.ul_reach.specs.declared.lines.ExportFault.{ExportFault}
use Rattle.ul_reach.specs.declared.lines.ExportFault.TheVariants.{TooManyPaths, TooLong, NoMemory}
use Rattle.ul_reach.specs.declared.rows.Reached.{Reached}
use Rattle.ul_answers.specs.Limits.{Limit, line_of, of_lock, of_marker, of_rows}
use Rattle.ul_answers.specs.Printed.{Output, exported_output, lock_output, refusal_output, refused_output, text_output, too_many_paths, written}

too_long : (text : List ℕ) → text_bytes < length text → text_output text ≡ refused_output (limit (codes "text-bytes") text_bytes)
too_long text long = let no : nat_le (length text) text_bytes ≡ false = grind (arith, nat_tests) in ap (λ (b : Bool). cond b (0, text) (refused_output (limit (codes "text-bytes") text_bytes))) no

-- a text that is written where each marker is printed and it isn't too long
pub passed_paths : (first : Option ℕ) (text : List ℕ) (paths : ℕ) (o : Output) → first ≡ Some paths → Some too_many_paths ≡ Some o → o ≡ lock_output first text
passed_paths first text paths o e is = sym (same_Some too_many_paths o is) ∙ sym (ap (λ (f : Option ℕ). lock_output f text) e)

pub passed_bytes : (first : Option ℕ) (text : List ℕ) (o : Output) → first ≡ None → text_bytes < length text → Some (refused_output (limit (codes "text-bytes") text_bytes)) ≡ Some o → o ≡ lock_output first text
passed_bytes first text o e long is = sym (same_Some _ o is) ∙ (sym (too_long text long) ∙ sym (ap (λ (f : Option ℕ). lock_output f text) e))

-- the limit of a lock's fault is what the lock passes
pub lock_passed : (l : Lock) (fault : WriteFault) (told : Option Limit) (o : Output) → WritesLock l (Err fault) → told ≡ of_lock fault → line_of told ≡ Some o → o ≡ written l
lock_passed l (TooManyPathsToWrite paths) told o w e is = passed_paths (first_over (markers_of l)) (lock_text l) paths o w (sym (ap line_of e) ∙ is)
lock_passed l TooLongToWrite told o w e is = passed_bytes (first_over (markers_of l)) (lock_text l) o w.0 w.1 (sym (ap line_of e) ∙ is)
lock_passed l NoMemoryToWrite told o w e is = let no : None ≡ Some o = sym (ap line_of e) ∙ is in cc

-- and of rows likewise
pub rows_passed : (rows : List Reached) (fault : ExportFault) (told : Option Limit) (o : Output) → ExportsRows rows (Err fault) → told ≡ of_rows fault → line_of told ≡ Some o → o ≡ exported_output rows
rows_passed rows (TooManyPaths paths) told o w e is = passed_paths (first_over (row_markers rows)) (rows_text rows) paths o w (sym (ap line_of e) ∙ is)
rows_passed rows TooLong told o w e is = passed_bytes (first_over (row_markers rows)) (rows_text rows) o w.0 w.1 (sym (ap line_of e) ∙ is)
rows_passed rows NoMemory told o w e is = let no : None ≡ Some o = sym (ap line_of e) ∙ is in cc

-- of a refused fork's region likewise
pub region_passed : (region : Plain) (text : List ℕ) (fault : TextFault) (told : Option Limit) (o : Output) → IsTextFault region fault → told ≡ of_marker fault → line_of told ≡ Some o → o ≡ refusal_output region text
region_passed region text (TooLongToPrint paths) told o w e is =
    sym (same_Some too_many_paths o (sym (ap line_of e) ∙ is)) ∙ sym (ap (λ (b : Bool). cond b (1, text) too_many_paths) w.0)
region_passed region text NoMemoryToPrint told o w e is = let no : None ≡ Some o = sym (ap line_of e) ∙ is in cc
