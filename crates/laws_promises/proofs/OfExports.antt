-- What `export` prints.
use Rattle.std.proofs.Common.{◌≡◌, ◌∙◌, ◌≤◌, ℕ, List, length, Option, Some, None, Result, Ok, ap, sym, subst, refl}
use Rattle.ul_files.specs.Files.{FileMap, content}
use Rattle.ul_lines.specs.Lines.{lines_of}
use Rattle.ul_lock.specs.declared.parts.Lock.{Lock}
use Rattle.ul_lock_write.specs.Markers.{first_over}
use Rattle.ul_lock_write.specs.Texts.{lock_text}
use Rattle.ul_reach.specs.Lines.{row_markers, rows_text}
use Rattle.ul_reach.specs.Rows.{AreRows}
use Rattle.ul_reach.specs.declared.rows.Reached.{Reached}
use Rattle.ul_inputs.specs.Inputs.{answer, text_bytes}
use Rattle.ul_inputs.specs.Locks.{lock_at}
use Rattle.ul_inputs.specs.Refused.{Refused}
use Rattle.ul_inputs.specs.Resolutions.{ResolutionFields, resolution_in}
use Rattle.ul_answers.specs.Answer as answers
use Rattle.ul_answers.specs.Printed.{printed}
use Rattle.ul_lock_commands.specs.Exports.{GivesRows, IsExportAnswer}
use Rattle.ul_lock_commands.specs.Words.{first_other, names_of}
use Rattle.ul_commands.specs.Asked.{export, lock, verify}
use Rattle.ul_commands.specs.Commands.{command}
use Rattle.ul_commands.specs.Locking.{IsLockAnswer}
use Rattle.laws_comparisons.specs.Comparisons.{MergedAskTheirs}
use Rattle.laws_existence.specs.Inputs.{GivenHasNoExtras}
use Rattle.laws_commands.specs.Complete.{InputsAreAnswered, LocksWithinLimits}
use Rattle.laws_commands.specs.Exports.{ExportsOfFiles, ExportsOfVerifiedFiles}
use Rattle.laws_commands.specs.Printed.{PrintedLaws}
use Rattle.laws_commands.proofs.ForCallers.{answered_well, read_well, text_read}
use Rattle.laws_exports.specs.Lines.{AreRead, AreRowLines, AskWhatIsGiven, LinesAreRead}
use Rattle.laws_promises.specs.Exports.{ExportsAreRequirements, ExportsAreRight, VerifiedExportsAreRight}
use Rattle.laws_promises.proofs.OfAnswers.{asked_answer, on_zero, other_status, written_is}
use Rattle.laws_promises.proofs.OfComparisons.{answered_asks}
use Rattle.laws_promises.proofs.OfExtras.{ExtrasLaws, rows_silent}
use Rattle.laws_promises.proofs.OfFiles.{accepted_file}
use Rattle.laws_promises.proofs.OfLocks.{printed_lock}

abbrev Found : Type 0
Found = Result answers.Answer Refused

-- the answer with status 0 is the rows of a lock, and the text is theirs
record PrintsRows (l : Lock) (words : List (List ℕ)) (a : Found) (text : List ℕ) : Type 0 where
  rows : List Reached
  are : AreRows l (names_of words) rows
  is : a ≡ Ok (answers.exported rows)
  same : text ≡ rows_text rows

for_words : (l : Lock) (words : List (List ℕ)) (other : Option (List ℕ)) (a : Found) (text : List ℕ)
    → GivesRows l words other a → 0 ≡ (printed a).0 → text ≡ (printed a).1 → PrintsRows l words a text
for_words l words None a text h status e =
    let rows = h.rows in
    let zero = status ∙ ap (λ (b : Found). (printed b).0) h.is in
    record {
      rows = rows;
      are = h.are;
      is = h.is;
      same =
          e
          ∙ (ap (λ (b : Found). (printed b).1) h.is ∙ written_is (first_over (row_markers rows)) (rows_text rows) zero);
    }
for_words l words (Some word) a text h status e = absurd (other_status 0 8 a _ refl refl status h)

-- they are those of the lock in the file
record PrintsRowsOf (path : List ℕ) (words : List (List ℕ)) (m : FileMap) (a : Found) (text : List ℕ) : Type 0 where
  lock : Lock
  given : (lock_at path m).gives (Ok lock)
  prints : PrintsRows lock words a text

printed_rows : (path : List ℕ) (words : List (List ℕ)) (m : FileMap) (a : Found) (text : List ℕ)
    → (command (export path words) m).gives a → 0 ≡ (printed a).0 → text ≡ (printed a).1
    → PrintsRowsOf path words m a text
printed_rows path words m a text gives status e =
    let on = on_zero (lock_at path m) (λ l. answer (IsExportAnswer l words) m) a gives status in
    record {
      lock = on.value;
      given = on.gave;
      prints = for_words on.value words (first_other on.value words) a text on.answers status e;
    }

-- the lines of the text are read
printed_lines : LinesAreRead → (path : List ℕ) (words : List (List ℕ)) (m : FileMap) (a : Found) (text : List ℕ)
    (p : PrintsRowsOf path words m a text) → AreRowLines (lines_of text) p.prints.rows
printed_lines read path words m a text p =
    subst (λ (t : List ℕ). AreRowLines (lines_of t) p.prints.rows) (sym p.prints.same)
    (read.rows p.lock (names_of words) p.prints.rows (read_well path m p.lock p.given) p.prints.are)

pub exports_are_requirements : LinesAreRead → ExportsAreRequirements
exports_are_requirements read words m text path extras q prints =
    let told = asked_answer words m 0 text (export path extras) q prints in
    let p = printed_rows path extras m told.answer text told.gives told.prints.0 told.prints.1 in
    record {
      lock = p.lock;
      given = p.given;
      are = record {
        rows = p.prints.rows;
        lines = printed_lines read path extras m told.answer text p;
        ask = subst (λ (t : List ℕ). AskWhatIsGiven p.lock (names_of extras) (lines_of t)) (sym p.prints.same)
            (read.ask p.lock (names_of extras) p.prints.rows (read_well path m p.lock p.given) p.prints.are);
      };
    }

-- what the lines of a printed lock's rows rest on
pub record PrintedExportLaws : Type 0 where
  pub inputs : InputsAreAnswered
  pub printed : PrintedLaws
  pub merged : MergedAskTheirs
  pub extras : ExtrasLaws
  pub plain : GivenHasNoExtras
  pub lines : LinesAreRead

-- what is exported of the file into which a lock was printed is the rows of that lock
rows_printed : PrintedExportLaws → (project folder : List ℕ) (old : Option (List ℕ)) (before now : FileMap)
    (r : ResolutionFields) (l : Lock) (forks : ℕ) (path : List ℕ) (words : List (List ℕ)) (a : Found) (text : List ℕ)
    → (resolution_in project folder old before).gives (Ok r) → IsLockAnswer r (Ok (answers.locked l forks))
    → content now path ≡ Some (lock_text l) → length (lock_text l) ≤ text_bytes
    → (command (export path words) now).gives a → 0 ≡ (printed a).0 → text ≡ (printed a).1 → PrintsRows l words a text
rows_printed laws project folder old before now r l forks path words a text gave answer at few gives status e =
    let well = answered_well laws.printed project folder old before r l forks gave answer in
    let read = text_read laws.printed.texts now path l well (laws.printed.printable r l forks answer) at few in
    for_words l words (first_other l words) a text (laws.inputs.export path words now l a read gives) status e

pub exports_are_right : LocksWithinLimits → PrintedExportLaws → ExportsOfFiles → ExportsAreRight
exports_are_right limits laws law words others before now bytes text project folder workers old path extras r q v is there prints gave =
    let asked = asked_answer words before 0 bytes (lock project folder workers old) q is in
    let p = printed_lock limits project folder old before asked.answer bytes asked.gives asked.prints.0 asked.prints.1 in
    let gives = subst (λ (x : Found). (command (lock project folder workers old) before).gives x) p.is asked.gives in
    let answer = laws.inputs.lock project folder workers old before r (Ok (answers.locked p.lock p.forks)) gave gives in
    let status : 0 ≡ (printed (Ok (answers.locked p.lock p.forks))).0 =
    asked.prints.0 ∙ ap (λ (x : Found). (printed x).0) p.is in
    let at : content now path ≡ Some (lock_text p.lock) = there ∙ ap (λ (t : List ℕ). Some t) p.text in
    let told = asked_answer others now 0 text (export path extras) v prints in
    let shown = rows_printed laws project folder old before now r p.lock p.forks path extras told.answer text gave answer at
    p.few told.gives told.prints.0 told.prints.1 in
    let well = answered_well laws.printed project folder old before r p.lock p.forks gave answer in
    let asks = answered_asks laws.merged limits project folder old before r p.lock p.forks gave answer status in
    let silent = rows_silent laws.extras r p.lock (names_of extras) shown.rows
    (laws.plain project folder old before r gave) asks well shown.are in
    let is_text = sym shown.same in
    let read = subst (λ (t : List ℕ). AreRead (lines_of t)) is_text
    (laws.lines.read p.lock (names_of extras) shown.rows well shown.are silent) in
    let ask = subst (λ (t : List ℕ). AskWhatIsGiven p.lock (names_of extras) (lines_of t)) is_text
    (laws.lines.ask p.lock (names_of extras) shown.rows well shown.are) in
    let exports = subst (λ (x : Found). (command (export path extras) now).gives x) shown.is told.gives in
    record {
      lock = p.lock;
      is = p.text;
      right = record {
        rows = shown.rows;
        are = shown.same;
        lines = subst (λ (t : List ℕ). AreRowLines (lines_of t) shown.rows) is_text
            (laws.lines.rows p.lock (names_of extras) shown.rows well shown.are);
        required = law project folder old workers path extras before now r p.lock p.forks shown.rows gave gives at p.few
            exports;
      };
      read = read;
      ask = λ w world within n. (ask.all read w world within n, ask.nothing_else w world within n);
    }

pub verified_exports_are_right : LinesAreRead → ExportsOfVerifiedFiles → VerifiedExportsAreRight
verified_exports_are_right lines law words others m bytes text project folder path extras r l q v is prints gave read =
    let asked = asked_answer words m 0 bytes (verify project folder path) q is in
    let p = accepted_file project folder path m asked.answer asked.gives asked.prints.0 in
    let told = asked_answer others m 0 text (export path extras) v prints in
    let shown = printed_rows path extras m told.answer text told.gives told.prints.0 told.prints.1 in
    let exports = subst (λ (x : Found). (command (export path extras) m).gives x) shown.prints.is told.gives in
    record {
      rows = shown.prints.rows;
      are = shown.prints.same;
      lines = printed_lines lines path extras m told.answer text shown;
      required = law project folder path extras m r l shown.prints.rows gave read p.accepts exports;
    }
