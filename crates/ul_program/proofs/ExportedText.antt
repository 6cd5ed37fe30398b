-- What `export` prints says what the lock of its file gives.
use Rattle.std.proofs.Common.{◌≡◌, ℕ, List, Bool, true, false, if◌then◌else◌, codes, length, nat_le, Option, Some, None, Result, Ok, Err, refl, sym, subst, inl, inr, arith}
use Rattle.ul_files.specs.Files.{FileMap}
use Rattle.ul_lock.specs.declared.parts.Lock.{Lock}
use Rattle.ul_lock.specs.WellFormed.{IsWellFormed}
use Rattle.ul_lock_write.specs.Markers.{first_over}
use Rattle.ul_reach.specs.Lines.{row_markers, rows_text}
use Rattle.ul_inputs.specs.Inputs.{text_bytes}
use Rattle.ul_inputs.specs.Locks.{lock_at}
use Rattle.ul_inputs.specs.Refused.{Refused, malformed, limit}
use Rattle.ul_answers.specs.Answer.{Answer, exported}
use Rattle.ul_answers.specs.Printed.{lock_output, printed, refused_output}
use Rattle.ul_lock_commands.specs.Exports.{ExportsAreExact, GivesRows}
use Rattle.ul_lock_commands.specs.Words.{first_other}
use Rattle.ul_commands.specs.Asked as asked
use Rattle.ul_commands.specs.Commands.{command}
use Rattle.ul_program.specs.Answer.{Prints}
use Rattle.ul_program.specs.Exported.{PrintsLock, SaysWhatIsGiven}

-- a refusal hasn't status 0
refused_status : (f : Refused) (t : List ℕ) → Prints (refused_output f) 0 t → ⊥
refused_status (malformed file place) t p = omega (arith, p.0)
refused_status (limit name number) t p = omega (arith, p.0)

by_length : (b : Bool) (text t : List ℕ) → Prints (if b then (0, text) else refused_output (limit (codes "text-bytes") text_bytes)) 0 t → t ≡ text
by_length true text t p = p.1
by_length false text t p = absurd (omega (arith, p.0))

-- with status 0 a text is printed as it is
text_printed : (over : Option ℕ) (text t : List ℕ) → Prints (lock_output over text) 0 t → t ≡ text
text_printed (Some paths) text t p = absurd (omega (arith, p.0))
text_printed None text t p = by_length (nat_le (length text) text_bytes) text t p

-- a lock that is read is well formed
read_whole : (path : List ℕ) (m : FileMap) (l : Lock) → (lock_at path m).gives (Ok l) → IsWellFormed l
read_whole path m l (inl none) = absurd none
read_whole path m l (inr on) = on.answers.well_formed

module _ (law : ExportsAreExact) (path : List ℕ) (words : List (List ℕ)) (m : FileMap) where
  -- the answer to a lock is printed
  by_words : (l : Lock) → (lock_at path m).gives (Ok l) → (o : Option (List ℕ)) → first_other l words ≡ o → (r : Result Answer Refused) (t : List ℕ)
      → GivesRows l words o r → Prints (printed r) 0 t → PrintsLock path words m t
  by_words l read None none r t g p = record {
    lock = l;
    read = read;
    rows = g.rows;
    lines = text_printed (first_over (row_markers g.rows)) (rows_text g.rows) t (subst (λ x. Prints (printed x) 0 t) g.is p);
    say = law l words g.rows (read_whole path m l read) (subst (λ o. GivesRows l words o (Ok (exported g.rows))) (sym none) (record { rows = g.rows; are = g.are; is = refl }));
  }
  by_words l read (Some word) some r t g p =
      let q = subst (λ x. Prints (printed x) 0 t) g p in absurd (omega (arith, q.0))

  of_export : (r : Result Answer Refused) (t : List ℕ) → (command (asked.export path words) m).gives r → Prints (printed r) 0 t → PrintsLock path words m t
  of_export (Ok a) t (inl none) p = absurd none
  of_export (Err f) t (inl is) p = absurd (refused_status f t p)
  of_export r t (inr on) p = by_words on.value on.gave (first_other on.value words) refl r t on.answers p

-- what is asked is answered with status 0 by a text that says what is given, if it is `export`
pub says_what_is_given : ExportsAreExact → (q : asked.Asked) (m : FileMap) (r : Result Answer Refused) (t : List ℕ) → (command q m).gives r → Prints (printed r) 0 t
    → SaysWhatIsGiven q m t
says_what_is_given law asked.usage m r t gives p = tt
says_what_is_given law (asked.lock project folder workers old) m r t gives p = tt
says_what_is_given law (asked.why project folder workers old) m r t gives p = tt
says_what_is_given law (asked.relock project folder workers old) m r t gives p = tt
says_what_is_given law (asked.gen seed size workers) m r t gives p = tt
says_what_is_given law (asked.env path machine words) m r t gives p = tt
says_what_is_given law (asked.export path words) m r t gives p = of_export law path words m r t gives p
says_what_is_given law (asked.marker path) m r t gives p = tt
says_what_is_given law (asked.check project folder derivation) m r t gives p = tt
says_what_is_given law (asked.verify project folder path) m r t gives p = tt
