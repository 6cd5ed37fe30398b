-- The rows that are exported say what the lock gives.
use Rattle.std.proofs.Common.{◌≡◌, ℕ, List, Option, Some, None, Result, Ok, subst, sym}
use Rattle.ul_lock.specs.declared.parts.Lock.{Lock}
use Rattle.ul_reach.specs.Headline.{RowPromises}
use Rattle.ul_reach.specs.Rows.{AreRows}
use Rattle.ul_reach.specs.declared.rows.Reached.{Reached}
use Rattle.ul_inputs.specs.Refused.{Refused}
use Rattle.ul_answers.specs.Answer.{Answer, exported, no_extra}
use Rattle.ul_lock_commands.specs.Exports.{ExportsAreExact, GivesRows}
use Rattle.ul_lock_commands.specs.Words.{first_other, names_of}

same_rows : (rows others : List Reached) → (let r : Result Answer Refused = Ok (exported rows) in r) ≡ Ok (exported others) → rows ≡ others
same_rows rows others e = cc

no_rows : (rows : List Reached) (word : List ℕ) → (let r : Result Answer Refused = Ok (exported rows) in r) ≡ Ok (no_extra word) → ⊥
no_rows rows word e = cc

-- what is exported are the lock's rows
rows_are : (l : Lock) (words : List (List ℕ)) (rows : List Reached) (o : Option (List ℕ)) → GivesRows l words o (Ok (exported rows)) → AreRows l (names_of words) rows
rows_are l words rows None g = subst (AreRows l (names_of words)) (sym (same_rows rows g.rows g.is)) g.are
rows_are l words rows (Some word) g = absurd (no_rows rows word g)

pub exports_are_exact : RowPromises → ExportsAreExact
exports_are_exact promises l words rows ok gives =
    let are = rows_are l words rows (first_other l words) gives in
    record {
      exact = λ w is within p. promises.exact l (names_of words) rows ok are w is within p;
      read = λ r at more. promises.reads l (names_of words) rows r ok are at more;
    }
