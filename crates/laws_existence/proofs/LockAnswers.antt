-- What `env` and `export` answer to a lock that is given.
use Rattle.std.proofs.Common.{◌≤◌, ℕ, List, Bool, true, false, Option, Some, None, Result, Ok, length, refl, sym, subst}
use Rattle.ul_comparison.specs.Machines.{MachineFields}
use Rattle.ul_lock.specs.declared.parts.Lock.{Lock}
use Rattle.ul_filter.specs.Comparisons.{machine_world}
use Rattle.ul_filter.specs.Environment.{environment_text}
use Rattle.ul_filter.specs.Headline.{is_supported_at}
use Rattle.ul_inputs.specs.Inputs.{text_bytes}
use Rattle.ul_inputs.specs.Refused.{Refused}
use Rattle.ul_answers.specs.Answer.{Answer, environment, exported, no_extra, outside}
use Rattle.ul_lock_commands.specs.Environments.{GivesFor, GivesWhere, IsEnvAnswer}
use Rattle.ul_lock_commands.specs.Exports.{GivesRows, IsExportAnswer}
use Rattle.ul_lock_commands.specs.Words.{first_other, names_of}
use Rattle.laws_walks.specs.Exists.{FewExtras, HasFewExtras, PicksExist, RowsExist}
use Rattle.laws_existence.proofs.LockTexts.{HasShortText}

-- what they rest on: a lock whose text isn't too long has few extras, a lock with few has picks, and each has rows
pub record WalkLaws : Type 0 where
  pub few : FewExtras
  pub picks : PicksExist
  pub rows : RowsExist

few_extras : FewExtras → (l : Lock) → HasShortText l → HasFewExtras l
few_extras few l had =
    few had.is_text.edition l (subst (λ text. length text ≤ text_bytes) (sym had.is_text.same) had.short)

-- ---- `env`

gives_for : WalkLaws → (l : Lock) (m : MachineFields) (words : List (List ℕ)) → HasShortText l → (o : Option (List ℕ))
    → (a : Result Answer Refused) × GivesFor l m words o a
gives_for laws l m words had None =
    let picks = laws.picks l (machine_world l m) (names_of words) (few_extras laws.few l had) in
    let text = environment_text picks.0 in
    (Ok (environment text), record { text = text; lines = (picks.0, picks.1, refl); is = refl })
gives_for laws l m words had (Some word) = (Ok (no_extra word), refl)

gives_where : WalkLaws → (l : Lock) (m : MachineFields) (words : List (List ℕ)) → HasShortText l → (b : Bool)
    → (a : Result Answer Refused) × GivesWhere b l m words a
gives_where laws l m words had true = gives_for laws l m words had (first_other l words)
gives_where laws l m words had false = (Ok outside, refl)

-- `env` answers
pub env_answered : WalkLaws → (l : Lock) (m : MachineFields) (words : List (List ℕ)) → HasShortText l
    → (a : Result Answer Refused) × IsEnvAnswer l m words a
env_answered laws l m words had = gives_where laws l m words had (is_supported_at l (machine_world l m))

-- ---- `export`

rows_for : WalkLaws → (l : Lock) (words : List (List ℕ)) → HasShortText l → (o : Option (List ℕ))
    → (a : Result Answer Refused) × GivesRows l words o a
rows_for laws l words had None =
    let rows = laws.rows l (names_of words) had.is_text.well_formed in
    (Ok (exported rows.0), record { rows = rows.0; are = rows.1; is = refl })
rows_for laws l words had (Some word) = (Ok (no_extra word), refl)

-- `export` answers
pub export_answered : WalkLaws → (l : Lock) (words : List (List ℕ)) → HasShortText l
    → (a : Result Answer Refused) × IsExportAnswer l words a
export_answered laws l words had = rows_for laws l words had (first_other l words)
