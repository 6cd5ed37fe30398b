-- What `export` answers: in which worlds a lock gives each of its nodes, with the extras of words.
use Rattle.std.specs.Prelude.{◌≡◌, ◌≢◌, ◌↔◌, ℕ, List, Contains, true, Option, Some, None, Result, Ok}
use Rattle.ul_comparison.specs.Worlds.{WorldFields, IsWorld}
use Rattle.ul_nodes.specs.Plain.{truth}
use Rattle.ul_marker_text.specs.Headline.{ReadsAs}
use Rattle.ul_marker_text.specs.MarkerText.{marker_text}
use Rattle.ul_lock.specs.declared.parts.Lock.{Lock}
use Rattle.ul_lock.specs.Walk.{Pick as NodeAt}
use Rattle.ul_lock.specs.WellFormed.{IsWellFormed}
use Rattle.ul_reach.specs.Headline.{HasRowIn, IsGiven}
use Rattle.ul_reach.specs.Rows.{AreRows, is_supported}
use Rattle.ul_reach.specs.declared.rows.Reached.{Reached}
use Rattle.ul_inputs.specs.Refused.{Refused}
use Rattle.ul_answers.specs.Answer.{Answer, exported, no_extra}
use Rattle.ul_lock_commands.specs.Words.{first_other, names_of}

-- the rows of the lock with the words' extras
pub record IsExported (l : Lock) (words : List (List ℕ)) (a : Result Answer Refused) : Type 0 where
  pub rows : List Reached
  pub are : AreRows l (names_of words) rows
  pub is : a ≡ Ok (exported rows)

-- the answer, by the first word that isn't the name of one of the root's extras
abbrev pub GivesRows : Lock → List (List ℕ) → Option (List ℕ) → Result Answer Refused → Type 0
GivesRows l words None a = IsExported l words a
GivesRows l words (Some word) a = a ≡ Ok (no_extra word)

-- the answer of `export` to a lock and words
abbrev pub IsExportAnswer : Lock → List (List ℕ) → Result Answer Refused → Type 0
IsExportAnswer l words a = GivesRows l words (first_other l words) a

-- What the rows say of the lock: in each world that it supports, those whose markers hold are exactly the nodes at
-- versions that it gives there with the words' extras, without the root's; and a marker is printed so that it is read as
-- one of the same truth.
pub record SayWhatIsGiven (l : Lock) (words : List (List ℕ)) (rows : List Reached) : Type 0 where
  pub exact : (w : WorldFields) → IsWorld w → is_supported l w ≡ true → (p : NodeAt)
      → HasRowIn rows w p ↔ IsGiven l w (names_of words) p
  pub read : (r : Reached) → Contains rows r → r.marker ≢ truth true → ReadsAs (marker_text r.marker) r.marker

-- what `export` answers of a lock says what the lock gives in each world
abbrev pub ExportsAreExact : Type 0
ExportsAreExact = (l : Lock) (words : List (List ℕ)) (rows : List Reached) → IsWellFormed l
    → IsExportAnswer l words (Ok (exported rows)) → SayWhatIsGiven l words rows
