-- Each input of a command is said by the files: a value, or a refusal.
use Rattle.std.specs.Prelude.{◌≡◌, ℕ, List, false, IfSome, Option, Ok, Result}
use Rattle.std.specs.List.{AllByRecursion}
use Rattle.ul_files.specs.Files.{FileMap}
use Rattle.ul_marker.specs.Parts.{asks_extras}
use Rattle.ul_forks.specs.Outcome.{starts_of}
use Rattle.laws_problems.specs.Exists.{IsAskedOf}
use Rattle.ul_inputs.specs.Inputs.{Input}
use Rattle.ul_inputs.specs.Locks.{lock_at}
use Rattle.ul_inputs.specs.Projects.{project_at}
use Rattle.ul_inputs.specs.Refused.{Refused}
use Rattle.ul_inputs.specs.Resolutions.{ResolutionFields, resolution_in}
use Rattle.ul_commands.specs.Checking.{proof_at}
use Rattle.ul_commands.specs.Questions.{question_of}

-- the files give an answer
abbrev pub IsGiven : {A : Type 0} → Input A → FileMap → Type 0
IsGiven {A} input m = (r : Result A Refused) × (input m).gives r

-- each input is given
pub record InputsAreGiven : Type 0 where
  pub project : (path : List ℕ) (m : FileMap) → IsGiven (project_at path) m
  pub lock : (path : List ℕ) (m : FileMap) → IsGiven (lock_at path) m
  pub derivation : (path : List ℕ) (m : FileMap) → IsGiven (proof_at path) m
  pub resolution : (project folder : List ℕ) (old : Option (List ℕ)) (m : FileMap)
      → IsGiven (resolution_in project folder old) m

-- what files give can be asked of
abbrev pub GivenIsAskable : Type 0
GivenIsAskable = (project folder : List ℕ) (old : Option (List ℕ)) (m : FileMap) (r : ResolutionFields)
    → (resolution_in project folder old m).gives (Ok r) → IsAskedOf r.catalog (starts_of (question_of r))

-- no comparison with `extras` stands in the environments that the project names, nor in the markers of the catalog
pub record HasNoExtras (r : ResolutionFields) : Type 0 where
  pub environments : AllByRecursion (λ f. asks_extras f ≡ false) r.project.environments
  pub requirements : AllByRecursion (λ found. AllByRecursion (λ release. AllByRecursion (λ q. IfSome q.marker (λ f. asks_extras f ≡ false)) release.requirements) found.releases) r.catalog

-- what files give asks for no such comparison, since PEP 508 has none
abbrev pub GivenHasNoExtras : Type 0
GivenHasNoExtras = (project folder : List ℕ) (old : Option (List ℕ)) (m : FileMap) (r : ResolutionFields)
    → (resolution_in project folder old m).gives (Ok r) → HasNoExtras r
