-- What the program answers, as a status and the bytes that are printed, from the words and the files.
use Rattle.std.specs.Prelude.{◌≡◌, ◌⊎◌, ℕ, List, ◌++◌, Option, Some, Result}
use Rattle.ul_files.specs.Files.{FileMap}
use Rattle.ul_inputs.specs.Refused.{Refused}
use Rattle.ul_answers.specs.Answer as answer
use Rattle.ul_answers.specs.Printed.{Output, printed}
use Rattle.ul_commands.specs.Asked.{Asked, usage, lock, why, relock, gen, env, export, marker, check, verify}
use Rattle.ul_commands.specs.Commands.{command}
use Rattle.ul_program.specs.Words.{question}

-- these are the status and the bytes of an output
abbrev pub Prints : Output → ℕ → List ℕ → Type 0
Prints output status bytes = (status ≡ output.0) × (bytes ≡ output.1)

-- What is asked is answered so: the command gives an answer or a refusal of these files, and this is what is printed for
-- it.
pub record IsAskedAnswer (m : FileMap) (asked : Asked) (status : ℕ) (bytes : List ℕ) : Type 0 where
  pub answer : Result answer.Answer Refused
  pub gives : (command asked m).gives answer
  pub prints : Prints (printed answer) status bytes

-- the answer of the program
unfoldable pub IsAnswer : List (List ℕ) → FileMap → ℕ → List ℕ → Type 0
IsAnswer words m status bytes = IsAskedAnswer m (question words) status bytes

-- the path is one of those that are read of the files for these words, up to the first refusal
unfoldable pub IsRead : List (List ℕ) → FileMap → List ℕ → Type 0
IsRead words m path = (command (question words) m).reads path

-- what is asked is answered without any file
abbrev pub NeedsNoFile : Asked → Type 0
NeedsNoFile usage = Unit {0}
NeedsNoFile (lock project folder workers old) = ⊥
NeedsNoFile (why project folder workers old) = ⊥
NeedsNoFile (relock project folder workers old) = ⊥
NeedsNoFile (gen seed size workers) = Unit {0}
NeedsNoFile (env path machine extras) = ⊥
NeedsNoFile (export path extras) = ⊥
NeedsNoFile (marker path) = ⊥
NeedsNoFile (check project folder derivation) = ⊥
NeedsNoFile (verify project folder path) = ⊥

-- the words aren't one of the commands
abbrev pub IsUsage : List (List ℕ) → Type 0
IsUsage words = question words ≡ usage

-- the program's answer was printed after what was there; or there was no memory and nothing was printed
abbrev pub Answered : List (List ℕ) → FileMap → ℕ → List ℕ → Option (List ℕ) → Type 0
Answered words m status had has =
    ((bytes : List ℕ) × IsAnswer words m status bytes × (has ≡ Some (had ++ bytes))) ⊎ ((status ≡ 7) × (has ≡ Some had))
