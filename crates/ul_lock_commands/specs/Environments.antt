-- What `env` answers: what a lock gives on a machine, with the extras of words.
use Rattle.std.specs.Prelude.{◌≡◌, ℕ, List, Bool, true, false, Option, Some, None, Result, Ok}
use Rattle.ul_comparison.specs.Machines.{MachineFields}
use Rattle.ul_lock.specs.declared.parts.Lock.{Lock}
use Rattle.ul_filter.specs.Comparisons.{machine_world}
use Rattle.ul_filter.specs.Headline.{IsEnvironment, is_supported_at}
use Rattle.ul_inputs.specs.Inputs.{Input, ◌>>=◌, answer}
use Rattle.ul_inputs.specs.Machines.{machine_at}
use Rattle.ul_inputs.specs.Refused.{Refused}
use Rattle.ul_answers.specs.Answer.{Answer, environment, outside, no_extra}
use Rattle.ul_lock_commands.specs.Words.{first_other, names_of}

-- the lines of what the lock gives in the machine's world with the words' extras
pub record IsGiven (l : Lock) (m : MachineFields) (words : List (List ℕ)) (a : Result Answer Refused) : Type 0 where
  pub text : List ℕ
  pub lines : IsEnvironment l (machine_world l m) (names_of words) text
  pub is : a ≡ Ok (environment text)

-- the answer, where the lock is for the machine
abbrev pub GivesFor : Lock → MachineFields → List (List ℕ) → Option (List ℕ) → Result Answer Refused → Type 0
GivesFor l m words None a = IsGiven l m words a
GivesFor l m words (Some word) a = a ≡ Ok (no_extra word)

-- the answer, by whether the lock is for the machine
abbrev pub GivesWhere : Bool → Lock → MachineFields → List (List ℕ) → Result Answer Refused → Type 0
GivesWhere false l m words a = a ≡ Ok outside
GivesWhere true l m words a = GivesFor l m words (first_other l words) a

-- the answer of `env` to a lock, a machine and words
abbrev pub IsEnvAnswer : Lock → MachineFields → List (List ℕ) → Result Answer Refused → Type 0
IsEnvAnswer l m words a = GivesWhere (is_supported_at l (machine_world l m)) l m words a

-- the answer to a lock, with the machine of a machine file
abbrev pub env_on : (machine : List ℕ) → (words : List (List ℕ)) → Lock → Input Answer
env_on path words l = machine_at path >>= λ m. answer (IsEnvAnswer l m words)
