-- Two runs print the same, whatever their numbers of workers.
use Rattle.std.specs.Prelude.{◌≡◌, ◌≢◌, ℕ, List, Bool, Option}
use Rattle.ul_files.specs.Files.{FileMap}
use Rattle.ul_nodes.specs.Plain.{Plain}
use Rattle.ul_commands.specs.Asked.{why}
use Rattle.laws_commands.specs.Answers.{AsksNoReason}
use Rattle.laws_commands.specs.Reasons.{reason_text}
use Rattle.laws_commands.specs.Workers.{with_workers}
use Rattle.ul_program.specs.Answer.{IsAnswer}
use Rattle.ul_program.specs.Words.{question}

-- words that ask the same but for the number of workers, and ask something else than why there is no lock, end with one status
-- and print the same bytes
abbrev pub RunsPrintTheSame : Type 0
RunsPrintTheSame = (words others : List (List ℕ)) (workers : ℕ) (m : FileMap) (s t : ℕ) (b c : List ℕ)
    → question others ≡ with_workers workers (question words) → AsksNoReason (question words)
    → IsAnswer words m s b → IsAnswer others m t c → (s ≡ t) × (b ≡ c)

-- both texts are the same four lines of one fork, each with the lines of a derivation behind them
pub record TellOneFork (b c : List ℕ) : Type 0 where
  pub path : List Bool
  pub region : Plain
  pub steps : List ℕ
  pub others : List ℕ
  pub first : b ≡ reason_text path region steps
  pub second : c ≡ reason_text path region others

-- one status; with status 1 one fork is told, and else the bytes are the same
pub record TellOneReason (s t : ℕ) (b c : List ℕ) : Type 0 where
  pub status : s ≡ t
  pub bytes : s ≢ 1 → b ≡ c
  pub fork : s ≡ 1 → TellOneFork b c

-- two runs of `why` that differ in the number of workers tell one reason
abbrev pub ReasonsPrintTheSame : Type 0
ReasonsPrintTheSame = (words others : List (List ℕ)) (project folder : List ℕ) (old : Option (List ℕ)) (j k : ℕ) (m : FileMap)
    (s t : ℕ) (b c : List ℕ)
    → question words ≡ why project folder j old → question others ≡ why project folder k old
    → IsAnswer words m s b → IsAnswer others m t c → TellOneReason s t b c
