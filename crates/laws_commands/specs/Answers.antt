-- What is asked has one answer.
use Rattle.std.specs.Prelude.{◌≡◌, ℕ, List, [], Option, Result, Ok}
use Rattle.ul_files.specs.Files.{FileMap}
use Rattle.ul_inputs.specs.Refused.{Refused}
use Rattle.ul_answers.specs.Answer.{Answer, derived, locked, no_selection, none_refused, unwritten}
use Rattle.ul_commands.specs.Asked.{Asked, lock, why}
use Rattle.ul_commands.specs.Commands.{command}

-- a result without the lines of a derivation's steps
abbrev pub without_steps : Result Answer Refused → Result Answer Refused
without_steps (Ok (derived path region steps)) = Ok (derived path region [])
without_steps r = r

-- two results are equal, unless they are derivations of one fork, which has one path and one region, and may have
-- several derivations
abbrev pub SameAnswer : Result Answer Refused → Result Answer Refused → Type 0
SameAnswer a b = without_steps a ≡ without_steps b

-- what is asked has at most one answer, or one refusal, on the same files
abbrev pub AnswersAreOne : Type 0
AnswersAreOne = (asked : Asked) (m : FileMap) (a b : Result Answer Refused)
    → (command asked m).gives a → (command asked m).gives b → SameAnswer a b

-- something else is asked than why there is no lock
abbrev pub AsksNoReason : Asked → Type 0
AsksNoReason (why project folder workers old) = ⊥
AsksNoReason _ = Unit {0}

-- and unless that is asked, the answers are equal
abbrev pub AnswersAreEqual : Type 0
AnswersAreEqual = (asked : Asked) (m : FileMap) (a b : Result Answer Refused) → AsksNoReason asked
    → (command asked m).gives a → (command asked m).gives b → a ≡ b

-- what `why` answers where `lock` answers this, without the lines of steps: that no fork is refused, whether or not the lock
-- is written, or the refused fork, if that is told; a refusal is a refusal
abbrev pub reason_of : Result Answer Refused → Result Answer Refused
reason_of (Ok (locked l forks)) = Ok none_refused
reason_of (Ok unwritten) = Ok none_refused
reason_of (Ok (no_selection path region core)) = Ok (derived path region [])
reason_of r = r

-- on the same files `why` tells the fork that `lock` tells, whatever the numbers of workers
abbrev pub WhyFollowsLock : Type 0
WhyFollowsLock = (project folder : List ℕ) (old : Option (List ℕ)) (j k : ℕ) (m : FileMap)
    (a b : Result Answer Refused)
    → (command (lock project folder j old) m).gives a → (command (why project folder k old) m).gives b
    → without_steps b ≡ reason_of a
