-- The number of workers doesn't matter.
use Rattle.std.specs.Prelude.{ℕ, Result}
use Rattle.ul_files.specs.Files.{FileMap}
use Rattle.ul_inputs.specs.Refused.{Refused}
use Rattle.laws_frames.specs.Frames.{SayTheSame}
use Rattle.ul_answers.specs.Answer.{Answer}
use Rattle.ul_commands.specs.Asked.{Asked, lock, why, relock, gen}
use Rattle.ul_commands.specs.Commands.{command}
use Rattle.laws_commands.specs.Answers.{SameAnswer}

-- the question with this number of workers, where it has one
abbrev pub with_workers : ℕ → Asked → Asked
with_workers n (lock project folder workers old) = lock project folder n old
with_workers n (why project folder workers old) = why project folder n old
with_workers n (relock project folder workers old) = relock project folder n old
with_workers n (gen seed size workers) = gen seed size n
with_workers n asked = asked

-- a question and the one with another number of workers have the same answers and read the same paths
abbrev pub WorkersDontMatter : Type 0
WorkersDontMatter = (asked : Asked) (n : ℕ) (m : FileMap)
    → SayTheSame (command asked m) (command (with_workers n asked) m)

-- so with any two numbers of workers there is one answer
abbrev pub OneAnswerForAll : Type 0
OneAnswerForAll = (asked : Asked) (j k : ℕ) (m : FileMap) (a b : Result Answer Refused)
    → (command (with_workers j asked) m).gives a → (command (with_workers k asked) m).gives b → SameAnswer a b
