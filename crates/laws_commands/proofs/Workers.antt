-- The number of workers doesn't matter.
use Rattle.ul_inputs.specs.Inputs.{Said}
use Rattle.ul_answers.specs.Answer.{Answer}
use Rattle.ul_commands.specs.Asked.{usage, lock, why, relock, gen, env, export, marker, check, verify}
use Rattle.ul_commands.specs.Commands.{command}
use Rattle.laws_commands.specs.Answers.{AnswersAreOne}
use Rattle.laws_frames.specs.Frames.{SayTheSame}
use Rattle.laws_commands.specs.Workers.{OneAnswerForAll, WorkersDontMatter, with_workers}

itself : (said : Said Answer) → SayTheSame said said
itself said = record { gives = λ a. ((λ h. h), (λ h. h)); reads = λ path. ((λ h. h), (λ h. h)) }

pub workers_dont_matter : WorkersDontMatter
workers_dont_matter usage n m = itself (command usage m)
workers_dont_matter (lock project folder workers old) n m = itself (command (lock project folder n old) m)
workers_dont_matter (why project folder workers old) n m = itself (command (why project folder n old) m)
workers_dont_matter (relock project folder workers old) n m = itself (command (relock project folder n old) m)
workers_dont_matter (gen seed size workers) n m = itself (command (gen seed size n) m)
workers_dont_matter (env path machine words) n m = itself (command (env path machine words) m)
workers_dont_matter (export path words) n m = itself (command (export path words) m)
workers_dont_matter (marker path) n m = itself (command (marker path) m)
workers_dont_matter (check project folder derivation) n m = itself (command (check project folder derivation) m)
workers_dont_matter (verify project folder path) n m = itself (command (verify project folder path) m)

pub one_for_all : AnswersAreOne → WorkersDontMatter → OneAnswerForAll
one_for_all ones same asked j k m a b g h =
    ones (with_workers k asked) m a b (((same asked k m).gives a).0 (((same asked j m).gives a).1 g)) h
