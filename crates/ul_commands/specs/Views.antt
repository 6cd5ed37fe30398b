-- What the questions of the code stand for.
use Rattle.std.specs.Prelude.{◌≡◌, ◌≤◌, [], map, option_map, string_bytes, IfOk, Result, Ok, Err}
use Rattle.ul_workers.specs.WorkerCount.{IsWorkerCount}
use Rattle.ul_inputs.specs.Refusals.{Answers}
use Rattle.ul_inputs.specs.declared.refusal.Refusal.{Refusal}
use Rattle.ul_inputs.specs.declared.refusal.Refusal.TheVariants.{ReadFault}
use Rattle.ul_answers.specs.Answer as answer
use Rattle.ul_answers.specs.Views.{view as answer_view}
use Rattle.ul_answers.specs.declared.answer.Answer.{Answer}
use Rattle.ul_answers.specs.declared.answer.Answer.TheVariants.{Usage as AnswerUsage}
use Rattle.ul_commands.specs.Asked as asked
use Rattle.ul_commands.specs.Generating.{gen_said}
use Rattle.ul_commands.specs.declared.asked.Asked.{Asked}
use Rattle.ul_commands.specs.declared.asked.Asked.TheVariants.{Usage, Lock, Why, Relock, Gen, Env, Export, Marker, Check, Verify}

-- what is asked
abbrev pub view : Asked → asked.Asked
view Usage = asked.usage
view (Lock project folder workers old) = asked.lock project.now folder.now workers (option_map (λ p. p.now) old)
view (Why project folder workers old) = asked.why project.now folder.now workers (option_map (λ p. p.now) old)
view (Relock project folder workers old) = asked.relock project.now folder.now workers old.now
view (Gen seed size workers) = asked.gen seed size workers
view (Env lock machine extras) = asked.env lock.now machine.now (map string_bytes extras.now)
view (Export lock extras) = asked.export lock.now (map string_bytes extras.now)
view (Marker file) = asked.marker file.now
view (Check project folder derivation) = asked.check project.now folder.now derivation.now
view (Verify project folder lock) = asked.verify project.now folder.now lock.now

-- the number of workers is one that may run, and the size of a generated project is 1 to 2,000
abbrev pub HasWorkers : Asked → Type 0
HasWorkers (Lock project folder workers old) = IsWorkerCount workers
HasWorkers (Why project folder workers old) = IsWorkerCount workers
HasWorkers (Relock project folder workers old) = IsWorkerCount workers
HasWorkers (Gen seed size workers) = (1 ≤ size) × ((size ≤ 2000) × IsWorkerCount workers)
HasWorkers _ = Unit {0}

-- the answer isn't that the words aren't a command
abbrev pub IsAnswering : answer.Answer → Type 0
IsAnswering answer.usage = ⊥
IsAnswering _ = Unit {0}

-- an answer that isn't that
abbrev pub GivesAnswer : Result Answer Refusal → Type 0
GivesAnswer r = IfOk r (λ a. IsAnswering (answer_view a))

-- no read failed
abbrev pub IsSure : Result Answer Refusal → Type 0
IsSure (Err (ReadFault path)) = ⊥
IsSure _ = Unit {0}

-- what the words alone decide, whatever the files tell
abbrev pub IsByWords : Asked → Result Answer Refusal → Type 0
IsByWords Usage r = r ≡ Ok AnswerUsage
IsByWords (Gen seed size workers) r = GivesAnswer r × (IsSure r × Answers answer_view r (gen_said seed size []))
IsByWords _ r = GivesAnswer r
