-- Each question has an answer on every map of files.
use Rattle.std.specs.Prelude.{Result}
use Rattle.ul_files.specs.Files.{FileMap}
use Rattle.ul_inputs.specs.Refused.{Refused}
use Rattle.ul_answers.specs.Answer.{Answer}
use Rattle.ul_commands.specs.Asked.{Asked}
use Rattle.ul_commands.specs.Commands.{command}

-- what is asked is answered by the files
abbrev pub AnswersExist : Type 0
AnswersExist = (asked : Asked) (m : FileMap) → (a : Result Answer Refused) × (command asked m).gives a
