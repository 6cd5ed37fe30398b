-- The answer to what is asked depends on the paths that are read for it alone.
use Rattle.laws_frames.specs.Frames.{IsByWhatIsRead}
use Rattle.ul_commands.specs.Asked.{Asked}
use Rattle.ul_commands.specs.Commands.{command}

-- of maps that have the same at each path which is read for it, what is asked has the same answers, and the same paths are
-- read for it
abbrev pub AnswersByWhatIsRead : Type 0
AnswersByWhatIsRead = (asked : Asked) → IsByWhatIsRead (command asked)
