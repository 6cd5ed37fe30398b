-- What `marker` prints.
use Rattle.std.specs.Prelude.{◌≡◌, ℕ, List, Some}
use Rattle.ul_files.specs.Files.{FileMap, content}
use Rattle.ul_canonical.specs.Headline.{IsCanonicalText}
use Rattle.ul_commands.specs.Asked.{marker}
use Rattle.ul_program.specs.Answer.{IsAnswer}
use Rattle.ul_program.specs.Words.{question}

-- what is printed with status 0 of a file's bytes has a line for each line of them, which says in each world what that
-- line says; and two of its lines are equal exactly where theirs are true in the same worlds
abbrev pub MarkersAreCanonical : Type 0
MarkersAreCanonical = (words : List (List ℕ)) (m : FileMap) (bytes text path : List ℕ)
    → question words ≡ marker path → content m path ≡ Some bytes → IsAnswer words m 0 text → IsCanonicalText bytes text
