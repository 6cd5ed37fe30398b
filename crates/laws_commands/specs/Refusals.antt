-- A fork that is printed in place of a lock is served by nothing.
use Rattle.std.specs.Prelude.{ℕ, List, Bool, Option, Ok}
use Rattle.ul_files.specs.Files.{FileMap}
use Rattle.ul_nodes.specs.Plain.{Plain}
use Rattle.ul_inputs.specs.Resolutions.{ResolutionFields, resolution_in}
use Rattle.ul_answers.specs.Answer.{derived, no_selection}
use Rattle.ul_commands.specs.Asked.{lock, why}
use Rattle.ul_commands.specs.Commands.{command}
use Rattle.ul_commands.specs.Laws.{IsUnserved}

-- the fork that `lock` tells of files has a world, and no selection serves it; under `deep` none serves a single world of it
abbrev pub RefusalsOfFiles : Type 0
RefusalsOfFiles = (project folder : List ℕ) (old : Option (List ℕ)) (workers : ℕ) (m : FileMap) (r : ResolutionFields)
    (path : List Bool) (region : Plain) (core : List ℕ)
    → (resolution_in project folder old m).gives (Ok r)
    → (command (lock project folder workers old) m).gives (Ok (no_selection path region core)) → IsUnserved r region

-- and so is the fork that `why` tells
abbrev pub ReasonsOfFiles : Type 0
ReasonsOfFiles = (project folder : List ℕ) (old : Option (List ℕ)) (workers : ℕ) (m : FileMap) (r : ResolutionFields)
    (path : List Bool) (region : Plain) (steps : List ℕ)
    → (resolution_in project folder old m).gives (Ok r)
    → (command (why project folder workers old) m).gives (Ok (derived path region steps)) → IsUnserved r region
