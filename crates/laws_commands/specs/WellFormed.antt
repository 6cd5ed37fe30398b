-- A lock that is answered is well formed.
use Rattle.std.specs.Prelude.{ℕ, List, Option, Ok, map}
use Rattle.ul_files.specs.Files.{FileMap}
use Rattle.ul_lock.specs.declared.parts.Lock.{Lock}
use Rattle.ul_lock.specs.WellFormed.{IsWellFormed}
use Rattle.ul_generations.specs.Generations.{leaves_are}
use Rattle.ul_forks.specs.Headline.{TreeLeaf}
use Rattle.ul_sound.specs.Headline.{AreMergeable}
use Rattle.ul_inputs.specs.Resolutions.{IsResolution, ResolutionFields}
use Rattle.laws_given.specs.Given.{HasTexts}
use Rattle.ul_answers.specs.Answer.{locked}
use Rattle.ul_commands.specs.Asked.{lock}
use Rattle.ul_commands.specs.Commands.{command}
use Rattle.ul_commands.specs.Locking.{IsLockAnswer, leaf_fields}
use Rattle.ul_commands.specs.Questions.{IsForked}

-- the leaves of a resolution's fork answer can be merged
abbrev pub ForksMerge : Type 0
ForksMerge = (r : ResolutionFields) (leaves : List TreeLeaf) → IsResolution r → HasTexts r → IsForked r (leaves_are leaves)
    → AreMergeable r.catalog r.project (map leaf_fields leaves)

-- so a lock that is answered is well formed
abbrev pub LocksAreWellFormed : Type 0
LocksAreWellFormed = (r : ResolutionFields) (l : Lock) (forks : ℕ) → IsResolution r → HasTexts r
    → IsLockAnswer r (Ok (locked l forks)) → IsWellFormed l

-- and so is each lock that `lock` gives of files
abbrev pub GivenAreWellFormed : Type 0
GivenAreWellFormed = (project folder : List ℕ) (old : Option (List ℕ)) (workers : ℕ) (m : FileMap) (l : Lock) (forks : ℕ)
    → (command (lock project folder workers old) m).gives (Ok (locked l forks)) → IsWellFormed l
