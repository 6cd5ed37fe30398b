-- An input depends on the paths that it reads alone: of files that have the same at each of them it says the same, and it
-- reads the same paths.
use Rattle.std.specs.Prelude.{◌≡◌, ◌↔◌, ℕ, List, Option, Result}
use Rattle.ul_files.specs.Files.{FileMap, content}
use Rattle.ul_project.specs.Fields.{ProjectFields}
use Rattle.ul_inputs.specs.Inputs.{Input, Said}
use Rattle.ul_inputs.specs.Refused.{Refused}
use Rattle.ul_inputs.specs.Locks.{Kept, lock_at, old_lock}
use Rattle.ul_inputs.specs.Machines.{machine_at}
use Rattle.ul_inputs.specs.Projects.{project_at}
use Rattle.ul_inputs.specs.Resolutions.{resolution_in, resolution_with}

-- two maps have the same at each of these paths
abbrev pub AgreeOn : (List ℕ → Type 0) → FileMap → FileMap → Type 0
AgreeOn IsRead m n = (path : List ℕ) → IsRead path → content n path ≡ content m path

-- the same results are given, and the same paths are read
pub record SayTheSame {A : Type 0} (first second : Said A) : Type 0 where
  pub gives : (a : Result A Refused) → first.gives a ↔ second.gives a
  pub reads : (path : List ℕ) → first.reads path ↔ second.reads path

-- an input says the same of each map that has the same at the paths which it reads
abbrev pub IsByWhatIsRead : {A : Type 0} → Input A → Type 0
IsByWhatIsRead input = (m n : FileMap) → AgreeOn (input m).reads m n → SayTheSame (input m) (input n)

-- each input does
pub record InputsByWhatIsRead : Type 0 where
  pub project : (path : List ℕ) → IsByWhatIsRead (project_at path)
  pub lock : (path : List ℕ) → IsByWhatIsRead (lock_at path)
  pub old_lock : (old : Option (List ℕ)) → IsByWhatIsRead (old_lock old)
  pub machine : (path : List ℕ) → IsByWhatIsRead (machine_at path)
  pub catalog : (folder : List ℕ) (p : ProjectFields) (kept : List Kept) → IsByWhatIsRead (resolution_with folder p kept)
  pub resolution : (project folder : List ℕ) (old : Option (List ℕ)) → IsByWhatIsRead (resolution_in project folder old)
