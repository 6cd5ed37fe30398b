-- What `env` prints of a lock that `lock` gives is what the project requires.
use Rattle.std.specs.Prelude.{◌≡◌, ◌≢◌, ◌↔◌, ℕ, List, Contains, IfSome, Option, Some, Ok}
use Rattle.ul_files.specs.Files.{FileMap, content}
use Rattle.ul_base.specs.declared.node.Node.{Node}
use Rattle.ul_version.specs.Fields.{Fields}
use Rattle.ul_comparison.specs.Atoms.{AtomFields}
use Rattle.ul_comparison.specs.Machines.{MachineFields, world_of}
use Rattle.ul_comparison.specs.Worlds.{WorldFields, IsWorld}
use Rattle.ul_index.specs.Catalogs.{Packages}
use Rattle.ul_index.specs.Eligible.{eligible}
use Rattle.ul_lock.specs.declared.parts.Lock.{Lock}
use Rattle.ul_lock_write.specs.Texts.{lock_text}
use Rattle.ul_filter.specs.Comparisons.{HasAll, lock_atoms}
use Rattle.ul_filter.specs.Environment.{environment_text}
use Rattle.ul_filter.specs.declared.picks.Pick.{Pick}
use Rattle.ul_sound.specs.Sound.{AreProjectExtras, Closure}
use Rattle.ul_inputs.specs.Machines.{machine_at}
use Rattle.ul_inputs.specs.Resolutions.{IsResolution, ResolutionFields, resolution_in}
use Rattle.laws_given.specs.Given.{HasTexts}
use Rattle.ul_answers.specs.Answer.{environment, locked}
use Rattle.ul_lock_commands.specs.Environments.{IsEnvAnswer}
use Rattle.ul_lock_commands.specs.Words.{names_of}
use Rattle.ul_commands.specs.Asked.{env, lock}
use Rattle.ul_commands.specs.Commands.{command}
use Rattle.ul_commands.specs.Locking.{IsLockAnswer}

-- the line of a package has the node: its name, and its extra, if it has one
pub record HasNode (line : Pick) (n : Node) : Type 0 where
  pub name : line.name ≡ n.name
  pub extra : IfSome n.extra (λ x. Contains line.extras.items x)

-- the lines of a text have exactly these nodes, and each name at one version, which can be chosen
pub record ListsExactly (CanBeChosen : List ℕ → Fields → Type 0) (Wanted : Node → Type 0) (text : List ℕ) : Type 0 where
  pub lines : List Pick
  pub are : text ≡ environment_text lines
  pub nodes : (n : Node) → Wanted n ↔ ((line : Pick) × Contains lines line × HasNode line n)
  pub one_version : (j k : Pick) → Contains lines j → Contains lines k → j.name ≡ k.name → j.version ≡ k.version
  pub can_be_chosen : (line : Pick) → Contains lines line → CanBeChosen line.name line.version

-- the version is one of the name's eligible ones, spelled as the catalog spells it
abbrev pub IsSpelled : Packages → List ℕ → Fields → Type 0
IsSpelled c name v = Contains (eligible c name) v

-- what is required in a world with these extras, without the project itself
abbrev pub IsRequired : ResolutionFields → Lock → WorldFields → List (List ℕ) → Node → Type 0
IsRequired r l w xs n = (n.name ≢ r.project.package.name) × Closure r.catalog r.project l w xs n

-- What `env` prints, with extras of the project, of a lock that `lock` gives lists exactly what is required in the
-- machine's world, where the truth of the lock's comparisons or of more of them is known, such as of all that the
-- project and the index ask for.
abbrev pub EnvironmentsOfLocks : Type 0
EnvironmentsOfLocks = (r : ResolutionFields) (l : Lock) (forks : ℕ) (m : MachineFields) (words : List (List ℕ))
    (text : List ℕ) (comparisons : List AtomFields)
    → IsResolution r → HasTexts r → IsLockAnswer r (Ok (locked l forks))
    → HasAll comparisons (lock_atoms l) → IsWorld (world_of m comparisons) → AreProjectExtras r.project (names_of words)
    → IsEnvAnswer l m words (Ok (environment text))
    → ListsExactly (IsSpelled r.catalog) (IsRequired r l (world_of m comparisons) (names_of words)) text

-- The same of files: what `lock` gave of some files was printed into a file, which `env` reads beside a machine file.
abbrev pub EnvironmentsOfFiles : Type 0
EnvironmentsOfFiles = (project folder : List ℕ) (old : Option (List ℕ)) (workers : ℕ) (path machine : List ℕ)
    (words : List (List ℕ)) (before now : FileMap) (r : ResolutionFields) (l : Lock) (forks : ℕ) (m : MachineFields)
    (text : List ℕ) (comparisons : List AtomFields)
    → (resolution_in project folder old before).gives (Ok r)
    → (command (lock project folder workers old) before).gives (Ok (locked l forks))
    → content now path ≡ Some (lock_text l) → (machine_at machine now).gives (Ok m)
    → HasAll comparisons (lock_atoms l) → IsWorld (world_of m comparisons) → AreProjectExtras r.project (names_of words)
    → (command (env path machine words) now).gives (Ok (environment text))
    → ListsExactly (IsSpelled r.catalog) (IsRequired r l (world_of m comparisons) (names_of words)) text
