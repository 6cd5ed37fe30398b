-- What `export` prints of a lock that is right for a project is what the project requires in each world.
use Rattle.std.specs.Prelude.{◌≡◌, ◌≤◌, ◌↔◌, ℕ, List, Contains, length, true, None, Option, Ok, Some}
use Rattle.ul_files.specs.Files.{FileMap, content}
use Rattle.ul_base.specs.declared.node.Node.{Node}
use Rattle.ul_comparison.specs.Worlds.{WorldFields, IsWorld}
use Rattle.ul_tree.specs.Regions.{region_of}
use Rattle.ul_lock.specs.declared.parts.Lock.{Lock}
use Rattle.ul_lock_write.specs.Texts.{lock_text}
use Rattle.ul_sound.specs.Leaves.{supported_by}
use Rattle.ul_sound.specs.Sound.{AreProjectExtras, IsEligible}
use Rattle.ul_reach.specs.declared.rows.Reached.{Reached}
use Rattle.ul_inputs.specs.Inputs.{text_bytes}
use Rattle.ul_inputs.specs.Locks.{lock_at}
use Rattle.ul_inputs.specs.Resolutions.{ResolutionFields, resolution_in}
use Rattle.ul_answers.specs.Answer.{exported, locked, verified}
use Rattle.ul_lock_commands.specs.Words.{names_of}
use Rattle.ul_commands.specs.Asked.{export, lock, verify}
use Rattle.ul_commands.specs.Commands.{command}
use Rattle.laws_commands.specs.Environments.{IsRequired}

-- one of the rows, and its marker holds in the world
pub record HoldsIn (rows : List Reached) (w : WorldFields) (row : Reached) : Type 0 where
  pub listed : Contains rows row
  pub holds : region_of row.marker w ≡ true

-- the rows whose markers hold in a world have exactly the nodes that are required there, each name at one version, which is
-- equal to an eligible one
pub record ListsRequired (r : ResolutionFields) (l : Lock) (words : List (List ℕ)) (rows : List Reached) (w : WorldFields)
    : Type 0 where
  pub nodes : (n : Node) → IsRequired r l w (names_of words) n ↔ ((row : Reached) × HoldsIn rows w row × (row.node ≡ n))
  pub one_version : (j k : Reached) → HoldsIn rows w j → HoldsIn rows w k → j.node.name ≡ k.node.name → j.version ≡ k.version
  pub eligible : (row : Reached) → HoldsIn rows w row → IsEligible r.catalog row.node.name row.version

-- so it is in each world that the project supports, where the words name extras of the project
abbrev pub ExportsRequired : ResolutionFields → Lock → List (List ℕ) → List Reached → Type 0
ExportsRequired r l words rows = AreProjectExtras r.project (names_of words)
    → (w : WorldFields) → IsWorld w → supported_by r.project w ≡ true → ListsRequired r l words rows w

-- what `lock` gave of some files was printed into a file, which `export` reads, where a file may be so long
abbrev pub ExportsOfFiles : Type 0
ExportsOfFiles = (project folder : List ℕ) (old : Option (List ℕ)) (workers : ℕ) (path : List ℕ) (words : List (List ℕ))
    (before now : FileMap) (r : ResolutionFields) (l : Lock) (forks : ℕ) (rows : List Reached)
    → (resolution_in project folder old before).gives (Ok r)
    → (command (lock project folder workers old) before).gives (Ok (locked l forks))
    → content now path ≡ Some (lock_text l) → length (lock_text l) ≤ text_bytes
    → (command (export path words) now).gives (Ok (exported rows)) → ExportsRequired r l words rows

-- the same of a lock file that `verify` accepted
abbrev pub ExportsOfVerifiedFiles : Type 0
ExportsOfVerifiedFiles = (project folder path : List ℕ) (words : List (List ℕ)) (m : FileMap) (r : ResolutionFields) (l : Lock)
    (rows : List Reached)
    → (resolution_in project folder None m).gives (Ok r) → (lock_at path m).gives (Ok l)
    → (command (verify project folder path) m).gives (Ok verified)
    → (command (export path words) m).gives (Ok (exported rows)) → ExportsRequired r l words rows
