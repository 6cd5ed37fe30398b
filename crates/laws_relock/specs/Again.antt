-- A lock of one fork that is the old lock of the same files is locked again as it is.
use Rattle.std.specs.Prelude.{◌≡◌, ℕ, List, [], Contains, Ok}
use Rattle.std.specs.declared.cmp.Ordering.TheVariants.{Equal}
use Rattle.std.specs.List.{AllByRecursion}
use Rattle.ul_version.specs.Fields.{Fields}
use Rattle.ul_version.specs.Order.{version_cmp}
use Rattle.ul_requirement.specs.Fields.{IsPackage}
use Rattle.ul_index.specs.Catalogs.{Packages}
use Rattle.ul_index.specs.Eligible.{eligible}
use Rattle.ul_project.specs.Fields.{ProjectFields}
use Rattle.ul_lock.specs.declared.parts.Lock.{Lock}
use Rattle.ul_inputs.specs.Locks.{Kept, kept_of}
use Rattle.ul_inputs.specs.Resolutions.{IsResolution, resolution_of}
use Rattle.ul_answers.specs.Answer.{locked}
use Rattle.ul_commands.specs.Locking.{IsLockAnswer}

-- eligible versions of a name that are level in the order of versions are equal
abbrev pub LevelAreEqual : Packages → Type 0
LevelAreEqual c = (name : List ℕ) (v u : Fields) → Contains (eligible c name) v → Contains (eligible c name) u
    → version_cmp v u ≡ Equal → v ≡ u

-- so it is where the versions of each package's releases differ
abbrev pub LevelVersionsAreEqual : Type 0
LevelVersionsAreEqual = (c : Packages) → AllByRecursion IsPackage c → LevelAreEqual c

-- a lock of one fork is answered again where its versions come first
abbrev pub OneForkStays : Type 0
OneForkStays = (p : ProjectFields) (kept : List Kept) (c : Packages) (l : Lock) (forks : ℕ)
    → IsResolution (resolution_of p kept c) → LevelAreEqual c
    → IsLockAnswer (resolution_of p kept c) (Ok (locked l forks)) → l.forks ≡ []
    → IsLockAnswer (resolution_of p (kept_of l) c) (Ok (locked l forks))
