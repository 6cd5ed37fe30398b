-- What `relock` answers: an old lock that is right stays, with the files that the index has today. Where it isn't, the
-- answer is that of `lock` with its versions; and where that gives no lock, that of `lock` without them.
use Rattle.std.specs.Prelude.{◌≡◌, ◌≢◌, ◌≤◌, ◌⊎◌, ℕ, List, [], ◌∷◌, Contains, length, map, None, Result, Ok}
use Rattle.ul_requirement.specs.Truth.{with_extra}
use Rattle.ul_nodes.specs.Plain.{Plain}
use Rattle.ul_index.specs.Catalogs.{Packages, release_of}
use Rattle.ul_project.specs.Fields.{ProjectFields}
use Rattle.ul_lock.specs.declared.parts.Edge.{Edge}
use Rattle.ul_lock.specs.declared.parts.Extra.{Extra}
use Rattle.ul_lock.specs.declared.parts.Lock.{Lock}
use Rattle.ul_lock.specs.declared.parts.Locked.{Locked}
use Rattle.ul_lock.specs.Walk.{HasEdge, Pick}
use Rattle.ul_lock_write.specs.Markers.{first_over, markers_of}
use Rattle.ul_lock_write.specs.Texts.{lock_text}
use Rattle.ul_sound.specs.Merged.{files_in}
use Rattle.ul_verified.specs.Verified.{IsVerified}
use Rattle.ul_inputs.specs.Inputs.{Input, ◌>>=◌, answer, text_bytes}
use Rattle.ul_inputs.specs.Locks.{kept_of, lock_at}
use Rattle.ul_inputs.specs.Projects.{project_at}
use Rattle.ul_inputs.specs.Refused.{Refused}
use Rattle.ul_inputs.specs.Resolutions.{ResolutionFields, resolution_of, resolution_with}
use Rattle.ul_answers.specs.Answer.{Answer, locked}
use Rattle.ul_answers.specs.Printed.{printed}
use Rattle.ul_commands.specs.Locking.{IsLockAnswer}

-- the package with the files of its release, and none where the catalog has no release of its version
abbrev pub refreshed_package : Packages → Locked → Locked
refreshed_package c b = record b { files = files_in (release_of c b.name b.version) }

-- the lock with the files that the catalog has today; all else is as it was. The root has none, as the project's own
-- release has none
abbrev pub refreshed : Packages → Lock → Lock
refreshed c l = record l { packages = map (refreshed_package c) l.packages }

-- some edge of the lock leads to the extra of its root
pub record IsAskedFor (l : Lock) (extra : List ℕ) : Type 0 where
  pub from : Pick
  pub edge : Edge
  pub has : HasEdge l from edge
  pub leads : edge.target ≡ with_extra l.root extra

-- the root lists the project's extras, or some of them, and beside them only such as some edge leads to
abbrev pub ListsNoOther : ProjectFields → Lock → Type 0
ListsNoOther p l = (b : Locked) (y : Extra) → Contains l.packages b → b.name ≡ l.root → Contains b.extras y
    → Contains p.extras y.name ⊎ IsAskedFor l y.name

-- how many leaves a lock has the forks of: one where it names none
abbrev pub fork_count : List Plain → ℕ
fork_count [] = 1
fork_count (m ∷ ms) = length (m ∷ ms)

-- the lock stays: it is verified for the project and the catalog, its root lists all extras of the project and no other
-- but those that its edges lead to, and with the catalog's files it can be written
pub record IsKept (r : ResolutionFields) (l : Lock) : Type 0 where
  pub verified : IsVerified r.catalog r.project l
  pub extras : ListsNoOther r.project l
  pub paths : first_over (markers_of (refreshed r.catalog l)) ≡ None
  pub bytes : length (lock_text (refreshed r.catalog l)) ≤ text_bytes

-- the resolution in which no version comes first for an old lock
abbrev pub unkept : ResolutionFields → ResolutionFields
unkept r = resolution_of r.project [] r.catalog

-- the old lock, which stays
pub record IsKeptLock (r : ResolutionFields) (l : Lock) (a : Result Answer Refused) : Type 0 where
  pub kept : IsKept r l
  pub is : a ≡ Ok (locked (refreshed r.catalog l) (fork_count l.forks))

-- the answer of `lock` with the old lock's versions, which is a lock that is printed
pub record IsLockedAgain (r : ResolutionFields) (l : Lock) (a : Result Answer Refused) : Type 0 where
  pub other : IsKept r l → ⊥
  pub answers : IsLockAnswer r a
  pub status : (printed a).0 ≡ 0

-- the answer of `lock` without them, where the one with them isn't such a lock
pub record IsLockedAnew (r : ResolutionFields) (l : Lock) (a : Result Answer Refused) : Type 0 where
  pub other : IsKept r l → ⊥
  pub again : Result Answer Refused
  pub answers : IsLockAnswer r again
  pub status : (printed again).0 ≢ 0
  pub anew : IsLockAnswer (unkept r) a

-- the answer of `relock` to a resolution that keeps the versions of an old lock, and that lock
abbrev pub IsRelockAnswer : ResolutionFields → Lock → Result Answer Refused → Type 0
IsRelockAnswer r l a = IsKeptLock r l a ⊎ (IsLockedAgain r l a ⊎ IsLockedAnew r l a)

-- the answer to an old lock, for a project with the documents of an index folder
abbrev pub relock_with : (folder : List ℕ) → ProjectFields → Lock → Input Answer
relock_with folder p l = resolution_with folder p (kept_of l) >>= λ r. answer (IsRelockAnswer r l)

-- the answer to the lock of a lock file, for a project
abbrev pub relock_on : (folder old : List ℕ) → ProjectFields → Input Answer
relock_on folder old p = lock_at old >>= relock_with folder p

-- the lock of a project file, an index folder and an old lock, in the order in which `lock` reads them
abbrev pub relock_of : (project folder old : List ℕ) → Input Answer
relock_of project folder old = project_at project >>= relock_on folder old
