-- A lock that is answered has the files of the documents, and its root lists no other extras than the project's and
-- those that its edges lead to; and what a lock keeps that is given the files of today.
use Rattle.std.specs.Prelude.{◌≡◌, ℕ, Contains, Ok}
use Rattle.ul_index.specs.Catalogs.{Packages, release_of}
use Rattle.ul_project.specs.Fields.{ProjectFields}
use Rattle.ul_lock.specs.WellFormed.{IsWellFormed}
use Rattle.ul_lock.specs.declared.parts.Lock.{Lock}
use Rattle.ul_lock.specs.declared.parts.Locked.{Locked}
use Rattle.ul_sound.specs.Headline.{HasRightFiles}
use Rattle.ul_sound.specs.Merged.{files_in}
use Rattle.ul_verified.specs.Verified.{IsVerified}
use Rattle.ul_inputs.specs.Resolutions.{IsResolution, ResolutionFields}
use Rattle.ul_answers.specs.Answer.{locked}
use Rattle.ul_commands.specs.Locking.{IsLockAnswer}
use Rattle.ul_commands.specs.Relocking.{ListsNoOther, refreshed}

-- the packages of a lock that is answered have the files of the documents
abbrev pub FilesAreDocuments : Type 0
FilesAreDocuments = (r : ResolutionFields) (l : Lock) (forks : ℕ) → IsLockAnswer r (Ok (locked l forks))
    → (b : Locked) → Contains l.packages b → b.files ≡ files_in (release_of r.catalog b.name b.version)

-- each extra of its root is one of the project's, or some edge leads to it
abbrev pub RootsListNoOther : Type 0
RootsListNoOther = (r : ResolutionFields) (l : Lock) (forks : ℕ) → IsResolution r → IsLockAnswer r (Ok (locked l forks))
    → ListsNoOther r.project l

-- what holds of a lock that is given the files of today
pub record RefreshedPromises : Type 0 where
  -- once more changes nothing
  pub again : (c : Packages) (l : Lock) → refreshed c (refreshed c l) ≡ refreshed c l
  -- it is verified where the lock is
  pub verified : (c : Packages) (p : ProjectFields) (l : Lock) → IsVerified c p l → IsVerified c p (refreshed c l)
  -- its root lists no other extras where the lock's doesn't
  pub extras : (c : Packages) (p : ProjectFields) (l : Lock) → ListsNoOther p l → ListsNoOther p (refreshed c l)
  -- it is well formed where the lock is, if the catalog has files as documents have them
  pub well_formed : (c : Packages) (l : Lock) → HasRightFiles c → IsWellFormed l → IsWellFormed (refreshed c l)
