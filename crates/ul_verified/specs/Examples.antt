-- Worked examples: the project demo 1, which requires a, of which there are the versions 1.0 and 2, and a yanked 3. Of
-- each part that a verified lock has there is a lock in which this part alone fails.
use Rattle.std.specs.Prelude.{ℕ, List, [], ◌∷◌, length, codes, true, false, None}
use Rattle.ul_version.specs.Fields.{Fields, plain}
use Rattle.ul_specifier.specs.Clauses.{ClauseFields}
use Rattle.ul_specifier.specs.declared.clause.Op.TheVariants.{AtLeast, Less}
use Rattle.ul_requirement.specs.Fields.{PackageFields, ReleaseFields, RequirementFields}
use Rattle.ul_requirement.specs.Truth.{base}
use Rattle.ul_requirement.specs.declared.wish.Mode.TheVariants.{Highest}
use Rattle.ul_requirement.specs.declared.wish.Prereleases.TheVariants.{IfNecessaryOrExplicit}
use Rattle.ul_requirement.specs.declared.wish.Strategy.TheVariants.{Fewest}
use Rattle.ul_nodes.specs.Plain.{truth}
use Rattle.ul_index.specs.Catalogs.{Packages}
use Rattle.ul_project.specs.Fields.{ProjectFields}
use Rattle.ul_lock.specs.declared.parts.Edge.{Edge}
use Rattle.ul_lock.specs.declared.parts.Locked.{Locked}
use Rattle.ul_lock.specs.declared.parts.Lock.{Lock}
use Rattle.ul_verified.specs.Verified.{IsVerified}

-- the project's name
abbrev pub demo : List ℕ
demo = codes "demo"

-- the name of the package that it requires
abbrev pub other : List ℕ
other = codes "a"

-- version 1.0
abbrev pub one_zero : Fields
one_zero = plain (1 ∷ 0 ∷ [])

-- version 1, which is equal to 1.0 by PEP 440, in another text
abbrev pub one : Fields
one = plain (1 ∷ [])

-- version 2
abbrev pub two : Fields
two = plain (2 ∷ [])

-- version 3, which the index of a marks as yanked
abbrev pub three : Fields
three = plain (3 ∷ [])

-- Python 3.9 and later
abbrev pub from_3_9 : ClauseFields
from_3_9 = record { op = AtLeast; version = plain (3 ∷ 9 ∷ []); prefix = false }

-- versions before 2
abbrev pub before_two : ClauseFields
before_two = record { op = Less; version = two; prefix = false }

-- the requirement of a at versions that meet these clauses, everywhere
abbrev pub on_other_at : List ClauseFields → RequirementFields
on_other_at cs = record { name = other; extras = []; specifiers = cs; marker = None }

-- at any version
abbrev pub on_other : RequirementFields
on_other = on_other_at []

-- a release of these interpreters and requirements
abbrev pub release_at : Fields → List ClauseFields → List RequirementFields → ReleaseFields
release_at v python qs = record { version = v; python = python; requirements = qs; yanked = false; files = []; source = None }

-- a package of this name with these releases, each an entry of its index document
abbrev pub package_of : List ℕ → List ReleaseFields → PackageFields
package_of n rs = record { name = n; entries = length rs; prereleases = IfNecessaryOrExplicit; releases = rs }

-- the project's package, with these requirements
abbrev pub own : List RequirementFields → PackageFields
own qs = package_of demo (release_at one [] qs ∷ [])

-- the project, for all worlds, with these requirements and extras
abbrev pub project_of : List RequirementFields → List (List ℕ) → ProjectFields
project_of qs xs =
    record {
      «package» = own qs;
      extras = xs;
      sizes = [];
      environments = [];
      region = truth true;
      mode = Highest;
      strategy = Fewest;
      prereleases = IfNecessaryOrExplicit;
      groups = [];
      sources = [];
      constraints = [];
      overrides = [];
    }

-- the one that requires a at any version
abbrev pub project : ProjectFields
project = project_of (on_other ∷ []) []

-- the releases of a
abbrev pub releases : List ReleaseFields
releases = release_at one_zero [] [] ∷ release_at two [] [] ∷ record (release_at three [] []) { yanked = true } ∷ []

-- the catalog of a project with these requirements: its own package, and a
abbrev pub catalog_of : List RequirementFields → Packages
catalog_of qs = own qs ∷ package_of other releases ∷ []

-- the catalog of the project
abbrev pub catalog : Packages
catalog = catalog_of (on_other ∷ [])

-- one in which a has 1.0 alone, which asks for Python 3.9 and later
abbrev pub later_catalog : Packages
later_catalog = own (on_other ∷ []) ∷ package_of other (release_at one_zero (from_3_9 ∷ []) [] ∷ []) ∷ []

-- a at any version, and before 2
abbrev pub bounded : List RequirementFields
bounded = on_other ∷ on_other_at (before_two ∷ []) ∷ []

-- an edge that holds everywhere
abbrev pub edge_to : List ℕ → Fields → Edge
edge_to n v = record { target = base n; version = v; marker = truth true }

-- a block of a lock: a name at a version, with these edges, without files and extras
abbrev pub locked : List ℕ → Fields → List Edge → Locked
locked n v es = record { name = n; version = v; files = []; edges = es; extras = [] }

-- a lock of the project, for all worlds
abbrev pub lock_of : List Locked → Lock
lock_of bs = record { root = demo; supported = truth true; forks = []; packages = bs }

-- a at a version, without edges, and demo 1 with an edge to it
abbrev pub lock_at : Fields → Lock
lock_at v = lock_of (locked other v [] ∷ locked demo one (edge_to other v ∷ []) ∷ [])

-- locks of the project that are verified, and for each part of IsVerified one in which that part alone fails
pub record VerifiedExamples : Type 0 where
  -- a lock in the catalog's own texts, and one that says 1 for 1.0
  pub right : IsVerified catalog project (lock_at one_zero)
  pub spelled : IsVerified catalog project (lock_at one)
  -- of the second version
  pub second : IsVerified catalog project (lock_at two)
  -- its root has another name
  pub other_root : IsVerified catalog project (record (lock_at one_zero) { root = other }) → ⊥
  -- its root doesn't list the project's extra
  pub no_extra : IsVerified catalog (project_of (on_other ∷ []) (other ∷ [])) (lock_at one_zero) → ⊥
  -- it is for no worlds
  pub other_worlds : IsVerified catalog project (record (lock_at one_zero) { supported = truth false }) → ⊥
  -- a 3 is yanked
  pub yanked : IsVerified catalog project (lock_at three) → ⊥
  -- both versions are reached at once
  pub twice : IsVerified catalog project (lock_of (locked other one_zero [] ∷ locked other two []
      ∷ locked demo one (edge_to other one_zero ∷ edge_to other two ∷ []) ∷ [])) → ⊥
  -- a 1.0 is reached where the interpreter is too old for it
  pub unfit : IsVerified later_catalog project (lock_at one_zero) → ⊥
  -- demo has no edge to a; or has one to a version that one of its requirements refuses
  pub left_out : IsVerified catalog project (lock_of (locked other one_zero [] ∷ locked demo one [] ∷ [])) → ⊥
  pub too_new : IsVerified (catalog_of bounded) (project_of bounded []) (lock_at two) → ⊥
  -- a has an edge that it doesn't require
  pub too_many : IsVerified catalog project (lock_of (locked other one_zero (edge_to demo one ∷ [])
      ∷ locked demo one (edge_to other one_zero ∷ []) ∷ [])) → ⊥
