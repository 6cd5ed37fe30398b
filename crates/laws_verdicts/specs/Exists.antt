-- Each lock is verified, or has a first part that isn't right.
use Rattle.std.specs.Prelude.{◌≡◌, ◌⊎◌, ℕ, List}
use Rattle.ul_version.specs.Fields.{Fields}
use Rattle.ul_index.specs.Catalogs.{Packages}
use Rattle.ul_project.specs.Fields.{IsProject, ProjectFields}
use Rattle.ul_lock.specs.declared.parts.Lock.{Lock}
use Rattle.ul_lock.specs.WellFormed.{IsWellFormed}
use Rattle.ul_verified.specs.Verified.{IsRoot, IsVerified}
use Rattle.ul_verify.specs.Headline.{IsWrong}
use Rattle.laws_trees.specs.Trees.{AreRequirements}

-- one of the packages isn't right
abbrev pub HasWrong : Packages → ProjectFields → Lock → Type 0
HasWrong c p l = (name : List ℕ) × (version : Fields) × IsWrong c p l name version

-- the root is right, but not the worlds
abbrev pub IsForOthers : ProjectFields → Lock → Type 0
IsForOthers p l = IsRoot p l × (l.supported ≡ p.region → ⊥)

-- a lock is verified for a project and a catalog, or isn't for its root, for the worlds that it supports, or for a
-- package
abbrev pub VerdictExists : Type 0
VerdictExists = (c : Packages) (p : ProjectFields) (l : Lock) → AreRequirements c → IsProject p → IsWellFormed l
    → IsVerified c p l ⊎ ((IsRoot p l → ⊥) ⊎ (IsForOthers p l ⊎ HasWrong c p l))
