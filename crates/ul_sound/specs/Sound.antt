-- A lock that is right in every world. What it gives is compared with the requirements of the documents, by the rule
-- for the truth of a requirement; its edges count only for what it gives. Whoever wrote it may spell a version with
-- other zeros at its end than the catalog does, such as `1.0.0` for `1.0`.
use Rattle.std.specs.Prelude.{◌≡◌, ◌⊎◌, ◌↔◌, ℕ, List, Contains, true}
use Rattle.std.specs.declared.cmp.Ordering.TheVariants.{Equal}
use Rattle.ul_base.specs.Reached.{Reached}
use Rattle.ul_base.specs.declared.node.Node.{Node}
use Rattle.ul_version.specs.Fields.{Fields}
use Rattle.ul_version.specs.Order.{version_cmp}
use Rattle.ul_comparison.specs.Worlds.{WorldFields, IsWorld}
use Rattle.ul_requirement.specs.Fields.{RequirementFields}
use Rattle.ul_requirement.specs.Truth.{applies_at, base, meets, targets, with_extra}
use Rattle.ul_index.specs.Catalogs.{Packages, requirements, is_fit}
use Rattle.ul_index.specs.Eligible.{eligible}
use Rattle.ul_project.specs.Fields.{ProjectFields}
use Rattle.ul_lock.specs.declared.parts.Lock.{Lock}
use Rattle.ul_lock.specs.Walk.{Walk}
use Rattle.ul_sound.specs.Leaves.{supported_by}

-- two versions are equal: by the order of versions, for which zeros at the end of a release count as nothing
abbrev pub AreEqual : Fields → Fields → Type 0
AreEqual v u = version_cmp v u ≡ Equal

-- the version is equal to an eligible one of the name
abbrev pub IsEligible : Packages → List ℕ → Fields → Type 0
IsEligible c name v = (u : Fields) × Contains (eligible c name) u × AreEqual u v

-- the project, and its node of one of the extras
abbrev pub ClosureBegins : ProjectFields → List (List ℕ) → Node → Type 0
ClosureBegins p xs n = (n ≡ base p.package.name) ⊎ ((x : List ℕ) × Contains xs x × (n ≡ with_extra p.package.name x))

-- from a node to each target of a requirement of its release that is true there in the world; the release is that of
-- the version at which the lock gives the node
pub record ClosureLeads (c : Packages) (l : Lock) (w : WorldFields) (xs : List (List ℕ)) (n t : Node) : Type 0 where
  pub version : Fields
  pub given : Walk l w xs (n, version)
  pub requirement : RequirementFields
  pub listed : Contains (requirements c n.name version) requirement
  pub holds : applies_at requirement n w ≡ true
  pub aimed : Contains (targets requirement) t

-- the least set that has the project with these extras, and with a node the targets of what it requires in the world
abbrev pub Closure : Packages → ProjectFields → Lock → WorldFields → List (List ℕ) → Node → Type 0
Closure c p l w xs n = Reached (ClosureBegins p xs) (ClosureLeads c l w xs) n

-- what the lock gives in one world with these extras is right
pub record IsSoundAt (c : Packages) (p : ProjectFields) (l : Lock) (w : WorldFields) (xs : List (List ℕ)) : Type 0 where
  -- one version a name
  pub one_version : (n m : Node) (v u : Fields) → Walk l w xs (n, v) → Walk l w xs (m, u) → n.name ≡ m.name → v ≡ u
  -- each version is eligible
  pub eligible_each : (n : Node) (v : Fields) → Walk l w xs (n, v) → IsEligible c n.name v
  -- exactly the closure of what is required
  pub closure : (n : Node) → ((v : Fields) × Walk l w xs (n, v)) ↔ Closure c p l w xs n
  -- each target of a requirement that is true is given at a version that meets the specifiers
  pub specifiers_met : (n : Node) (v : Fields) (q : RequirementFields) (t : Node) → Walk l w xs (n, v)
      → Contains (requirements c n.name v) q → applies_at q n w ≡ true → Contains (targets q) t
      → (u : Fields) × Walk l w xs (t, u) × (meets q u ≡ true)
  -- each release is fit
  pub fit : (n : Node) (v : Fields) → Walk l w xs (n, v) → is_fit c n.name v w ≡ true

-- the extras are the project's
abbrev pub AreProjectExtras : ProjectFields → List (List ℕ) → Type 0
AreProjectExtras p xs = (x : List ℕ) → Contains xs x → Contains p.extras x

-- the lock is right in every world that the project supports, with all lists of the project's extras
abbrev pub IsSound : Packages → ProjectFields → Lock → Type 0
IsSound c p l = (w : WorldFields) → IsWorld w → supported_by p w ≡ true
    → (xs : List (List ℕ)) → AreProjectExtras p xs → IsSoundAt c p l w xs
