-- What is known in every region of the requirements of a release at a node.
use Rattle.std.specs.Prelude.{◌≡◌, ◌<◌, ◌↔◌, ℕ, List, map, filter, All, Contains, Some, length, get_or, slice_get}
use Rattle.ul_base.specs.declared.node.Node.{Node}
use Rattle.ul_requirement.specs.Fields.{RequirementFields}
use Rattle.ul_requirement.specs.Truth.{applies_at, may_apply}
use Rattle.ul_index.specs.Catalogs.{is_release_fit}
use Rattle.ul_region.specs.Truths.{PassView, DiagramMark, IsTruthAt}
use Rattle.ul_region.specs.Numbers.{AreNextOthers, IsFirstFrom}
use Rattle.ul_region.specs.declared.rows.Asked.{Asked}
use Rattle.ul_region.specs.declared.rows.Row.{Row}

-- a requirement, with the place of its truth at the node
abbrev pub IsAsked : PassView → Node → List DiagramMark → Asked → Type 0
IsAsked h n truths a = IsTruthAt h truths a.truth (applies_at a.requirement.now n)

-- of each requirement the place of its truth at the node
pub record AreTruthsOf (h : PassView) (n : Node) (truths : List DiagramMark) (qs : List RequirementFields) (places : List ℕ) : Type 0 where
  pub size : length places ≡ length qs
  pub known : (k : ℕ) (q : RequirementFields) → slice_get qs k ≡ Some q → IsTruthAt h truths (get_or places k 0) (applies_at q n)

-- of the first requirements, as many as there are places, the places of their truths at the node
abbrev pub AreTruthsOfFirst : PassView → Node → List DiagramMark → List RequirementFields → List ℕ → Type 0
AreTruthsOfFirst h n truths qs places = (k : ℕ) (q : RequirementFields) → k < length places → slice_get qs k ≡ Some q → IsTruthAt h truths (get_or places k 0) (applies_at q n)

-- the place that stands beside a requirement with the same marker as this one
pub record IsPlaceOfAlike (qs : List RequirementFields) (places : List ℕ) (q : RequirementFields) (place : ℕ) : Type 0 where
  pub index : ℕ
  pub other : RequirementFields
  pub within : index < length places
  pub there : slice_get qs index ≡ Some other
  pub alike : other.marker ≡ q.marker
  pub is : place ≡ get_or places index 0

-- the requirement that is asked about
abbrev pub requirement_of : Asked → RequirementFields
requirement_of a = a.requirement.now

-- requirements with equal numbers are those on one name
abbrev pub AreNumbered : List Asked → Type 0
AreNumbered asked = (a b : Asked) → Contains asked a → Contains asked b
    → (a.name ≡ b.name) ↔ (a.requirement.now.name ≡ b.requirement.now.name)

-- the number of a requirement's name
abbrev pub number_in : Asked → ℕ
number_in a = a.name

-- the place of a requirement's truth
abbrev pub truth_in : Asked → ℕ
truth_in a = a.truth

-- the place of the next requirement on a requirement's name that has another truth
abbrev pub next_in : Asked → ℕ
next_in a = a.next

-- the number of a name is the place of the first requirement on it, and each requirement has the place of the next one on its name
-- of another truth
pub record AreLinked (asked : List Asked) : Type 0 where
  pub first : (a : Asked) → Contains asked a → IsFirstFrom (map number_in asked) 0 a.name a.name
  pub next : AreNextOthers (map number_in asked) (map truth_in asked) (map next_in asked)

-- the requirements of a list that may be true at a node, in order
abbrev pub asked_at : Node → List RequirementFields → List RequirementFields
asked_at n qs = filter (λ (q : RequirementFields). may_apply q n) qs

-- those requirements of a list, in order, each with the place of its truth at the node
pub record AreAsked (h : PassView) (n : Node) (truths : List DiagramMark) (qs : List RequirementFields) (asked : List Asked) : Type 0 where
  pub known : All (IsAsked h n truths) asked
  pub same : map requirement_of asked ≡ asked_at n qs
  pub numbered : AreNumbered asked
  pub linked : AreLinked asked

-- the place of where the release is fit, and those of its requirements that may be true at the node
pub record IsRow (h : PassView) (n : Node) (truths : List DiagramMark) (row : Row) : Type 0 where
  pub fit : IsTruthAt h truths row.fit (is_release_fit row.release.now)
  pub are : AreAsked h n truths row.release.now.requirements row.asked
