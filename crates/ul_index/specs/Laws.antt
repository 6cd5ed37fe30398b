-- The laws that the crate's functions carry.
use Rattle.std.specs.Prelude.{◌≡◌, ◌↔◌, ℕ, List, [], ◌∷◌, filter, Contains, Bool, Decides, Option, Some, None}
use Rattle.ul_base.specs.declared.node.Node.{Node}
use Rattle.ul_version.specs.Fields.{Fields}
use Rattle.ul_requirement.specs.Fields.{RequirementFields, ReleaseFields, WishFields}
use Rattle.ul_requirement.specs.Truth.{applies_at}
use Rattle.ul_requirement.specs.declared.wish.Strategy.{Strategy}
use Rattle.ul_index.specs.Regions.{Region, Somewhere, HasWorld, Agree}
use Rattle.std.specs.declared.cmp.Ordering.TheVariants.{Less}
use Rattle.ul_version.specs.Order.{version_cmp}
use Rattle.ul_requirement.specs.Fields.{VersionsDiffer}
use Rattle.ul_index.specs.Catalogs.{Packages, releases_of}
use Rattle.ul_index.specs.Eligible.{eligible, passing}
use Rattle.ul_index.specs.Applied.{IsApplied}
use Rattle.ul_index.specs.Serves.{Selection, Serves, ServesWhole, IsUnsplit, IsFitThroughout}
use Rattle.ul_index.specs.Preference.{preference}
use Rattle.ul_base.specs.Kept.{Kept}

-- what serves a region whole serves it, if the region has a world
abbrev pub WholeServes : Type 0
WholeServes = (strategy : Strategy) (c : Packages) (starts : List Node) (R : Region) (s : Selection) → HasWorld R → ServesWhole c starts R s → Serves strategy c starts R s

-- a selection without split groups, each release fit throughout, that serves a region serves it whole
abbrev pub UnsplitWhole : Type 0
UnsplitWhole = (strategy : Strategy) (c : Packages) (starts : List Node) (R : Region) (s : Selection) → IsUnsplit c R s → IsFitThroughout c R s → Serves strategy c starts R s → ServesWhole c starts R s

-- regions that agree at every world are served by the same selections
abbrev pub SameServed : Type 0
SameServed = (strategy : Strategy) (c : Packages) (starts : List Node) (R S : Region) (s : Selection) → Agree R S → Serves strategy c starts R s → Serves strategy c starts S s

-- where a test decides what applies somewhere in the region, the applied requirements are those that pass it
abbrev pub AppliedByTest : Type 0
AppliedByTest = (qs : List RequirementFields) (R : Region) (n : Node) (test : RequirementFields → Bool) → ((q : RequirementFields) → Contains qs q → Decides (test q) (Somewhere R (applies_at q n)))
    → Kept (IsApplied qs R n) qs (filter test qs)

-- the order has the eligible versions and no other
abbrev pub PreferenceSame : Type 0
PreferenceSame = (c : Packages) (wish : WishFields) (n : List ℕ) (v : Fields) → Contains (preference c wish n) v ↔ Contains (eligible c n) v

-- the eligible versions are those of the releases that count, and no other
abbrev pub EligibleSame : Type 0
EligibleSame = (c : Packages) (n : List ℕ) (v : Fields) → Contains (eligible c n) v ↔ ((r : ReleaseFields) × Contains (passing c n) r × (r.version ≡ v))

-- a version comes after another, if there is another
abbrev pub IsVersionAfter : Option Fields → Fields → Type 0
IsVersionAfter None v = Unit {0}
IsVersionAfter (Some u) v = version_cmp u v ≡ Less

-- versions strictly increase, all of them after one
abbrev pub VersionsRise : Option Fields → List Fields → Type 0
VersionsRise b [] = Unit {0}
VersionsRise b (v ∷ vs) = IsVersionAfter b v × VersionsRise (Some v) vs

-- the eligible versions strictly increase
abbrev pub EligibleRises : Type 0
EligibleRises = (c : Packages) (n : List ℕ) → VersionsDiffer (releases_of c n) → VersionsRise None (eligible c n)
