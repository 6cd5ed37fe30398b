-- Which requirements are applied, split or firm in a region is decided: all pairs of requirements are tried.
use Rattle.std.proofs.Common.{◌≡◌, ℕ, List}
use Rattle.std.specs.Prelude.{Contains, not, ◌&&◌}
use Rattle.ul_base.specs.declared.node.Node.{Node}
use Rattle.ul_requirement.specs.Fields.{RequirementFields}
use Rattle.ul_requirement.specs.Truth.{applies_at}
use Rattle.ul_index.specs.Applied.{IsApplied, IsFirm, IsSplitGroup}
use Rattle.ul_index.specs.Regions.{Region, Somewhere}
use Rattle.laws_trees.specs.Decided.{Decided, EachIsRequirement, RegionsDecide}
use Rattle.laws_trees.specs.Trees.{HasTree, TruthTrees}
use Rattle.laws_trees.proofs.Deciding.{both_decided, decided_as, not_decided, some_member}
use Rattle.laws_trees.proofs.Regions.{somewhere, suits, throughout}
use Rattle.laws_trees.proofs.Sameness.{text_decided}

applied : TruthTrees → (qs : List RequirementFields) (R : Region) (n : Node) (q : RequirementFields) → HasTree R
    → EachIsRequirement qs → Contains qs q → Decided (IsApplied qs R n q)
applied trees qs R n q region each i =
    decided_as (somewhere R (applies_at q n) region (trees.applied q n (each q i)))
    (λ h. record { listed = i; somewhere = h }) (λ a. a.somewhere)

-- an applied requirement on the name
abbrev IsNamed : List RequirementFields → Region → Node → List ℕ → RequirementFields → Type 0
IsNamed qs R n name q = IsApplied qs R n q × (q.name ≡ name)

-- somewhere one is true and the other is not
abbrev AreApart : Region → Node → RequirementFields → RequirementFields → Type 0
AreApart R n one other = Somewhere R (λ w. applies_at one n w && not (applies_at other n w))

named : TruthTrees → (qs : List RequirementFields) (R : Region) (n : Node) (name : List ℕ) (q : RequirementFields)
    → HasTree R → EachIsRequirement qs → Contains qs q → Decided (IsNamed qs R n name q)
named trees qs R n name q region each i = both_decided (applied trees qs R n q region each i) (text_decided q.name name)

apart : TruthTrees → (qs : List RequirementFields) (R : Region) (n : Node) (one other : RequirementFields) → HasTree R
    → EachIsRequirement qs → Contains qs one → Contains qs other → Decided (AreApart R n one other)
apart trees qs R n one other region each i j =
    let there = trees.applied one n (each one i) in
    let elsewhere = trees.negated (applies_at other n) (trees.applied other n (each other j)) in
    let both = trees.both (applies_at one n) (λ w. not (applies_at other n w)) there elsewhere in
    somewhere R (λ w. applies_at one n w && not (applies_at other n w)) region both

-- some other requirement on the name that is apart from one
abbrev HasOther : List RequirementFields → Region → Node → List ℕ → RequirementFields → Type 0
HasOther qs R n name one =
    (other : RequirementFields) × Contains qs other × (IsNamed qs R n name other × AreApart R n one other)

other_decided : TruthTrees → (qs : List RequirementFields) (R : Region) (n : Node) (name : List ℕ)
    (one : RequirementFields) → HasTree R → EachIsRequirement qs → Contains qs one → Decided (HasOther qs R n name one)
other_decided trees qs R n name one region each i =
    some_member (λ (other : RequirementFields). IsNamed qs R n name other × AreApart R n one other) qs
    (λ other j.
    both_decided (named trees qs R n name other region each j) (apart trees qs R n one other region each i j))

-- two requirements on the name that are apart
abbrev HasPair : List RequirementFields → Region → Node → List ℕ → Type 0
HasPair qs R n name = (one : RequirementFields) × Contains qs one × (IsNamed qs R n name one × HasOther qs R n name one)

pair_decided : TruthTrees → (qs : List RequirementFields) (R : Region) (n : Node) (name : List ℕ) → HasTree R
    → EachIsRequirement qs → Decided (HasPair qs R n name)
pair_decided trees qs R n name region each =
    some_member (λ (one : RequirementFields). IsNamed qs R n name one × HasOther qs R n name one) qs
    (λ one i.
    both_decided (named trees qs R n name one region each i) (other_decided trees qs R n name one region each i))

split : TruthTrees → (qs : List RequirementFields) (R : Region) (n : Node) (name : List ℕ) → HasTree R
    → EachIsRequirement qs → Decided (IsSplitGroup qs R n name)
split trees qs R n name region each =
    decided_as (pair_decided trees qs R n name region each)
    (λ h. (let one = h.2.0 in
    let other = h.2.1 in
    record {
      one = h.0;
      other = other.0;
      one_applied = one.0;
      other_applied = other.2.0.0;
      one_named = one.1;
      other_named = other.2.0.1;
      apart = other.2.1;
    }))
    (λ s. (let other : HasOther qs R n name s.one =
    (s.other, s.other_applied.listed, ((s.other_applied, s.other_named), s.apart)) in
    (s.one, s.one_applied.listed, ((s.one_applied, s.one_named), other))))

firm : TruthTrees → (qs : List RequirementFields) (R : Region) (n : Node) (q : RequirementFields) → HasTree R
    → EachIsRequirement qs → Contains qs q → Decided (IsFirm qs R n q)
firm trees qs R n q region each i =
    decided_as
    (both_decided (applied trees qs R n q region each i) (not_decided (split trees qs R n q.name region each)))
    (λ h. record { applied = h.0; outside = h.1 }) (λ f. (f.applied, f.outside))

pub regions_decide : TruthTrees → RegionsDecide
regions_decide trees = record {
  somewhere = somewhere;
  throughout = throughout;
  suits = suits;
  applied = applied trees;
  split = split trees;
  firm = firm trees;
}
