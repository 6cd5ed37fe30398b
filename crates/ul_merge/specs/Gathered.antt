-- Entries that are gathered by their keys.
use Rattle.std.specs.Prelude.{◌≡◌, ◌⊎◌, ◌<◌, ◌-◌, ℕ, List, [], ◌∷◌, ◌++◌, Bool, Contains, HoldsAt, length, map, true, false}
use Rattle.std.specs.Ordering.{is_lt}
use Rattle.std.specs.declared.cmp.Ordering.{Ordering}
use Rattle.std.specs.declared.cmp.Ordering.TheVariants.{Equal}
use Rattle.ul_lock.specs.Increasing.{Rising}
use Rattle.ul_merge.specs.declared.gathering.Entry.{Entry}
use Rattle.ul_merge.specs.declared.gathering.Group.{Group}

module _ {K V : Type 0} (cmp : K → K → Ordering) where
  -- an entry of the value, whose key is level with this one
  abbrev pub HasLevel : List (Entry K V) → K → V → Type 0
  HasLevel es k v = (e : Entry K V) × Contains es e × (cmp k e.key ≡ Equal) × (e.value ≡ v)

  -- an entry of the very key
  abbrev pub HasKey : List (Entry K V) → K → Type 0
  HasKey es k = (e : Entry K V) × Contains es e × (e.key ≡ k)

  -- a group with the entry's value, whose key is level with the entry's
  abbrev pub IsGathered : List (Group K V) → Entry K V → Type 0
  IsGathered gs e = (g : Group K V) × Contains gs g × (cmp g.key e.key ≡ Equal) × Contains g.values.items e.value

  -- groups by increasing keys, each with a key of the entries and the values of the entries whose keys are level with it
  pub record AreGroups (es : List (Entry K V)) (gs : List (Group K V)) : Type 0 where
    pub rises : Rising (λ g h. is_lt (cmp g.key h.key)) gs
    pub own : (g : Group K V) → Contains gs g → HasKey es g.key
    pub from : (g : Group K V) (v : V) → Contains gs g → Contains g.values.items v → HasLevel es g.key v
    pub all : (e : Entry K V) → Contains es e → IsGathered gs e

-- ---- values under a key, of an entry or of a group

-- a key and the values under it
abbrev pub Bundle : Type 0 → Type 0 → Type 0
Bundle K V = K × List V

-- what an entry has under its key
abbrev pub entry_bundle : {K V : Type 0} → Entry K V → Bundle K V
entry_bundle e = (e.key, e.value ∷ [])

-- what a group has under its key
abbrev pub group_bundle : {K V : Type 0} → Group K V → Bundle K V
group_bundle g = (g.key, g.values.items)

module _ {K V : Type 0} (cmp : K → K → Ordering) where
  -- a bundle with the value, whose key is level with this one
  abbrev pub HasValue : List (Bundle K V) → K → V → Type 0
  HasValue bs k v = (b : Bundle K V) × Contains bs b × (cmp k b.0 ≡ Equal) × Contains b.1 v

  -- a bundle of the very key
  abbrev pub HasBundle : List (Bundle K V) → K → Type 0
  HasBundle bs k = (b : Bundle K V) × Contains bs b × (b.0 ≡ k)

  -- a group with the value, whose key is level with this one
  abbrev pub IsHeld : List (Group K V) → K → V → Type 0
  IsHeld gs k v = (g : Group K V) × Contains gs g × (cmp g.key k ≡ Equal) × Contains g.values.items v

  -- groups, each with a key of the bundles and only values of bundles whose keys are level with it; level keys may have several
  pub record HoldBundles (bs : List (Bundle K V)) (gs : List (Group K V)) : Type 0 where
    pub own : (g : Group K V) → Contains gs g → HasBundle bs g.key
    pub from : (g : Group K V) (v : V) → Contains gs g → Contains g.values.items v → HasValue bs g.key v
    pub all : (b : Bundle K V) (v : V) → Contains bs b → Contains b.1 v → IsHeld gs b.0 v

  -- groups by increasing keys, made of others by joining those whose keys are level
  pub record AreRuns (gs runs : List (Group K V)) : Type 0 where
    pub rises : Rising (λ g h. is_lt (cmp g.key h.key)) runs
    pub hold : HoldBundles (map group_bundle gs) runs

  -- the key of the group at the place is level with this one
  abbrev pub HasPlace : List (Group K V) → ℕ → K → Type 0
  HasPlace gs i k = (i < length gs) × HoldsAt (λ g. cmp g.key k ≡ Equal) gs i

  -- there is no group yet, or the key stands above the last one's
  abbrev pub IsBehind : List (Group K V) → K → Type 0
  IsBehind gs k = (gs ≡ []) ⊎ ((front : List (Group K V)) × (last : Group K V) × (gs ≡ front ++ last ∷ []) × (is_lt (cmp last.key k) ≡ true))

  -- the key doesn't stand above the last group's
  abbrev pub IsWithin : List (Group K V) → K → Type 0
  IsWithin gs k = (0 < length gs) × HoldsAt (λ g. is_lt (cmp g.key k) ≡ false) gs (length gs - 1)

  -- the one or the other
  abbrev pub StandsAt : List (Group K V) → K → Bool → Type 0
  StandsAt gs k true = IsBehind gs k
  StandsAt gs k false = IsWithin gs k

  -- a new group behind the others
  pub record OpensGroup (old : List (Group K V)) (b : Bundle K V) (new : List (Group K V)) : Type 0 where
    pub group : Group K V
    pub is : new ≡ old ++ group ∷ []
    pub key : group.key ≡ b.0
    pub values : group.values.items ≡ b.1

  -- more values in a group
  pub record GrowsGroup (old : List (Group K V)) (b : Bundle K V) (new : List (Group K V)) : Type 0 where
    pub front : List (Group K V)
    pub was : Group K V
    pub now : Group K V
    pub back : List (Group K V)
    pub before : old ≡ front ++ was ∷ back
    pub after : new ≡ front ++ now ∷ back
    pub key : now.key ≡ was.key
    pub values : now.values.items ≡ was.values.items ++ b.1

  -- in one whose key is level
  abbrev pub JoinsGroup : List (Group K V) → Bundle K V → List (Group K V) → Type 0
  JoinsGroup old b new = (grows : GrowsGroup old b new) × (cmp grows.was.key b.0 ≡ Equal)

  -- in the last one, whose key isn't below
  abbrev pub JoinsLast : List (Group K V) → Bundle K V → List (Group K V) → Type 0
  JoinsLast old b new = (grows : GrowsGroup old b new) × (grows.back ≡ []) × (is_lt (cmp grows.was.key b.0) ≡ false)

  abbrev pub IsPut : List (Group K V) → Bundle K V → List (Group K V) → Type 0
  IsPut old b new = OpensGroup old b new ⊎ JoinsGroup old b new

  abbrev pub IsRun : List (Group K V) → Bundle K V → List (Group K V) → Type 0
  IsRun old b new = (OpensGroup old b new × IsBehind old b.0) ⊎ JoinsLast old b new
