-- Rounds in which each node has its turn: in each world each reaches a node more, until all that is known is reached.
use Rattle.std.specs.Prelude.{◌≡◌, ◌≢◌, ◌⊎◌, ◌<◌, ℕ, List, [], ◌∷◌, Bool, true, if◌then◌else◌, Option, None, Some, Contains, count_by, slice_get}
use Rattle.ul_comparison.specs.Worlds.{WorldFields, IsWorld}
use Rattle.ul_lock_nodes.specs.Flags.{is_flagged}
use Rattle.ul_region.specs.Truths.{DiagramMark}
use Rattle.ul_reach.specs.Reaching.{IsKnownAt, IsReachedAt, IsSettled, Parts, flags_at}
use Rattle.ul_reach.specs.declared.reaching.Reaching.{Reaching}

-- ---- places

-- what is flagged is listed
abbrev pub AreListed : List Bool → List ℕ → Type 0
AreListed flags places = (k : ℕ) → is_flagged flags k ≡ true → Contains places k

-- what is flagged was, or is the place
abbrev pub FlagsOnly : ℕ → List Bool → List Bool → Type 0
FlagsOnly place before after = (k : ℕ) → is_flagged after k ≡ true → (is_flagged before k ≡ true) ⊎ (k ≡ place)

-- the place, unless it is listed
abbrev pub one_unless : Bool → ℕ → List ℕ
one_unless listed place = if listed then [] else place ∷ []

-- each of so many places is listed
abbrev pub ListsAll : ℕ → List ℕ → Type 0
ListsAll count places = (k : ℕ) → k < count → Contains places k

-- ---- turns

-- what is known in the world of the node at the place is reached in it
abbrev pub IsPlaceStable : Reaching → WorldFields → ℕ → Type 0
IsPlaceStable s w place = IsKnownAt s w place → IsReachedAt s w place

-- so it is of every node
abbrev pub IsStableAt : Reaching → WorldFields → Type 0
IsStableAt s w = (k : ℕ) → IsPlaceStable s w k

-- and in every world
abbrev pub IsStable : Reaching → Type 0
IsStable s = (w : WorldFields) → IsWorld w → IsStableAt s w

-- parts are those that were gathered before, but for those of the place, of which none is left
abbrev pub AreLeft : ℕ → List Parts → List Parts → Type 0
AreLeft place before after = (k : ℕ) (ps : Parts) → slice_get after k ≡ Some ps
    → (ps.items ≡ []) ⊎ ((k ≢ place) × (slice_get before k ≡ Some ps))

-- what was gathered for a place went into its reach: all that was known of it is reached; and it is told as grown only
-- where some of that wasn't reached before
pub record GrowsBy (place : ℕ) (grown : Option DiagramMark) (before after : Reaching) : Type 0 where
  pub stays : (w : WorldFields) (k : ℕ) → IsWorld w → IsReachedAt before w k → IsReachedAt after w k
  pub taken : (w : WorldFields) → IsWorld w → IsKnownAt before w place → IsReachedAt after w place
  pub none : ((w : WorldFields) → IsWorld w → IsPlaceStable before w place) → grown ≡ None
  pub left : AreLeft place before.gathered.items after.gathered.items

-- the node at the place had its turn: all that was known of it is reached, and in worlds where it was before nothing
-- more is known; where all that is known is reached, no part is gathered
pub record IsTurned (place : ℕ) (before after : Reaching) : Type 0 where
  pub stays : (w : WorldFields) (k : ℕ) → IsWorld w → IsReachedAt before w k → IsReachedAt after w k
  pub keeps : (w : WorldFields) (k : ℕ) → IsWorld w → IsKnownAt before w k → IsKnownAt after w k
  pub taken : (w : WorldFields) → IsWorld w → IsKnownAt before w place → IsReachedAt after w place
  pub only : (w : WorldFields) (k : ℕ) → IsWorld w → IsPlaceStable before w place → IsKnownAt after w k
      → IsKnownAt before w k
  pub left : IsStable before → AreLeft place before.gathered.items after.gathered.items

-- ---- rounds

-- how many nodes are reached in the world
abbrev pub reached_count : Reaching → WorldFields → ℕ
reached_count s w = count_by (λ flag. flag) (flags_at s.reach.items w)

-- each node had its turn: in each world more nodes are reached, or all that is known is, and that stays so; and where it
-- was so in all worlds, no part is left
pub record IsRound (before after : Reaching) : Type 0 where
  pub more : (w : WorldFields) → IsWorld w → IsStableAt after w ⊎ (reached_count before w < reached_count after w)
  pub stable : (w : WorldFields) → IsWorld w → IsStableAt before w → IsStableAt after w
  pub settles : IsStable before → IsSettled after.gathered.items
