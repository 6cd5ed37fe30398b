-- The best selection, as the list of its decisions.
use Rattle.std.specs.Prelude.{◌≡◌, ℕ, List, [], ◌∷◌, ◌++◌, Bool, Option, Some, None, nat_eq, slice_get}
use Rattle.ul_problem.specs.Decisions.{decided_version, first_undecided, is_key_decided, AgreesWith, AreAllPassed, IsBestListFrom, IsFirstTaken}
use Rattle.ul_problem.specs.Terms.{Selection}
use Rattle.ul_problem.specs.Plain.{Plain, needs_of}
pub use Rattle.ul_problem.specs.Plain.{order_of}
use Rattle.ul_problem.specs.Serving.{Serves}
use Rattle.ul_problem.specs.Problems.{IsWellFormed}
use Rattle.ul_problem.specs.declared.problem.Need.{Need}

-- a list of decisions, each a node and a version
abbrev pub Picks : Type 0
Picks = List (ℕ × ℕ)

-- the node is decided by the list
abbrev pub is_decided : ℕ → Picks → Bool
is_decided n d = is_key_decided nat_eq n d

-- the first undecided node of a list
abbrev pub first_open : Picks → List ℕ → Option ℕ
first_open d ns = first_undecided nat_eq d ns

-- the targets of needs, in their order
abbrev pub targets : List Need → List ℕ
targets [] = []
targets (need ∷ needs) = need.node ∷ targets needs

-- the joined needs of the decided nodes, in the order of decision
abbrev pub joined_needs : Plain → Picks → List ℕ
joined_needs p [] = []
joined_needs p (e ∷ d) = targets (needs_of p e.0 e.1) ++ joined_needs p d

-- the next undecided node: the roots first, then the joined needs
abbrev pub next_of : Plain → Picks → Option ℕ
next_of p d = first_open d (p.roots ++ joined_needs p d)

-- the selection has every decided version
abbrev pub Agrees : Selection → Picks → Type 0
Agrees σ d = AgreesWith σ d

-- some serving selection extends the decisions
abbrev pub Extends : Plain → Picks → Type 0
Extends p d = (σ : Selection) × Serves p σ × Agrees σ d

-- no version before a place in the order can be taken
abbrev pub ArePassed : Plain → Picks → ℕ → ℕ → Type 0
ArePassed p d n i = AreAllPassed (order_of p) (Extends p) d n i

-- v is the first version in order that can be taken
abbrev pub IsFirst : Plain → Picks → ℕ → ℕ → Type 0
IsFirst p d n v = IsFirstTaken (order_of p) (Extends p) d n v

-- the rest of a best list, after decisions
abbrev pub IsBestFrom : Plain → Picks → Picks → Type 0
IsBestFrom p d rest = IsBestListFrom (λ e o. next_of p e ≡ o) (IsFirst p) d rest

-- The list is the best.
abbrev pub IsBest : Plain → Picks → Type 0
IsBest p d = IsBestFrom p [] d

-- the version of a node by a list
abbrev pub version_in : Picks → ℕ → Option ℕ
version_in d n = decided_version nat_eq d n

-- What a finished trail shows: each decided version is the first that isn't passed over, with nothing said of what can be taken.
abbrev pub IsTrailed : Plain → Picks → Picks → Type 0
IsTrailed p d [] = next_of p d ≡ None
IsTrailed p d (e ∷ rest) = (next_of p d ≡ Some e.0) × ((i : ℕ) × (slice_get (order_of p e.0) i ≡ Some e.1) × ArePassed p d e.0 i) × IsTrailed p (d ++ e ∷ []) rest

-- each node of a list is the next one
abbrev pub IsChain : Plain → Picks → Picks → Type 0
IsChain p d [] = Unit {0}
IsChain p d (e ∷ rest) = (next_of p d ≡ Some e.0) × IsChain p (d ++ e ∷ []) rest

-- laws
abbrev pub BestIsOne : Type 0
BestIsOne = (p : Plain) (d e : Picks) → IsBest p d → IsBest p e → d ≡ e

-- a best list's map serves
abbrev pub BestServes : Type 0
BestServes = (p : Plain) (d : Picks) → IsWellFormed p → IsBest p d → Serves p (version_in d)

-- a list whose picks are each the first version that nothing passes over is best where some serving selection has them all
abbrev pub TrailedIsBest : Type 0
TrailedIsBest = (p : Plain) (d : Picks) (σ : Selection) → Serves p σ → Agrees σ d → IsTrailed p [] d → IsBest p d
