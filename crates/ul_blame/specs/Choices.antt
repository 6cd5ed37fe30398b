-- A choice of versions: of each node one or none.
use Rattle.std.specs.Prelude.{◌≡◌, ℕ, ◌<◌, List, Bool, true, false, Option, Some, None, get_or, slice_get, Contains}
use Rattle.ul_ranges.specs.Flags.{has}
use Rattle.ul_problem.specs.Plain.{Plain, size_of, base_of, barred_of}
use Rattle.ul_problem.specs.Terms.{Selection}
use Rattle.ul_blame.specs.Serving.{IsMet}
use Rattle.ul_blame.specs.declared.needs.CoreNeed.{CoreNeed}

-- the selection of what is chosen; past the end nothing is
abbrev pub chosen : List (Option ℕ) → Selection
chosen choice n = get_or choice n None

-- where there is a base, it is selected at the version
abbrev pub HasBaseAt : Selection → Option ℕ → ℕ → Type 0
HasBaseAt σ base v = (b : ℕ) → base ≡ Some b → σ b ≡ Some v

-- the version of a node is one of its versions, is fit, and is the base's
pub record IsFitAt (p : Plain) (σ : Selection) (n v : ℕ) : Type 0 where
  pub within : v < size_of p n
  pub fit : has v (barred_of p n) ≡ false
  pub same_base : HasBaseAt σ (base_of p n) v

-- so it is of each node that is selected
abbrev pub AreFit : Plain → Selection → Type 0
AreFit p σ = (n v : ℕ) → σ n ≡ Some v → IsFitAt p σ n v

-- the roots are selected
abbrev pub HasRoots : Selection → List ℕ → Type 0
HasRoots σ roots = (n : ℕ) → Contains roots n → (v : ℕ) × (σ n ≡ Some v)

-- the need at a place is met, where its flag is set
abbrev pub IsMetAt : Plain → Selection → List Bool → List CoreNeed → ℕ → Type 0
IsMetAt p σ flags needs k = (c : CoreNeed) → slice_get needs k ≡ Some c → get_or flags k false ≡ true → IsMet p σ c

-- each need whose flag is set is met
abbrev pub MeetsKept : Plain → Selection → List Bool → List CoreNeed → Type 0
MeetsKept p σ flags needs = (k : ℕ) → IsMetAt p σ flags needs k

-- each flag before a place that is set stands at one of these places
abbrev pub AreListed : List Bool → ℕ → List ℕ → Type 0
AreListed flags place kept = (k : ℕ) → k < place → get_or flags k false ≡ true → Contains kept k
