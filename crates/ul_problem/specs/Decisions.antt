-- The best list of decisions, over any kind of key and of version. Keys are decided one after another, each at the first version
-- in its order that can be taken.
use Rattle.std.specs.Prelude.{◌≡◌, ℕ, List, [], ◌∷◌, ◌++◌, Bool, true, false, cond, Option, Some, None, ◌<◌, slice_get}

module _ {K V : Type 0} where
  -- the version of a key by a list of decisions, where `same` tests that two keys are equal
  abbrev pub decided_version : (K → K → Bool) → List (K × V) → K → Option V
  decided_version same [] k = None
  decided_version same (e ∷ d) k = cond (same e.0 k) (Some e.1) (decided_version same d k)

  -- the key is decided by the list
  abbrev pub is_key_decided : (K → K → Bool) → K → List (K × V) → Bool
  is_key_decided same k [] = false
  is_key_decided same k (e ∷ d) = cond (same e.0 k) true (is_key_decided same k d)

  -- the first undecided key of a list
  abbrev pub first_undecided : (K → K → Bool) → List (K × V) → List K → Option K
  first_undecided same d [] = None
  first_undecided same d (k ∷ ks) = cond (is_key_decided same k d) (first_undecided same d ks) (Some k)

  -- the map has every decided version
  abbrev pub AgreesWith : (K → Option V) → List (K × V) → Type 0
  AgreesWith σ [] = Unit {0}
  AgreesWith σ (e ∷ d) = (σ e.0 ≡ Some e.1) × AgreesWith σ d

  -- no version before a place of the key's order can be taken after the decisions
  abbrev pub AreAllPassed : (K → List V) → (List (K × V) → Type 0) → List (K × V) → K → ℕ → Type 0
  AreAllPassed order Can d k i = (j : ℕ) (w : V) → j < i → slice_get (order k) j ≡ Some w → Can (d ++ (k, w) ∷ []) → ⊥

  -- v is the first version in the key's order that can be taken after the decisions
  abbrev pub IsFirstTaken : (K → List V) → (List (K × V) → Type 0) → List (K × V) → K → V → Type 0
  IsFirstTaken order Can d k v = (i : ℕ) × (slice_get (order k) i ≡ Some v) × Can (d ++ (k, v) ∷ []) × AreAllPassed order Can d k i

  -- The rest of a best list, after decisions: `Next` says which key is next, or that none is, and `First` which version is the
  -- first that can be taken.
  abbrev pub IsBestListFrom : (List (K × V) → Option K → Type 0) → (List (K × V) → K → V → Type 0) → List (K × V) → List (K × V) → Type 0
  IsBestListFrom Next First d [] = Next d None
  IsBestListFrom Next First d (e ∷ rest) = Next d (Some e.0) × First d e.0 e.1 × IsBestListFrom Next First (d ++ e ∷ []) rest
