-- Laws of best lists of decisions, over any kind of key and of version.
use Rattle.std.proofs.Common.{◌≡◌, ℕ, List, [], ◌∷◌, ◌++◌, Bool, true, false, cond, Option, Some, None, ◌<◌, ◌⊎◌, inl, inr, refl, sym, ap, subst, ◌∙◌, slice_get}
use Rattle.std.proofs.lemmas.Bool.{cases_order}
use Rattle.std.proofs.lemmas.Option.{same_Some, none-some}
use Rattle.ul_problem.specs.Decisions.{decided_version, is_key_decided, AgreesWith, IsFirstTaken, IsBestListFrom}

module _ {K V : Type 0} where
  -- two first versions are one
  pub first_taken_once : (order : K → List V) (Can : List (K × V) → Type 0) (d : List (K × V)) (k : K) (v w : V) → IsFirstTaken order Can d k v → IsFirstTaken order Can d k w → v ≡ w
  first_taken_once order Can d k v w a b = which (cases_order a.0 b.0)
    where
      which : (a.0 ≡ b.0) ⊎ ((a.0 < b.0) ⊎ (b.0 < a.0)) → v ≡ w
      which (inl e) = same_Some v w (sym a.1 ∙ (ap (λ (i : ℕ). slice_get (order k) i) e ∙ b.1))
      which (inr (inl h)) = absurd (b.3 a.0 v h a.1 a.2)
      which (inr (inr h)) = absurd (a.3 b.0 w h b.1 b.2)

  -- at most one list is best, where the next key and the first version are each one
  pub best_list_once : (Next : List (K × V) → Option K → Type 0) (First : List (K × V) → K → V → Type 0)
      → ((d : List (K × V)) (o q : Option K) → Next d o → Next d q → o ≡ q)
      → ((d : List (K × V)) (k : K) (v w : V) → First d k v → First d k w → v ≡ w)
      → (d xs ys : List (K × V)) → IsBestListFrom Next First d xs → IsBestListFrom Next First d ys → xs ≡ ys
  best_list_once Next First one first d [] [] a b = refl
  best_list_once Next First one first d [] (y ∷ ys) a b = absurd (none-some y.0 (one d None (Some y.0) a b.0))
  best_list_once Next First one first d (x ∷ xs) [] a b = absurd (none-some x.0 (one d None (Some x.0) b a.0))
  best_list_once Next First one first d ((k, v) ∷ xs) ((l, w) ∷ ys) a b =
      let ek : k ≡ l = same_Some k l (one d (Some k) (Some l) a.0 b.0) in
      let bf : First d k w = subst (λ (m : K). First d m w) (sym ek) b.1 in
      let ev : v ≡ w = first d k v w a.1 bf in
      let e : ◌≡◌ {A = K × V} (k, v) (l, w) = λ i. (ek i, ev i) in
      let br : IsBestListFrom Next First (d ++ (k, v) ∷ []) ys = subst (λ (x : K × V). IsBestListFrom Next First (d ++ x ∷ []) ys) (sym e) b.2 in
      let r : xs ≡ ys = best_list_once Next First one first (d ++ (k, v) ∷ []) xs ys a.2 br in
      λ i. e i ∷ r i

  -- a version that a list gives a key is the version of each map that agrees with the list
  pub agreed_version : (same : K → K → Bool) → ((a b : K) → same a b ≡ true → a ≡ b) → (σ : K → Option V) (d : List (K × V)) (k : K) (v : V)
      → AgreesWith σ d → decided_version same d k ≡ Some v → σ k ≡ Some v
  agreed_version same exact σ [] k v a h = absurd (none-some v h)
  agreed_version same exact σ (e ∷ d) k v a h = which (same e.0 k) refl (agreed_version same exact σ d k v a.1) h
    where
      which : (b : Bool) → same e.0 k ≡ b → (decided_version same d k ≡ Some v → σ k ≡ Some v) → cond b (Some e.1) (decided_version same d k) ≡ Some v → σ k ≡ Some v
      which true f more g = subst (λ (m : K). σ m ≡ Some v) (exact e.0 k f) (a.0 ∙ g)
      which false f more g = more g

  -- a decided key has a version
  pub version_of_decided : (same : K → K → Bool) (d : List (K × V)) (k : K) → is_key_decided same k d ≡ true → (v : V) × (decided_version same d k ≡ Some v)
  version_of_decided same [] k h = cc
  version_of_decided same (e ∷ d) k h = which (same e.0 k) (version_of_decided same d k) h
    where
      which : (b : Bool) → (is_key_decided same k d ≡ true → (v : V) × (decided_version same d k ≡ Some v)) → cond b true (is_key_decided same k d) ≡ true
          → (v : V) × (cond b (Some e.1) (decided_version same d k) ≡ Some v)
      which true more g = (e.1, refl)
      which false more g = more g
