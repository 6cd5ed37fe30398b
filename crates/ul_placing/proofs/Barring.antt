-- The versions that a strategy bars, as a loop collects them.
use Rattle.std.specs.Prelude.{All, Contains, slice_get}
use Rattle.std.proofs.Common.{◌≡◌, ◌<◌, ◌+◌, ℕ, List, [], ◌∷◌, ◌++◌, length, Bool, true, false, not, Decides, Some, refl, sym, subst, ◌∙◌, ⊎_elim, arith}
use Rattle.std.proofs.lemmas.List.Elements.{All-weaker, All-push, Contains-append_left, Contains-append_right, Contains-append_cases}
use Rattle.std.proofs.lemmas.Option.{same_Some, slice_get_within}
use Rattle.ul_base.proofs.ForCallers.{contains_first, only_one}
use Rattle.ul_ranges.specs.Flags.{has, set_of}
use Rattle.ul_ranges.proofs.ForCallers.{length-set_of, set_members}
use Rattle.ul_index.specs.Catalogs.{is_release_fit}
use Rattle.ul_index.specs.Regions.{Region}
use Rattle.ul_index.specs.Serves.{Suits}
use Rattle.ul_requirement.specs.declared.wish.Strategy.{Strategy}
use Rattle.ul_region.specs.declared.rows.Row.{Row}
use Rattle.ul_prepared.specs.declared.prepared.Planned.{Planned}
use Rattle.ul_placing.specs.Facts.{AreBarred}
use Rattle.ul_placing.proofs.Lists.{last_or_before}

-- all are below the next number
pub below_next : (i : ℕ) (barred : List ℕ) → All (λ (m : ℕ). m < i) barred → All (λ (m : ℕ). m < i + 1) barred
below_next i barred h = All-weaker (λ (m : ℕ). m < i) (λ (m : ℕ). m < i + 1) (λ m l. omega (arith, l)) barred h

-- they are so with the number that was put behind them
pub below_more : (i : ℕ) (barred now : List ℕ) → now ≡ barred ++ i ∷ [] → All (λ (m : ℕ). m < i) barred → All (λ (m : ℕ). m < i + 1) now
below_more i barred now e h = subst (All (λ (m : ℕ). m < i + 1)) (sym e) (All-push (λ (m : ℕ). m < i + 1) barred i (below_next i barred h) (omega arith))

module _ (rows : List Row) (S : Row → Type 0) where
  -- a row that isn't barred suits
  abbrev pub Holds : ℕ → List ℕ → Type 0
  Holds i barred = (v : ℕ) (row : Row) → v < i → slice_get rows v ≡ Some row → (Contains barred v → ⊥) → S row

  -- a row that is barred doesn't suit
  abbrev pub Fails : List ℕ → Type 0
  Fails barred = (v : ℕ) (row : Row) → Contains barred v → slice_get rows v ≡ Some row → S row → ⊥

  -- a row that suits, and is not barred
  pub holds_same : (i : ℕ) (barred : List ℕ) (row : Row) → slice_get rows i ≡ Some row → S row → Holds i barred → Holds (i + 1) barred
  holds_same i barred row at s h v r l e n = ⊎_elim (λ b. h v r b e n)
      (λ b. subst S (same_Some row r (sym at ∙ subst (λ (z : ℕ). slice_get rows z ≡ Some r) b e)) s) (last_or_before v i l)

  -- a row that is barred
  pub holds_more : (i : ℕ) (barred now : List ℕ) → now ≡ barred ++ i ∷ [] → Holds i barred → Holds (i + 1) now
  holds_more i barred now grown h v r l e n = ⊎_elim
      (λ b. h v r b e (λ c. n (subst (λ (z : List ℕ). Contains z v) (sym grown) (Contains-append_left barred (i ∷ []) v c))))
      (λ b. absurd (n (subst (λ (z : List ℕ). Contains z v) (sym grown) (Contains-append_right barred (i ∷ []) v (subst (λ (z : ℕ). Contains (i ∷ []) z) (sym b) (contains_first i [])))))) (last_or_before v i l)

  -- a barred row does not suit
  pub fails_more : (i : ℕ) (barred now : List ℕ) (row : Row) → now ≡ barred ++ i ∷ [] → slice_get rows i ≡ Some row → (S row → ⊥) → Fails barred → Fails now
  fails_more i barred now row grown at f h v r c e s = ⊎_elim (λ b. h v r b e s)
      (λ b. f (subst S (same_Some r row (subst (λ (z : ℕ). Some r ≡ slice_get rows z) (only_one i v b) (sym e) ∙ at)) s))
      (Contains-append_cases barred (i ∷ []) v (subst (λ (z : List ℕ). Contains z v) grown c))

  decided : (size v : ℕ) (barred : List ℕ) (row : Row) (b : Bool) → has v (set_of size barred) ≡ b → v < size → slice_get rows v ≡ Some row → Holds size barred → Fails barred → Decides (not b) (S row)
  decided size v barred row true e l at h f = ((λ x. cc), (λ s. absurd (f v row ((set_members v size barred).0 e).1 at s)))
  decided size v barred row false e l at h f = ((λ x. h v row l at (λ c. clash ((set_members v size barred).1 (l, c)) e)), (λ s. refl))
    where
      clash : has v (set_of size barred) ≡ true → has v (set_of size barred) ≡ false → ⊥
      clash x y = cc

  -- the set decides of each row whether it suits
  pub each_decided : (size : ℕ) (barred : List ℕ) (v : ℕ) (row : Row) → length rows ≡ size → slice_get rows v ≡ Some row → Holds size barred → Fails barred → Decides (not (has v (set_of size barred))) (S row)
  each_decided size barred v row long at h f = decided size v barred row (has v (set_of size barred)) refl (subst (λ (n : ℕ). v < n) long (slice_get_within rows v row at)) at h f

-- the set of the barred ones
pub barred_all : (strategy : Strategy) (R : Region) (p : Planned) (size : ℕ) (barred : List ℕ) (set : List Bool) → length p.rows.items ≡ size → set ≡ set_of size barred
    → Holds p.rows.items (λ (row : Row). Suits strategy R (is_release_fit row.release.now)) size barred → Fails p.rows.items (λ (row : Row). Suits strategy R (is_release_fit row.release.now)) barred → AreBarred strategy R p set
barred_all strategy R p size barred set long e h f = subst (AreBarred strategy R p) (sym e) (record {
  size = length-set_of size barred ∙ sym long;
  each = λ v row at. each_decided p.rows.items (λ (r : Row). Suits strategy R (is_release_fit r.release.now)) size barred v row long at h f;
})
