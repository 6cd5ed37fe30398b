-- Parts that are gathered for places, and taken.
use Rattle.std.proofs.Common.{◌≡◌, ◌≢◌, ◌⊎◌, ◌<◌, ◌||◌, ℕ, zero, suc, List, [], ◌∷◌, length, Bool, true, false, Some, refl, sym, ap, ◌∙◌, subst, inl, inr, ⊎_elim, arith}
use Rattle.std.specs.Prelude.{All}
use Rattle.std.specs.List.{slice_get}
use Rattle.std.proofs.Math.ListN.{set}
use Rattle.std.proofs.lemmas.List.{length-set, map-set}
use Rattle.std.proofs.lemmas.List.Elements.{All-contains, All-nil, All-push, All-set, All-weaker}
use Rattle.std.proofs.lemmas.Option.{none-some, same_Some, slice_get_within}
use Rattle.ul_base.proofs.ForCallers.{long_map}
use Rattle.ul_interner.specs.Known.{Knows}
use Rattle.ul_comparison.specs.Worlds.{WorldFields}
use Rattle.ul_lock_nodes.specs.Flags.{is_flagged}
use Rattle.ul_lock_nodes.proofs.ForCallers.{contains_at}
use Rattle.ul_region.specs.Truths.{DiagramMark, IsRegion, PassView, region_at}
use Rattle.ul_region.specs.Unions.{some_holds}
use Rattle.ul_region.proofs.ForCallers.{some_append, still_region}
use Rattle.ul_reach.specs.Reaching.{AreParts, IsGatheredAt, IsMore, IsPut, IsTaken, Parts, gathered_at}
use Rattle.ul_reach.specs.Rounds.{AreLeft}
use Rattle.ul_reach.proofs.Flagged.{at_parts, flag_cases, flag_here, flag_kept, or_left, or_right, or_true}

-- ---- where more is known

pub regions_still : (g h : PassView) (ms : List DiagramMark) → Knows g h → All (IsRegion g) ms → All (IsRegion h) ms
regions_still g h ms more a = All-weaker (IsRegion g) (IsRegion h) (still_region g h more) ms a

pub parts_still : (g h : PassView) (gs : List Parts) → Knows g h → AreParts g gs → AreParts h gs
parts_still g h gs more a = All-weaker (λ (ps : Parts). All (IsRegion g) ps.items) (λ (ps : Parts). All (IsRegion h) ps.items) (λ ps r. regions_still g h ps.items more r) gs a

-- the parts at a place are regions
pub parts_at : (h : PassView) (gs : List Parts) (k : ℕ) (ps : Parts) → AreParts h gs → slice_get gs k ≡ Some ps → All (IsRegion h) ps.items
parts_at h gs k ps a e = All-contains (λ (ps : Parts). All (IsRegion h) ps.items) gs ps a (contains_at gs k ps e)

pub no_items : {A : Type 0} (xs : List A) → length xs ≡ 0 → xs ≡ []
no_items [] e = refl
no_items (x ∷ xs) e = absurd (omega (arith, e))

-- ---- parts that stand at a place instead

-- what stands in a list that is set is the new one, or stood there
now_or_before : {A : Type 0} (xs : List A) (i k : ℕ) (v y : A) → slice_get (set xs i v) k ≡ Some y → (y ≡ v) ⊎ ((k ≢ i) × (slice_get xs k ≡ Some y))
now_or_before [] i k v y e = absurd (none-some y e)
now_or_before (x ∷ xs) zero zero v y e = inl (sym (same_Some v y e))
now_or_before (x ∷ xs) zero (suc k) v y e = inr ((λ q. omega (arith, q)), e)
now_or_before (x ∷ xs) (suc i) zero v y e = inr ((λ q. omega (arith, q)), e)
now_or_before (x ∷ xs) (suc i) (suc k) v y e = ⊎_elim inl (λ h. inr ((λ q. h.0 (omega (arith, q))), h.1)) (now_or_before xs i k v y e)

gathered_set : (gs : List Parts) (i : ℕ) (ps : Parts) (w : WorldFields) → gathered_at (set gs i ps) w ≡ set (gathered_at gs w) i (some_holds ps.items w)
gathered_set gs i ps w = map-set (λ (ps : Parts). some_holds ps.items w) gs i ps

module _ (place : ℕ) (old new : Parts) (a b : List Parts) (at : slice_get a place ≡ Some old) (is : b ≡ set a place new) where
  flags_are : (w : WorldFields) → gathered_at b w ≡ set (gathered_at a w) place (some_holds new.items w)
  flags_are w = ap (λ (gs : List Parts). gathered_at gs w) is ∙ gathered_set a place new w

  -- what holds held, or it is the new one
  pub set_cases : (w : WorldFields) (k : ℕ) → IsGatheredAt b w k → IsGatheredAt a w k ⊎ ((k ≡ place) × (some_holds new.items w ≡ true))
  set_cases w k e = flag_cases (gathered_at a w) place k (some_holds new.items w) (sym (ap (λ fs. is_flagged fs k) (flags_are w)) ∙ e)

  -- what held holds, or it was the old one
  pub set_kept : (w : WorldFields) (k : ℕ) → IsGatheredAt a w k → IsGatheredAt b w k ⊎ ((k ≡ place) × (some_holds old.items w ≡ true))
  set_kept w k e = ⊎_elim (λ f. inl (ap (λ fs. is_flagged fs k) (flags_are w) ∙ f)) (λ q. inr (q, sym (at_parts a place old w at) ∙ subst (IsGatheredAt a w) q e))
      (flag_kept (gathered_at a w) place k (some_holds new.items w) e)

  -- the new one
  pub set_here : (w : WorldFields) → is_flagged (gathered_at b w) place ≡ some_holds new.items w
  set_here w = ap (λ fs. is_flagged fs place) (flags_are w)
      ∙ flag_here (gathered_at a w) place (some_holds new.items w) (subst (λ n. place < n) (sym (long_map (λ (ps : Parts). some_holds ps.items w) a)) (slice_get_within a place old at))

  pub set_long : length b ≡ length a
  set_long = ap length is ∙ length-set a place new

  pub set_parts : (h : PassView) → AreParts h a → All (IsRegion h) new.items → AreParts h b
  set_parts h parts r = subst (AreParts h) (sym is) (All-set (λ (ps : Parts). All (IsRegion h) ps.items) a place new r parts)

-- ---- a part more

module _ (place : ℕ) (part : DiagramMark) (a b : List Parts) (p : IsPut place part a b) where
  holds : (w : WorldFields) → some_holds p.new.items w ≡ (some_holds p.old.items w || (region_at part w || false))
  holds w = ap (λ (ms : List DiagramMark). some_holds ms w) p.items ∙ some_append p.old.items (part ∷ []) w

  holds_before : (w : WorldFields) → some_holds p.old.items w ≡ true → some_holds p.new.items w ≡ true
  holds_before w e = holds w ∙ or_left (some_holds p.old.items w) (region_at part w || false) e

  one_of : (b : Bool) → (b || false) ≡ true → b ≡ true
  one_of true e = refl
  one_of false e = cc

  -- what holds held, or it is the part
  pub put_only : (w : WorldFields) (k : ℕ) → IsGatheredAt b w k → IsGatheredAt a w k ⊎ ((k ≡ place) × (region_at part w ≡ true))
  put_only w k e = ⊎_elim inl (λ q. ⊎_elim (λ o. inl (subst (IsGatheredAt a w) (sym q.0) (at_parts a place p.old w p.at ∙ o))) (λ n. inr (q.0, one_of (region_at part w) n))
      (or_true (some_holds p.old.items w) (region_at part w || false) (sym (holds w) ∙ q.1)))
      (set_cases place p.old p.new a b p.at p.after_is w k e)

  put_keeps : (w : WorldFields) (k : ℕ) → IsGatheredAt a w k → IsGatheredAt b w k
  put_keeps w k e = ⊎_elim (λ f. f) (λ q. subst (IsGatheredAt b w) (sym q.0) (set_here place p.old p.new a b p.at p.after_is w ∙ holds_before w q.1))
      (set_kept place p.old p.new a b p.at p.after_is w k e)

  -- the part holds
  pub put_here : (w : WorldFields) → region_at part w ≡ true → IsGatheredAt b w place
  put_here w e = set_here place p.old p.new a b p.at p.after_is w ∙ (holds w ∙ or_right (some_holds p.old.items w) (region_at part w || false) (or_left (region_at part w) false e))

  -- a region that is put
  pub put_more : (g h : PassView) → Knows g h → AreParts g a → IsRegion h part → IsMore h a b
  put_more g h more parts r = let still = parts_still g h a more parts in record {
    long = set_long place p.old p.new a b p.at p.after_is;
    parts = set_parts place p.old p.new a b p.at p.after_is h still (subst (All (IsRegion h)) (sym p.items) (All-push (IsRegion h) p.old.items part (parts_at h a place p.old still p.at) r));
    keeps = put_keeps;
  }

pub more_itself : (h : PassView) (gs : List Parts) → AreParts h gs → IsMore h gs gs
more_itself h gs parts = record { long = refl; parts = parts; keeps = λ w k e. e }

pub more_then : (g h : PassView) (a b c : List Parts) → IsMore g a b → IsMore h b c → IsMore h a c
more_then g h a b c x y = record { long = y.long ∙ x.long; parts = y.parts; keeps = λ w k e. y.keeps w k (x.keeps w k e) }

-- ---- parts that are taken

module _ (place : ℕ) (parts : Parts) (a b : List Parts) (t : IsTaken place parts a b) where
  -- what holds held
  pub taken_only : (w : WorldFields) (k : ℕ) → IsGatheredAt b w k → IsGatheredAt a w k
  taken_only w k e = ⊎_elim (λ f. f) (λ q. absurd (no_truth (sym (ap (λ (ms : List DiagramMark). some_holds ms w) t.empty) ∙ q.1))) (set_cases place parts t.none a b t.at t.after_is w k e)
    where
      no_truth : false ≡ true → ⊥
      no_truth e = cc

  -- what held holds, or was taken
  pub taken_kept : (w : WorldFields) (k : ℕ) → IsGatheredAt a w k → IsGatheredAt b w k ⊎ ((k ≡ place) × (some_holds parts.items w ≡ true))
  taken_kept w k e = set_kept place parts t.none a b t.at t.after_is w k e

  pub taken_long : length b ≡ length a
  taken_long = set_long place parts t.none a b t.at t.after_is

  pub taken_parts : (h : PassView) → AreParts h a → AreParts h b
  taken_parts h all = set_parts place parts t.none a b t.at t.after_is h all (subst (All (IsRegion h)) (sym t.empty) (All-nil (IsRegion h)))

  -- those of other places are left
  pub taken_left : AreLeft place a b
  taken_left k ps at = ⊎_elim (λ q. inl (ap (λ (z : Parts). z.items) q ∙ t.empty)) inr
      (now_or_before a place k t.none ps (subst (λ (gs : List Parts). slice_get gs k ≡ Some ps) t.after_is at))
