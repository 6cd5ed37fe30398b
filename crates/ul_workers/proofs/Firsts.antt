-- What holds of the first of a list and of the others holds of all.
use Rattle.std.proofs.Common.{◌≡◌, ℕ, zero, suc, ◌+◌, ◌<◌, List, ◌++◌, length, get_or, slice_set, refl, sym, subst, ap, ◌∙◌, arith}
use Rattle.std.proofs.lemmas.List.{get_or-append-add, get_or_append_left, get_or_default, get_or-set_same, length-append}
use Rattle.ul_workers.specs.InThreads.{AcceptsFrom, ChangesFrom}

-- what stands behind the first
behind : {T : Type 0} (all xs ys : List T) (k : ℕ) (d : T) → all ≡ xs ++ ys → length xs ≡ 1 → get_or all (suc k) d ≡ get_or ys k d
behind all xs ys k d is one = ap (λ l. get_or l (suc k) d) is ∙ (subst (λ n. get_or (xs ++ ys) n d ≡ get_or ys k d) {x = length xs + k} (omega (arith, one)) (get_or-append-add xs ys k d))

-- the first
before : {T : Type 0} (all xs ys : List T) (d : T) → all ≡ xs ++ ys → length xs ≡ 1 → get_or all 0 d ≡ get_or xs 0 d
before all xs ys d is one = ap (λ l. get_or l 0 d) is ∙ get_or_append_left xs ys d 0 (omega (arith, one))

module _ {T : Type 0} (P : ℕ → T → Type 0) (base : ℕ) (all xs ys : List T) (is : all ≡ xs ++ ys) (one : length xs ≡ 1) where
  pub accepts_others : AcceptsFrom P base all → AcceptsFrom P (base + 1) ys
  accepts_others h = record {
    room = omega (arith, h.room, ap length is, length-append xs ys);
    each = λ k d l. subst (λ n. P n (get_or ys k d)) {x = base + suc k} (omega arith)
        (subst (P (base + suc k)) (behind all xs ys k d is one) (h.each (suc k) d (omega (arith, l, ap length is, length-append xs ys))));
  }

module _ {T : Type 0} (R : ℕ → T → T → Type 0) (base : ℕ) (all xs ys : List T) (is : all ≡ xs ++ ys) (one : length xs ≡ 1) where
  pub changes_all : (xs' ys' : List T) → length xs' ≡ 1 → ChangesFrom R base xs xs' → ChangesFrom R (base + 1) ys ys' → ChangesFrom R base all (xs' ++ ys')
  changes_all xs' ys' one' h hs = record { each = at }
    where
      at : (k : ℕ) (d : T) → k < length all → R (base + k) (get_or all k d) (get_or (xs' ++ ys') k d)
      at zero d l = subst (λ x. R (base + 0) x (get_or (xs' ++ ys') 0 d)) (sym (before all xs ys d is one))
          (subst (R (base + 0) (get_or xs 0 d)) (sym (before (xs' ++ ys') xs' ys' d refl one')) (h.each 0 d (omega (arith, one))))
      at (suc k) d l = subst (λ n. R n (get_or all (suc k) d) (get_or (xs' ++ ys') (suc k) d)) {x = base + 1 + k} (omega arith)
          (subst (λ x. R (base + 1 + k) x (get_or (xs' ++ ys') (suc k) d)) (sym (behind all xs ys k d is one))
          (subst (R (base + 1 + k) (get_or ys k d)) (sym (behind (xs' ++ ys') xs' ys' k d refl one')) (hs.each k d (omega (arith, l, ap length is, length-append xs ys, one)))))

-- a list of one
pub changes_one : {T : Type 0} (R : ℕ → T → T → Type 0) (base : ℕ) (xs : List T) (old y : T) → length xs ≡ 1 → R base (get_or xs 0 old) y → ChangesFrom R base xs (slice_set xs 0 y)
changes_one {T} R base xs old y one r = record { each = at }
  where
    at : (k : ℕ) (d : T) → k < length xs → R (base + k) (get_or xs k d) (get_or (slice_set xs 0 y) k d)
    at zero d l = subst (λ n. R n (get_or xs 0 d) (get_or (slice_set xs 0 y) 0 d)) {x = base} (omega arith)
        (subst (λ x. R base x (get_or (slice_set xs 0 y) 0 d)) (get_or_default xs 0 old d l) (subst (R base (get_or xs 0 old)) (sym (get_or-set_same xs 0 y d l)) r))
    at (suc k) d l = absurd (omega (arith, one, l))
