-- Cutting texts: bytes that stand in no part, and parts between bytes.
use Rattle.std.proofs.Common.{◌≡◌, ℕ, List, [], ◌∷◌, ◌++◌, Bool, true, false, cond, ◌||◌, eqb, refl, ap, Option, Some, None, append_assoc}
use Rattle.std.specs.Prelude.{option_map}
use Rattle.std.specs.Cmp.{first_so, second_so}
use Rattle.std.specs.List.{list_all, onto_first, slice_split}
use Rattle.ul_lines.specs.Pieces.{has, onto, until}
use Rattle.ul_lines.proofs.ForCallers.{eqb_self}

pub pick_true : {A : Type 0} (b : Bool) (o : Option A) (x : A) → cond b o None ≡ Some x → (b ≡ true) × (o ≡ Some x)
pick_true true o x e = (refl, e)
pick_true false o x e = absurd cc

-- a weaker test
pub all_weaker : (p q : ℕ → Bool) → ((c : ℕ) → p c ≡ true → q c ≡ true) → (t : List ℕ) → list_all p t ≡ true → list_all q t ≡ true
all_weaker p q w [] h = refl
all_weaker p q w (x ∷ t) h = rw (w x (first_so _ _ h)) (all_weaker p q w t (second_so _ _ h))

-- ---- a byte that doesn't stand there

or_none : (a b : Bool) → (a || b) ≡ false → (a ≡ false) × (b ≡ false)
or_none true b e = absurd cc
or_none false b e = (refl, e)

pub has_join : (c : ℕ) (a b : List ℕ) → has c a ≡ false → has c b ≡ false → has c (a ++ b) ≡ false
has_join c [] b h k = k
has_join c (x ∷ a) b h k = let q = or_none (eqb x c) (has c a) h in rw q.0 (has_join c a b q.1 k)

pub until_none : (c : ℕ) (t : List ℕ) → has c t ≡ false → until c t ≡ None
until_none c [] h = refl
until_none c (x ∷ t) h = let q = or_none (eqb x c) (has c t) h in rw q.0 (ap (option_map (onto x)) (until_none c t q.1))

-- ---- parts between bytes

pub split_none : (c : ℕ) (t : List ℕ) → has c t ≡ false → slice_split (λ b. eqb b c) t ≡ t ∷ []
split_none c [] h = refl
split_none c (x ∷ t) h = let q = or_none (eqb x c) (has c t) h in rw q.0 (ap (onto_first x) (split_none c t q.1))

pub split_at : (c : ℕ) (t r : List ℕ) → has c t ≡ false → slice_split (λ b. eqb b c) (t ++ c ∷ r) ≡ t ∷ slice_split (λ b. eqb b c) r
split_at c [] r h = rw (eqb_self c) refl
split_at c (x ∷ t) r h = let q = or_none (eqb x c) (has c t) h in rw q.0 (ap (onto_first x) (split_at c t r q.1))

-- there is a first part
pub record IsParted (ts : List (List ℕ)) : Type 0 where
  pub first : List ℕ
  pub more : List (List ℕ)
  pub is : ts ≡ first ∷ more

onto_parted : (x : ℕ) (ts : List (List ℕ)) → IsParted ts → IsParted (onto_first x ts)
onto_parted x ts p = record { first = x ∷ p.first; more = p.more; is = ap (onto_first x) p.is }

pub parted : (c : ℕ) (t : List ℕ) → IsParted (slice_split (λ b. eqb b c) t)
parted c [] = record { first = []; more = []; is = refl }
parted c (x ∷ t) = by_test (eqb x c) (parted c t)
  where
    by_test : (b : Bool) → IsParted (slice_split (λ b. eqb b c) t) → IsParted (cond b ([] ∷ slice_split (λ b. eqb b c) t) (onto_first x (slice_split (λ b. eqb b c) t)))
    by_test true p = record { first = []; more = slice_split (λ b. eqb b c) t; is = refl }
    by_test false p = onto_parted x (slice_split (λ b. eqb b c) t) p

-- ---- regrouping

pub three : (a b c : List ℕ) → (a ++ b) ++ c ≡ a ++ (b ++ c)
three a b c = append_assoc a b c

pub four : (a b c d : List ℕ) → (a ++ (b ++ c)) ++ d ≡ a ++ (b ++ (c ++ d))
four a b c d = simp append_assoc
