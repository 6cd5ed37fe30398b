-- What the facts of each level leave open.
use Rattle.std.proofs.Common.{◌≡◌, ℕ, zero, suc, ◌+◌, List, [], ◌∷◌, ◌++◌, Bool, true, false, cond, Option, Some, None, refl, ap, sym, subst, ◌<◌, ◌≤◌, inl, inr, arith, nat_eq, nat_le, length, max, eq-eqb, get_or}
use Rattle.std.proofs.lemmas.Bool.{le-leb, lt-leb, true≢false, cases_order, cases_lt}
use Rattle.ul_problem.specs.Terms.{node_of, allows}
use Rattle.ul_problem.proofs.ForCallers.{and_left', and_right'}
use Rattle.ul_trail.specs.declared.fact.Fact.{Fact}
use Rattle.ul_trail.specs.Facts.{is_open, up_to, level_of, AreAt}
use Rattle.ul_trail.specs.Counts.{one_if, versions_open, open_below, open_in}
use Rattle.ul_trail.specs.Propagation.{IsOption}
use Rattle.ul_trail.specs.Standing.{IsFresh}

-- more facts leave less open
abbrev pub IsWithin : List Fact → List Fact → Type 0
IsWithin more fewer = (n : ℕ) (o : Option ℕ) → is_open more n o ≡ true → is_open fewer n o ≡ true

step_within : (f : Fact) (o : Option ℕ) (r s b : Bool) → (r ≡ true → s ≡ true) → cond b (cond (allows f.term o) r false) r ≡ true → cond b (cond (allows f.term o) s false) s ≡ true
step_within f o r s true k h = let a = and_left' (allows f.term o) r h in rw a (k (and_right' (allows f.term o) r h))
step_within f o r s false k h = k h

pub append_within : (xs ys : List Fact) → IsWithin (xs ++ ys) xs
append_within [] ys n o h = refl
append_within (f ∷ xs) ys n o h = step_within f o (is_open (xs ++ ys) n o) (is_open xs n o) (nat_eq (node_of f.term) n) (append_within xs ys n o) h

one_le : (a b : Bool) → (a ≡ true → b ≡ true) → one_if a ≤ one_if b
one_le true b h = let e : b ≡ true = h refl in rw e (omega arith)
one_le false b h = omega arith

one_lt : (a b : Bool) → a ≡ false → b ≡ true → one_if a < one_if b
one_lt a b e f = rw (e, f) (omega arith)

versions_le : (xs ys : List Fact) (n k : ℕ) → IsWithin xs ys → versions_open xs n k ≤ versions_open ys n k
versions_le xs ys n zero h = omega arith
versions_le xs ys n (suc k) h = let a = one_le (is_open xs n (Some k)) (is_open ys n (Some k)) (h n (Some k)) in let b = versions_le xs ys n k h in omega arith

versions_lt : (xs ys : List Fact) (n v k : ℕ) → IsWithin xs ys → v < k → is_open xs n (Some v) ≡ false → is_open ys n (Some v) ≡ true → versions_open xs n k < versions_open ys n k
versions_lt xs ys n v zero h i e f = absurd (omega arith)
versions_lt xs ys n v (suc k) h i e f = elim (cases_order v k) [
  | inl same ↦ (let ek : is_open xs n (Some k) ≡ false = subst (λ (j : ℕ). is_open xs n (Some j) ≡ false) same e in
      let fk : is_open ys n (Some k) ≡ true = subst (λ (j : ℕ). is_open ys n (Some j) ≡ true) same f in
      let a = one_lt (is_open xs n (Some k)) (is_open ys n (Some k)) ek fk in
      let b = versions_le xs ys n k h in omega arith)
  | inr (inl low) ↦ (let a = one_le (is_open xs n (Some k)) (is_open ys n (Some k)) (h n (Some k)) in
      let b = versions_lt xs ys n v k h low e f in omega arith)
  | inr (inr high) ↦ absurd (omega arith)
]

abbrev node_open : List ℕ → List Fact → ℕ → ℕ
node_open p facts n = one_if (is_open facts n None) + versions_open facts n (get_or p n 0)

node_le : (p : List ℕ) (xs ys : List Fact) (n : ℕ) → IsWithin xs ys → node_open p xs n ≤ node_open p ys n
node_le p xs ys n h = let a = one_le (is_open xs n None) (is_open ys n None) (h n None) in let b = versions_le xs ys n (get_or p n 0) h in omega arith

node_lt : (p : List ℕ) (xs ys : List Fact) (n : ℕ) (o : Option ℕ) → IsWithin xs ys → IsOption (get_or p n 0) o → is_open xs n o ≡ false → is_open ys n o ≡ true → node_open p xs n < node_open p ys n
node_lt p xs ys n None h i e f = let a = one_lt (is_open xs n None) (is_open ys n None) e f in let b = versions_le xs ys n (get_or p n 0) h in omega arith
node_lt p xs ys n (Some v) h i e f = let a = one_le (is_open xs n None) (is_open ys n None) (h n None) in let b = versions_lt xs ys n v (get_or p n 0) h i e f in omega arith

pub open_le : (p : List ℕ) (xs ys : List Fact) (k : ℕ) → IsWithin xs ys → open_below p xs k ≤ open_below p ys k
open_le p xs ys zero h = omega arith
open_le p xs ys (suc k) h = let a : node_open p xs k ≤ node_open p ys k = node_le p xs ys k h in let b = open_le p xs ys k h in omega arith

open_lt : (p : List ℕ) (xs ys : List Fact) (n k : ℕ) (o : Option ℕ) → IsWithin xs ys → n < k → IsOption (get_or p n 0) o → is_open xs n o ≡ false → is_open ys n o ≡ true → open_below p xs k < open_below p ys k
open_lt p xs ys n zero o h i r e f = absurd (omega arith)
open_lt p xs ys n (suc k) o h i r e f = elim (cases_order n k) [
  | inl same ↦ (let a : node_open p xs n < node_open p ys n = node_lt p xs ys n o h r e f in
      let c : node_open p xs k < node_open p ys k = subst (λ (j : ℕ). node_open p xs j < node_open p ys j) same a in
      let b = open_le p xs ys k h in omega arith)
  | inr (inl low) ↦ (let a : node_open p xs k ≤ node_open p ys k = node_le p xs ys k h in
      let b = open_lt p xs ys n k o h low r e f in omega arith)
  | inr (inr high) ↦ absurd (omega arith)
]

-- a new fact closes an option
closed_here : (f : Fact) (r : Bool) (o : Option ℕ) (b : Bool) → b ≡ true → allows f.term o ≡ false → cond b (cond (allows f.term o) r false) r ≡ false
closed_here f r o true e h = rw h refl
closed_here f r o false e h = absurd (true≢false (sym e))

closed_past : (g : Fact) (r : Bool) (o : Option ℕ) (b : Bool) → r ≡ false → cond b (cond (allows g.term o) r false) r ≡ false
closed_past g r o true h = rw h (same (allows g.term o))
  where
    same : (c : Bool) → cond c false false ≡ false
    same true = refl
    same false = refl
closed_past g r o false h = h

closed_by : (xs : List Fact) (f : Fact) (ys : List Fact) (o : Option ℕ) → allows f.term o ≡ false → is_open (xs ++ f ∷ ys) (node_of f.term) o ≡ false
closed_by [] f ys o h = closed_here f (is_open ys (node_of f.term) o) o (nat_eq (node_of f.term) (node_of f.term)) (eq-eqb (node_of f.term) (node_of f.term) refl) h
closed_by (g ∷ xs) f ys o h = closed_past g (is_open (xs ++ f ∷ ys) (node_of f.term) o) o (nat_eq (node_of g.term) (node_of f.term)) (closed_by xs f ys o h)

pub new_lowers : (p : List ℕ) (xs : List Fact) (f : Fact) (ys : List Fact) → IsFresh p xs f.term → open_in p (xs ++ f ∷ ys) < open_in p xs
new_lowers p xs f ys (below, (o, r, was, shut)) = open_lt p (xs ++ f ∷ ys) xs (node_of f.term) (length p) o (append_within xs (f ∷ ys)) below r (closed_by xs f ys o shut) was

-- the facts up to a level
pub up_here : (f : Fact) (r s : List Fact) (b : Bool) → r ≡ s → cond b (f ∷ r) r ≡ cond b (f ∷ s) s
up_here f r s true e = ap (λ (l : List Fact). f ∷ l) e
up_here f r s false e = e

pub up_to-append : (l : ℕ) (xs ys : List Fact) → up_to l (xs ++ ys) ≡ up_to l xs ++ up_to l ys
up_to-append l [] ys = refl
up_to-append l (f ∷ xs) ys = split (nat_le f.level l) (up_to-append l xs ys)
  where
    split : (b : Bool) → up_to l (xs ++ ys) ≡ up_to l xs ++ up_to l ys → cond b (f ∷ up_to l (xs ++ ys)) (up_to l (xs ++ ys)) ≡ cond b (f ∷ up_to l xs) (up_to l xs) ++ up_to l ys
    split true e = ap (λ (z : List Fact). f ∷ z) e
    split false e = e

pub up_to-later : (l m : ℕ) (ys : List Fact) → AreAt m ys → l < m → up_to l ys ≡ []
up_to-later l m [] h i = refl
up_to-later l m (f ∷ ys) h i = let e : nat_le f.level l ≡ false = lt-leb f.level l (omega (arith, h.0)) in rw e (up_to-later l m ys h.1 i)

pub up_to-now : (l m : ℕ) (ys : List Fact) → AreAt m ys → m ≤ l → up_to l ys ≡ ys
up_to-now l m [] h i = refl
up_to-now l m (f ∷ ys) h i = let e : nat_le f.level l ≡ true = le_leb' f.level l (omega (arith, h.0)) in rw e (ap (λ (z : List Fact). f ∷ z) (up_to-now l m ys h.1 i))
  where
    le_leb' : (a b : ℕ) → a ≤ b → nat_le a b ≡ true
    le_leb' a b h = le-leb a b h

pub up_to-all : (l : ℕ) (xs : List Fact) → level_of xs ≤ l → up_to l xs ≡ xs
up_to-all l [] h = refl
up_to-all l (f ∷ xs) h = let e : nat_le f.level l ≡ true = le-leb f.level l (omega arith) in rw e (ap (λ (z : List Fact). f ∷ z) (up_to-all l xs (omega arith)))

pub up_to-up_to : (l m : ℕ) (xs : List Fact) → l ≤ m → up_to l (up_to m xs) ≡ up_to l xs
up_to-up_to l m [] h = refl
up_to-up_to l m (f ∷ xs) h = elim (cases_lt m f.level) [
  | inl high ↦ (let e : nat_le f.level m ≡ false = lt-leb f.level m high in let g : nat_le f.level l ≡ false = lt-leb f.level l (omega arith) in rw (e, g) (up_to-up_to l m xs h))
  | inr low ↦ (let e : nat_le f.level m ≡ true = le-leb f.level m low in rw e (up_here f (up_to l (up_to m xs)) (up_to l xs) (nat_le f.level l) (up_to-up_to l m xs h)))
]

pub level_of-append : (xs ys : List Fact) → level_of (xs ++ ys) ≡ max (level_of xs) (level_of ys)
level_of-append [] ys = omega arith
level_of-append (f ∷ xs) ys = let e = level_of-append xs ys in omega (arith, e)

pub level_of-at : (m : ℕ) (ys : List Fact) → AreAt m ys → level_of ys ≤ m
level_of-at m [] h = omega arith
level_of-at m (f ∷ ys) h = let i = level_of-at m ys h.1 in omega (arith, h.0, i)
