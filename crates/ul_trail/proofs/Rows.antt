-- The rows of the nodes, with one more list.
use Rattle.std.proofs.Common.{◌≡◌, ℕ, zero, suc, ◌+◌, List, [], ◌∷◌, ◌++◌, Bool, true, false, cond, Some, refl, ap, ◌∙◌, sym, subst, ◌<◌, inl, inr, arith, nat_eq, eq-eqb, slice_get, get_or, length, take, slice_set}
use Rattle.std.proofs.lemmas.Bool.{ne_eqb, cases_eq}
use Rattle.std.proofs.lemmas.List.{append-nil, get_or-set_other}
use Rattle.std.proofs.lemmas.Grind.{get_or-set_at}
use Rattle.std.proofs.lemmas.Option.{none-some, same_Some, slice_get_read, get_or_from_slice_get}
use Rattle.ul_problem.specs.Terms.{node_of, IsOrdered, IsOrderedFrom}
use Rattle.ul_problem.specs.declared.term.Term.{Term}
use Rattle.ul_trail.specs.Watched.{IsWatched, has_term, places_from}
use Rattle.ul_trail.proofs.Places.{take_next, take_whole, get_last}

has_append : (n : ℕ) (xs : List Term) (t : Term) → has_term n (xs ++ t ∷ []) ≡ cond (has_term n xs) true (nat_eq (node_of t) n)
has_append n [] t = which (nat_eq (node_of t) n)
  where
    which : (b : Bool) → cond b true false ≡ b
    which true = refl
    which false = refl
has_append n (x ∷ xs) t = which (nat_eq (node_of x) n) (has_term n xs) (nat_eq (node_of t) n) (has_append n xs t)
  where
    which : (b r c : Bool) → has_term n (xs ++ t ∷ []) ≡ cond r true c → cond b true (has_term n (xs ++ t ∷ [])) ≡ cond (cond b true r) true c
    which true r c e = refl
    which false r c e = e

fresh_from : (low : ℕ) (ts : List Term) (i : ℕ) (t : Term) → IsOrderedFrom low ts → slice_get ts i ≡ Some t → (low < node_of t) × (has_term (node_of t) (take i ts) ≡ false)
fresh_from low [] i t h e = absurd (none-some t e)
fresh_from low (x ∷ xs) zero t h e = (subst (λ (y : Term). low < node_of y) (same_Some x t e) h.0, refl)
fresh_from low (x ∷ xs) (suc i) t h e =
    let r = fresh_from (node_of x) xs i t h.1 e in
    let a = r.0 in let b = h.0 in
    (omega arith, ap (λ (c : Bool). cond c true (has_term (node_of t) (take i xs))) (ne_eqb (node_of x) (node_of t) (λ q. omega arith)) ∙ r.1)

ordered_fresh : (ts : List Term) (i : ℕ) (t : Term) → IsOrdered ts → slice_get ts i ≡ Some t → has_term (node_of t) (take i ts) ≡ false
ordered_fresh [] i t h e = absurd (none-some t e)
ordered_fresh (x ∷ xs) zero t h e = refl
ordered_fresh (x ∷ xs) (suc i) t h e =
    let r = fresh_from (node_of x) xs i t h e in let a = r.0 in
    ap (λ (c : Bool). cond c true (has_term (node_of t) (take i xs))) (ne_eqb (node_of x) (node_of t) (λ q. omega arith)) ∙ r.1

pub listed_next : (start rows : List (List ℕ)) (ts : List Term) (i m place : ℕ) (t : Term) (r r' : List ℕ) → IsOrdered ts → length rows ≡ length start → i < length ts → t ≡ get_or ts i t → m ≡ node_of t → m < length rows → r ≡ get_or rows m r → r' ≡ r ++ place ∷ []
    → ((n : ℕ) → n < length start → get_or rows n [] ≡ get_or start n [] ++ cond (has_term n (take i ts)) (place ∷ []) [])
    → (n : ℕ) → n < length start → get_or (slice_set rows m r') n [] ≡ get_or start n [] ++ cond (has_term n (take (i + 1) ts)) (place ∷ []) []
listed_next start rows ts i m place t r r' o w l e q b f g h n z =
    let at : slice_get ts i ≡ Some t = slice_get_read ts (length ts) i t refl l e in
    let has : has_term n (take (i + 1) ts) ≡ cond (has_term n (take i ts)) true (nat_eq (node_of t) n) = ap (has_term n) (take_next ts t i at) ∙ has_append n (take i ts) t in
    elim (cases_eq n m) [
      | inl s ↦ (let sn : n ≡ node_of t = s ∙ q in
          let no : has_term n (take i ts) ≡ false = subst (λ (k : ℕ). has_term k (take i ts) ≡ false) (sym sn) (ordered_fresh ts i t o at) in
          let yes' : has_term n (take (i + 1) ts) ≡ true = has ∙ (ap (λ (c : Bool). cond c true (nat_eq (node_of t) n)) no ∙ eq-eqb (node_of t) n (sym sn)) in
          let old : get_or rows n [] ≡ get_or start n [] = h n z ∙ (ap (λ (c : Bool). get_or start n [] ++ cond c (place ∷ []) []) no ∙ append-nil (get_or start n [])) in
          let row : get_or rows n [] ≡ r = ap (λ (k : ℕ). get_or rows k []) s ∙ get_or_from_slice_get rows m r [] (slice_get_read rows (length rows) m r refl b f) in
          get_or-set_at rows m n r' [] s b ∙ (g ∙ (ap (λ (x : List ℕ). x ++ place ∷ []) (sym row ∙ old) ∙ sym (ap (λ (c : Bool). get_or start n [] ++ cond c (place ∷ []) []) yes'))))
      | inr d ↦ (let no : nat_eq (node_of t) n ≡ false = ne_eqb (node_of t) n (λ x. d (sym x ∙ sym q)) in
          let same : has_term n (take (i + 1) ts) ≡ has_term n (take i ts) = has ∙ (ap (λ (c : Bool). cond (has_term n (take i ts)) true c) no ∙ or_false (has_term n (take i ts))) in
          get_or-set_other rows m n r' [] d ∙ (h n z ∙ sym (ap (λ (c : Bool). get_or start n [] ++ cond c (place ∷ []) []) same)))
    ]
  where
    or_false : (c : Bool) → cond c true false ≡ c
    or_false true = refl
    or_false false = refl

pub listed_all : (start rows : List (List ℕ)) (ts : List Term) (i place : ℕ) → length ts ≡ i
    → ((n : ℕ) → n < length start → get_or rows n [] ≡ get_or start n [] ++ cond (has_term n (take i ts)) (place ∷ []) [])
    → (n : ℕ) → n < length start → get_or rows n [] ≡ get_or start n [] ++ cond (has_term n ts) (place ∷ []) []
listed_all start rows ts i place e h n z = h n z ∙ ap (λ (l : List Term). get_or start n [] ++ cond (has_term n l) (place ∷ []) []) (subst (λ (k : ℕ). take k ts ≡ ts) e (take_whole ts))

places_append : (n j k : ℕ) (terms : List (List Term)) (ts : List Term) → k ≡ j + length terms → places_from n j (terms ++ ts ∷ []) ≡ places_from n j terms ++ cond (has_term n ts) (k ∷ []) []
places_append n j k [] ts e = ap (λ (m : ℕ). cond (has_term n ts) (m ∷ []) []) (omega arith)
places_append n j k (x ∷ xs) ts e = which (has_term n x) (places_append n (suc j) k xs ts (omega arith))
  where
    which : (b : Bool) → places_from n (suc j) (xs ++ ts ∷ []) ≡ places_from n (suc j) xs ++ cond (has_term n ts) (k ∷ []) []
        → cond b (j ∷ places_from n (suc j) (xs ++ ts ∷ [])) (places_from n (suc j) (xs ++ ts ∷ [])) ≡ cond b (j ∷ places_from n (suc j) xs) (places_from n (suc j) xs) ++ cond (has_term n ts) (k ∷ []) []
    which true h = ap (λ (l : List ℕ). j ∷ l) h
    which false h = h

pub watched_push : (terms : List (List Term)) (rows rows' : List (List ℕ)) (ts read : List Term) (place : ℕ) → IsWatched terms rows → length rows' ≡ length rows → place ≡ length terms → read ≡ ts
    → ((n : ℕ) → n < length rows → get_or rows' n [] ≡ get_or rows n [] ++ cond (has_term n read) (place ∷ []) []) → IsWatched (terms ++ ts ∷ []) rows'
watched_push terms rows rows' ts read place w l e r h = record {
  row = λ n z.
      let z' : n < length rows = subst (λ (k : ℕ). n < k) l z in
      h n z' ∙ (ap (λ (x : List Term). get_or rows n [] ++ cond (has_term n x) (place ∷ []) []) r ∙ (ap (λ (x : List ℕ). x ++ cond (has_term n ts) (place ∷ []) []) (w.row n z') ∙ sym (places_append n 0 place terms ts (omega arith))));
}

-- the list that was pushed last, as it is read again
pub last_held : (held now : List (List Term)) (x r ts : List Term) (place : ℕ) → now ≡ held ++ x ∷ [] → place ≡ length held → r ≡ get_or now place r → ts ≡ r → ts ≡ x
last_held held now x r ts place e l h q =
    q ∙ (h ∙ (ap (λ (k : ℕ). get_or now k r) l ∙ (ap (λ (xs : List (List Term)). get_or xs (length held) r) e ∙ get_or_from_slice_get (held ++ x ∷ []) (length held) x r (get_last held x))))
