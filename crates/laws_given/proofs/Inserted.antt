-- Sorted sets: what is true of each element, and that they increase.
use Rattle.std.proofs.Common.{◌≡◌, ℕ, List, [], ◌∷◌, fold, refl, ap, ◌∙◌}
use Rattle.std.specs.BTreeSet.{insert_key}
use Rattle.std.specs.Cmp.Lexicographic.{slice_cmp}
use Rattle.std.specs.List.{AllByRecursion}
use Rattle.std.specs.List.Sorted.{IsStrictlySortedBy}
use Rattle.std.specs.Ordering.{match_ordering, nat_cmp, on, ordering_reverse}
use Rattle.std.specs.declared.cmp.Ordering.{Ordering}
use Rattle.std.specs.declared.cmp.Ordering.TheVariants.{Less, Equal, Greater}
use Rattle.std.proofs.lemmas.Cmp.{nat_list_cmp_total}

all_inserted : {A : Type 0} (cmp : A → A → Ordering) (P : A → Type 0) (xs : List A) (x : A) → AllByRecursion P xs → P x
    → AllByRecursion P (insert_key cmp xs x)
all_inserted cmp P [] x h k = (k, tt)
all_inserted cmp P (y ∷ ys) x h k = go (cmp x y) (all_inserted cmp P ys x h.1 k)
  where
    go : (o : Ordering) → AllByRecursion P (insert_key cmp ys x)
        → AllByRecursion P (match_ordering o (x ∷ y ∷ ys) (y ∷ ys) (y ∷ insert_key cmp ys x))
    go Less rest = (k, h)
    go Equal rest = h
    go Greater rest = (h.0, rest)

-- each element of a set that is made of such elements is such
pub all_folded : {A : Type 0} (cmp : A → A → Ordering) (P : A → Type 0) (done xs : List A) → AllByRecursion P done
    → AllByRecursion P xs
    → AllByRecursion P (fold (insert_key cmp) done xs)
all_folded cmp P done [] h k = h
all_folded cmp P done (x ∷ xs) h k = all_folded cmp P (insert_key cmp done x) xs (all_inserted cmp P done x h k.0) k.1

-- by the bytes of a key
abbrev by_key : {A : Type 0} → (A → List ℕ) → A → A → Ordering
by_key key = on key (slice_cmp nat_cmp)

all_above : {A : Type 0} (key : A → List ℕ) (a b : A) → by_key key a b ≡ Less → (xs : List A)
    → AllByRecursion (λ y. by_key key b y ≡ Less) xs
    → AllByRecursion (λ y. by_key key a y ≡ Less) xs
all_above key a b less [] h = tt
all_above key a b less (y ∷ ys) h =
    (nat_list_cmp_total.trans (key a) (key b) (key y) less h.0, all_above key a b less ys h.1)

rising_inserted : {A : Type 0} (key : A → List ℕ) (xs : List A) (x : A) → IsStrictlySortedBy (by_key key) xs
    → IsStrictlySortedBy (by_key key) (insert_key (by_key key) xs x)
unfolding IsStrictlySortedBy
rising_inserted key [] x h = (tt, tt)
rising_inserted key (y ∷ ys) x h = go (by_key key x y) refl (rising_inserted key ys x h.1)
  where
    go : (o : Ordering) → by_key key x y ≡ o → IsStrictlySortedBy (by_key key) (insert_key (by_key key) ys x)
        → IsStrictlySortedBy (by_key key) (match_ordering o (x ∷ y ∷ ys) (y ∷ ys) (y ∷ insert_key (by_key key) ys x))
    go Less is rest = ((is, all_above key x y is ys h.0), h)
    go Equal is rest = h
    go Greater is rest =
        let above = nat_list_cmp_total.antisymm (key y) (key x) ∙ ap ordering_reverse is in
        (all_inserted (by_key key) (λ z. by_key key y z ≡ Less) ys x h.0 above, rest)

rising_folded : {A : Type 0} (key : A → List ℕ) (done xs : List A) → IsStrictlySortedBy (by_key key) done
    → IsStrictlySortedBy (by_key key) (fold (insert_key (by_key key)) done xs)
rising_folded key done [] h = h
rising_folded key done (x ∷ xs) h = rising_folded key (insert_key (by_key key) done x) xs (rising_inserted key done x h)

-- a set increases
pub set_rises : {A : Type 0} (key : A → List ℕ) (xs : List A)
    → IsStrictlySortedBy (by_key key) (fold (insert_key (by_key key)) [] xs)
unfolding IsStrictlySortedBy
set_rises key xs = rising_folded key [] xs tt
