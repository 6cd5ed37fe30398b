-- A part found by halves: what one branch says of the part that a value takes.
use Rattle.std.proofs.Common.{◌≡◌, ℕ, suc, zero, ◌≤◌, List, [], ◌∷◌, Bool, true, false, refl, ap, sym, ◌∙◌, subst, arith, Less, Equal, Greater, Ordering, Some}
use Rattle.std.specs.Ordering.{is_eq}
use Rattle.ul_nodes.specs.Plain.{Plain, truth, node, Branches, done, branch, text_cmp, carries, carried_part, by_order, pick}
use Rattle.ul_nodes.specs.Reduced.{Fits, FitsAll, IsReduced, StartsAfter}
use Rattle.ul_nodes.specs.Apply.{rest_at, branches_at, part_at}
use Rattle.ul_nodes.specs.Keys.{rest_of, branches_of, branch_count, branches_from, is_level}
use Rattle.ul_nodes.proofs.Order.{cmp_equal, cmp_over, cmp_trans}
use Rattle.ul_nodes.proofs.Branchwise.{at_key, before_key, past_key}
use Rattle.ul_nodes.proofs.PartsByKeys.{fits_weaker}

-- ---- branches by their place

pub from_count : (bs : Branches) → branches_from (branch_count bs) bs ≡ done
from_count done = refl
from_count (branch k c rest) = from_count rest

pub from_end : (bs : Branches) (i : ℕ) → branch_count bs ≤ i → branches_from i bs ≡ done
from_end done zero h = refl
from_end done (suc i) h = refl
from_end (branch k c rest) zero h = absurd (omega arith)
from_end (branch k c rest) (suc i) h = from_end rest i (omega arith)

first_is : (j k : List ℕ) (e c : Plain) (rest r : Branches) → branch j e rest ≡ branch k c r → (j ≡ k) × (e ≡ c) × (rest ≡ r)
first_is j k e c rest r q = (cc, cc, cc)

pub part_fits : (bs : Branches) (l k : List ℕ) (c d : Plain) (r : Branches) (i : ℕ) → FitsAll bs l d → branches_from i bs ≡ branch k c r → Fits c l
part_fits done l k c d r zero h q = cc
part_fits done l k c d r (suc i) h q = cc
part_fits (branch j e rest) l k c d r zero h q = subst (λ (z : Plain). Fits z l) (first_is j k e c rest r q).1 h.2
part_fits (branch j e rest) l k c d r (suc i) h q = part_fits rest l k c (carried_part (carries l) e d) r i h.4 q

-- a level is no empty list
below_all : (e l : List ℕ) → text_cmp e l ≡ Less → text_cmp [] l ≡ Less
below_all e [] h = go e h
  where
    go : (e : List ℕ) → text_cmp e [] ≡ Less → text_cmp [] [] ≡ Less
    go [] h = h
    go (x ∷ e) h = cc
below_all e (x ∷ l) h = refl

pub rest_reduced : (t : Plain) → IsReduced t → IsReduced (rest_of t)
rest_reduced (truth b) h = tt
rest_reduced (node l d bs) h = fits_weaker d l [] (below_all [] l h.0) h.2

pub part_reduced : (t : Plain) (k : List ℕ) (c : Plain) (r : Branches) (i : ℕ) → IsReduced t → branches_from i (branches_of t) ≡ branch k c r → IsReduced c
part_reduced (truth b) k c r zero h q = cc
part_reduced (truth b) k c r (suc i) h q = cc
part_reduced (node l d bs) k c r i h q = fits_weaker c l [] h.0 (part_fits bs l k c d r i h.3 q)

-- ---- a value and the key of a branch

-- the keys from a place on come after what all keys come after
later : (bs : Branches) (l b k : List ℕ) (c d : Plain) (r : Branches) (i : ℕ) → FitsAll bs l d → StartsAfter (Some b) bs → branches_from i bs ≡ branch k c r → text_cmp b k ≡ Less
later done l b k c d r zero h s q = cc
later done l b k c d r (suc i) h s q = cc
later (branch j e rest) l b k c d r zero h s q = subst (λ (z : List ℕ). text_cmp b z ≡ Less) (first_is j k e c rest r q).0 s
later (branch j e rest) l b k c d r (suc i) h s q = cmp_trans b j k s (later rest l j k c (carried_part (carries l) e d) r i h.4 h.1 q)

carried_twice : (m : Bool) (c e d : Plain) → carried_part m c (carried_part m e d) ≡ carried_part m c d
carried_twice true c e d = refl
carried_twice false c e d = refl

-- above the key, the branches after it decide
pub pick_past : (bs : Branches) (l v k : List ℕ) (m : Bool) (c d f : Plain) (r : Branches) (i : ℕ) → FitsAll bs l f → branches_from i bs ≡ branch k c r → text_cmp v k ≡ Greater
    → pick bs m v d ≡ pick r m v (carried_part m c d)
pick_past done l v k m c d f r zero h q o = cc
pick_past done l v k m c d f r (suc i) h q o = cc
pick_past (branch j e rest) l v k m c d f r zero h q o =
    let w = first_is j k e c rest r q in
    past_key v j e d rest m (subst (λ (z : List ℕ). text_cmp z v ≡ Less) (sym w.0) (cmp_over v k o)) ∙ ap (λ z. pick rest m v (carried_part m z d)) w.1 ∙ ap (λ z. pick z m v (carried_part m c d)) w.2
pick_past (branch j e rest) l v k m c d f r (suc i) h q o =
    past_key v j e d rest m (cmp_trans j k v (later rest l j k c (carried_part (carries l) e f) r i h.4 h.1 q) (cmp_over v k o))
    ∙ pick_past rest l v k m c (carried_part m e d) (carried_part (carries l) e f) r i h.4 q o ∙ ap (pick r m v) (carried_twice m c e d)

-- at the key, its part is taken
pub pick_at : (bs : Branches) (l v k : List ℕ) (m : Bool) (c d f : Plain) (r : Branches) (i : ℕ) → FitsAll bs l f → branches_from i bs ≡ branch k c r → text_cmp v k ≡ Equal → pick bs m v d ≡ c
pick_at done l v k m c d f r zero h q o = cc
pick_at done l v k m c d f r (suc i) h q o = cc
pick_at (branch j e rest) l v k m c d f r zero h q o =
    let w = first_is j k e c rest r q in
    ap (λ z. pick (branch j e rest) m z d) (cmp_equal v k o ∙ sym w.0) ∙ at_key j e d rest m ∙ w.1
pick_at (branch j e rest) l v k m c d f r (suc i) h q o =
    past_key v j e d rest m (subst (λ (z : List ℕ). text_cmp j z ≡ Less) (sym (cmp_equal v k o)) (later rest l j k c (carried_part (carries l) e f) r i h.4 h.1 q))
    ∙ pick_at rest l v k m c (carried_part m e d) (carried_part (carries l) e f) r i h.4 q o

pub pick_before : (bs : Branches) (v : List ℕ) (m : Bool) (d : Plain) → StartsAfter (Some v) bs → pick bs m v d ≡ d
pick_before done v m d s = refl
pick_before (branch k c rest) v m d s = before_key v k c d rest m s

-- ---- the same of a whole tree

pub tree_past : (t : Plain) (v k : List ℕ) (m : Bool) (c d : Plain) (r : Branches) (i : ℕ) → IsReduced t → branches_from i (branches_of t) ≡ branch k c r → text_cmp v k ≡ Greater
    → pick (branches_of t) m v d ≡ pick r m v (carried_part m c d)
tree_past (truth b) v k m c d r i h q o = pick_past done [] v k m c d d r i tt q o
tree_past (node l e bs) v k m c d r i h q o = pick_past bs l v k m c d e r i h.3 q o

pub tree_at : (t : Plain) (v k : List ℕ) (m : Bool) (c d : Plain) (r : Branches) (i : ℕ) → IsReduced t → branches_from i (branches_of t) ≡ branch k c r → text_cmp v k ≡ Equal → pick (branches_of t) m v d ≡ c
tree_at (truth b) v k m c d r i h q o = pick_at done [] v k m c d d r i tt q o
tree_at (node l e bs) v k m c d r i h q o = pick_at bs l v k m c d e r i h.3 q o

-- ---- a tree at a level that is its top level, or isn't

pub rest_here : (l : List ℕ) (t : Plain) → is_level l t ≡ true → rest_at l t ≡ rest_of t
rest_here l (truth b) h = refl
rest_here l (node k d bs) h = go (text_cmp l k) h
  where
    go : (o : Ordering) → is_eq o ≡ true → by_order o (node k d bs) d (node k d bs) ≡ d
    go Less h = cc
    go Equal h = refl
    go Greater h = cc

pub rest_elsewhere : (l : List ℕ) (t : Plain) → is_level l t ≡ false → rest_at l t ≡ t
rest_elsewhere l (truth b) h = refl
rest_elsewhere l (node k d bs) h = go (text_cmp l k) h
  where
    go : (o : Ordering) → is_eq o ≡ false → by_order o (node k d bs) d (node k d bs) ≡ node k d bs
    go Less h = refl
    go Equal h = cc
    go Greater h = refl

pub branches_here : (l : List ℕ) (t : Plain) → is_level l t ≡ true → branches_at l t ≡ branches_of t
branches_here l (truth b) h = refl
branches_here l (node k d bs) h = go (text_cmp l k) h
  where
    go : (o : Ordering) → is_eq o ≡ true → by_order o done bs done ≡ bs
    go Less h = cc
    go Equal h = refl
    go Greater h = cc

pub branches_elsewhere : (l : List ℕ) (t : Plain) → is_level l t ≡ false → branches_at l t ≡ done
branches_elsewhere l (truth b) h = refl
branches_elsewhere l (node k d bs) h = go (text_cmp l k) h
  where
    go : (o : Ordering) → is_eq o ≡ false → by_order o done bs done ≡ done
    go Less h = refl
    go Equal h = cc
    go Greater h = refl

pub part_here : (l v : List ℕ) (t : Plain) → is_level l t ≡ true → part_at l v t ≡ pick (branches_of t) (carries l) v (rest_of t)
part_here l v t h = ap (λ bs. pick bs (carries l) v (rest_at l t)) (branches_here l t h) ∙ ap (pick (branches_of t) (carries l) v) (rest_here l t h)

pub part_elsewhere : (l v : List ℕ) (t : Plain) → is_level l t ≡ false → part_at l v t ≡ t
part_elsewhere l v t h = ap (λ bs. pick bs (carries l) v (rest_at l t)) (branches_elsewhere l t h) ∙ rest_elsewhere l t h
