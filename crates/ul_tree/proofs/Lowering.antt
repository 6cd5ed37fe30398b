-- A region whose levels are taken away from the top.
use Rattle.std.proofs.Common.{◌≡◌, ◌≢◌, ℕ, suc, zero, ◌-◌, ◌+◌, ◌≤◌, List, [], true, false, refl, ap, sym, ◌∙◌, subst, arith, add-one, Less, Equal, Greater, Ordering, Bool}
use Rattle.std.specs.Ordering.{is_lt}
use Rattle.ul_nodes.specs.Plain.{Plain, truth, node, Branches, done, branch, text_cmp, carries, carried_part, holds_of}
use Rattle.ul_nodes.specs.Reduced.{IsReduced, Fits, FitsAll}
use Rattle.ul_tree.specs.Laws.{or_of}
use Rattle.ul_nodes.specs.Apply.{size, either}
use Rattle.ul_tree.specs.Joins.{IsJoined}
use Rattle.ul_tree.specs.declared.join.Join.TheVariants.{Either}
use Rattle.ul_nodes.specs.Keys.{rest_of, branches_of, branch_count, branches_from}
use Rattle.ul_tree.specs.Simplify.{Simplifies, at_truth, anywhere, above, union_in}
use Rattle.ul_tree.specs.SimplifyViews.{is_above, Lowers, some_part_holds, HoldsParts}
use Rattle.ul_tree.specs.Values.{value_of}
use Rattle.ul_nodes.proofs.ForCallers.{cmp_equal, cmp_over, cmp_trans}
use Rattle.ul_tree.proofs.Applied.{applied}
use Rattle.ul_tree.proofs.Extras.{one_truth_one_tree}
use Rattle.ul_tree.proofs.Unions.{union_fits, or_fits}
use Rattle.ul_tree.proofs.Exists.{fits_reduced, union_not_false}

-- one branch more
pub union_step : (bs : Branches) (i : ℕ) (k : List ℕ) (c made next : Plain) → branches_from i bs ≡ branch k c (branches_from (suc i) bs) → next ≡ or_of made c
    → union_in (branches_from (i + 1) bs) next ≡ union_in (branches_from i bs) made
union_step bs i k c made next e q =
    ap (λ n. union_in (branches_from n bs) next) (add-one i) ∙ ap (union_in (branches_from (suc i) bs)) q ∙ ap (λ z. union_in z made) (sym e)

pub lowers_itself : (l : List ℕ) (c : Plain) → IsReduced c → c ≢ truth false → Lowers l c c
lowers_itself l c h n = record { reduced = h; not_false = n; serves = λ f t a s. s }

less_is : (o : Ordering) → is_lt o ≡ true → o ≡ Less
less_is Less e = refl
less_is Equal e = cc
less_is Greater e = cc

-- a level before l is before each that isn't before l
pub level_between : (k l j : List ℕ) → text_cmp k l ≡ Less → is_lt (text_cmp j l) ≡ false → text_cmp k j ≡ Less
level_between k l j a b = go (text_cmp j l) refl b
  where
    go : (o : Ordering) → text_cmp j l ≡ o → is_lt o ≡ false → text_cmp k j ≡ Less
    go Less e b = cc
    go Equal e b = subst (λ (i : List ℕ). text_cmp k i ≡ Less) (sym (cmp_equal j l e)) a
    go Greater e b = cmp_trans k l j a (cmp_over j l e)

truth_stays : {b : Bool} {c t : Plain} → Simplifies (truth b) c t → t ≡ truth b
truth_stays at_truth = refl
truth_stays anywhere = refl

-- a level of the region above l is taken away for each tree that has no level above l
above_each : (l k : List ℕ) (f d t : Plain) (cs : Branches) → text_cmp k l ≡ Less → is_above l f ≡ false → Simplifies f (union_in cs d) t → Simplifies f (node k d cs) t
above_each l k (truth b) d t cs w a s = subst (λ (z : Plain). Simplifies (truth b) (node k d cs) z) (sym (truth_stays s)) at_truth
above_each l k (node j e bs) d t cs w a s = above (level_between k l j w a) s

-- one level more
pub lowers_union : (l : List ℕ) (c r u : Plain) → Lowers l c r → is_above l r ≡ true → u ≡ union_in (branches_of r) (rest_of r) → Lowers l c u
lowers_union l c (truth b) u h a e = cc
lowers_union l c (node k d cs) u h a e =
    subst (λ (z : Plain). Lowers l c z) (sym e)
    (record {
      reduced = fits_reduced (union_in cs d) k (union_fits cs k d d h.reduced.3 h.reduced.2);
      not_false = union_not_false k d cs [] h.reduced;
      serves = λ f t b s. h.serves f t b (above_each l k f d t cs (less_is (text_cmp k l) a) b s);
    })

pub joined_or : (a b t : Plain) → IsJoined Either a b t → t ≡ or_of a b
joined_or a b t h = h (suc (size a + size b)) (omega arith)

-- ---- the union of a node's parts, by halves

or_holds : (e : List ℕ) (a b : Plain) (f : List ℕ → List ℕ) → Fits a e → Fits b e → holds_of (or_of a b) f ≡ either (holds_of a f) (holds_of b f)
or_holds e a b f x y = (applied either (suc (size a + size b)) a b e (omega arith) x y).1 f

either_none : (x : Bool) → x ≡ either x false
either_none true = refl
either_none false = refl

either_both : (x y z : Bool) → either (either x y) z ≡ either x (either y z)
either_both true y z = refl
either_both false y z = refl

-- a union holds where the first tree or some part does
pub union_truth : (bs : Branches) (e : List ℕ) (d t : Plain) (f : List ℕ → List ℕ) → FitsAll bs e d → Fits t e
    → holds_of (union_in bs t) f ≡ either (holds_of t f) (some_part_holds (branch_count bs) bs f)
union_truth done e d t f h x = either_none (holds_of t f)
union_truth (branch k c rest) e d t f h x =
    union_truth rest e (carried_part (carries e) c d) (or_of t c) f h.4 (or_fits e t c x h.2)
    ∙ ap (λ z. either z (some_part_holds (branch_count rest) rest f)) (or_holds e t c f x h.2)
    ∙ either_both (holds_of t f) (holds_of c f) (some_part_holds (branch_count rest) rest f)

-- one part
pub one_part : (bs : Branches) (k : List ℕ) (c : Plain) (rest : Branches) (f : List ℕ → List ℕ) → bs ≡ branch k c rest → some_part_holds 1 bs f ≡ holds_of c f
one_part bs k c rest f e = ap (λ z. some_part_holds 1 z f) e ∙ sym (either_none (holds_of c f))

none_done : (n : ℕ) (f : List ℕ → List ℕ) → some_part_holds n done f ≡ false
none_done zero f = refl
none_done (suc n) f = refl

from_done : (n : ℕ) → branches_from n done ≡ done
from_done zero = refl
from_done (suc n) = refl

-- the parts of two halves
pub part_halves : (m n : ℕ) (bs : Branches) (f : List ℕ → List ℕ) → either (some_part_holds m bs f) (some_part_holds n (branches_from m bs) f) ≡ some_part_holds (m + n) bs f
part_halves zero n bs f = let e : n ≡ 0 + n = omega arith in ap (λ k. some_part_holds k bs f) e
part_halves (suc m) n done f = none_done n f ∙ sym (none_done (suc m + n) f)
part_halves (suc m) n (branch k c rest) f =
    let e : suc (m + n) ≡ suc m + n = omega arith in
    either_both (holds_of c f) (some_part_holds m rest f) (some_part_holds n (branches_from m rest) f) ∙ ap (either (holds_of c f)) (part_halves m n rest f)
    ∙ ap (λ i. some_part_holds i (branch k c rest) f) e

from_from : (i j : ℕ) (bs : Branches) → branches_from j (branches_from i bs) ≡ branches_from (i + j) bs
from_from zero j bs = let e : j ≡ 0 + j = omega arith in ap (λ k. branches_from k bs) e
from_from (suc i) j done = from_done j ∙ sym (from_done (suc i + j))
from_from (suc i) j (branch k c rest) = let e : suc (i + j) ≡ suc i + j = omega arith in from_from i j rest ∙ ap (λ n. branches_from n (branch k c rest)) e

pub halves_joined : (bs : Branches) (low middle high : ℕ) (a b t : Plain) → low ≤ middle → middle ≤ high → IsReduced a → IsReduced b → IsJoined Either a b t
    → HoldsParts bs low (middle - low) a → HoldsParts bs middle (high - middle) b → HoldsParts bs low (high - low) t
halves_joined bs low middle high a b t g h x y j p q f =
    let m = middle - low in
    let n = high - middle in
    let here : middle ≡ low + m = omega arith in
    let whole : m + n ≡ high - low = omega arith in
    ap (λ z. holds_of z f) (joined_or a b t j)
    ∙ or_holds [] a b f x y
    ∙ ap (λ z. either z (holds_of b f)) (p f)
    ∙ ap (either (some_part_holds m (branches_from low bs) f)) (q f ∙ ap (λ k. some_part_holds n (branches_from k bs) f) here ∙ ap (λ z. some_part_holds n z f) (sym (from_from low m bs)))
    ∙ part_halves m n (branches_from low bs) f
    ∙ ap (λ k. some_part_holds k (branches_from low bs) f) whole

-- the union of a tree without branches
pub no_branches : (t : Plain) (n : ℕ) → n ≡ branch_count (branches_of t) → n ≡ 0 → rest_of t ≡ union_in (branches_of t) (rest_of t)
no_branches (truth b) n e z = refl
no_branches (node l d done) n e z = refl
no_branches (node l d (branch k c rest)) n e z = absurd (omega (arith, e, z))

-- a node's other part, joined with a tree that holds where the other parts do, is the union
pub union_joined : (t p u : Plain) → IsReduced t → IsReduced p → HoldsParts (branches_of t) 0 (branch_count (branches_of t)) p → IsJoined Either (rest_of t) p u → u ≡ union_in (branches_of t) (rest_of t)
union_joined t p u h y q j =
    joined_or (rest_of t) p u j
    ∙ go t h q
  where
    go : (t : Plain) → IsReduced t → HoldsParts (branches_of t) 0 (branch_count (branches_of t)) p → or_of (rest_of t) p ≡ union_in (branches_of t) (rest_of t)
    go (truth b) h q =
        one_truth_one_tree (or_of (truth b) p) (truth b) (or_fits [] (truth b) p tt y) tt
        (λ w x is ascii extra. or_holds [] (truth b) p (value_of w x) tt y ∙ ap (either b) (q (value_of w x)) ∙ sym (either_none b))
    go (node l d bs) h q =
        one_truth_one_tree (or_of d p) (union_in bs d) (or_fits [] d p (fits_reduced d l h.2) y) (fits_reduced (union_in bs d) l (union_fits bs l d d h.3 h.2))
        (λ w x is ascii extra. or_holds [] d p (value_of w x) (fits_reduced d l h.2) y ∙ ap (either (holds_of d (value_of w x))) (q (value_of w x)) ∙ sym (union_truth bs l d d (value_of w x) h.3 h.2))
