-- The union of a node's parts is reduced, and holds wherever the node does.
use Rattle.std.proofs.Common.{◌≡◌, ℕ, suc, ◌+◌, List, Bool, true, false, refl, ◌∙◌, arith, Less, Equal, Greater, Ordering}
use Rattle.ul_nodes.specs.Plain.{Plain, Branches, done, branch, text_cmp, carries, carried_part, by_order, holds_of, holds_in}
use Rattle.ul_nodes.specs.Reduced.{Fits, FitsAll}
use Rattle.ul_nodes.specs.Apply.{size, either}
use Rattle.ul_tree.specs.Laws.{or_of}
use Rattle.ul_tree.specs.Simplify.{union_in}
use Rattle.ul_tree.proofs.Applied.{applied}

either_left : (a b : Bool) → a ≡ true → either a b ≡ true
either_left true b e = refl
either_left false b e = cc

either_right : (a b : Bool) → b ≡ true → either a b ≡ true
either_right true b e = refl
either_right false b e = e

pub or_fits : (e : List ℕ) (a b : Plain) → Fits a e → Fits b e → Fits (or_of a b) e
or_fits e a b x y = (applied either (suc (size a + size b)) a b e (omega arith) x y).0

or_left : (e : List ℕ) (a b : Plain) (f : List ℕ → List ℕ) → Fits a e → Fits b e → holds_of a f ≡ true → holds_of (or_of a b) f ≡ true
or_left e a b f x y h = (applied either (suc (size a + size b)) a b e (omega arith) x y).1 f ∙ either_left _ _ h

or_right : (e : List ℕ) (a b : Plain) (f : List ℕ → List ℕ) → Fits a e → Fits b e → holds_of b f ≡ true → holds_of (or_of a b) f ≡ true
or_right e a b f x y h = (applied either (suc (size a + size b)) a b e (omega arith) x y).1 f ∙ either_right _ _ h

pub union_fits : (bs : Branches) (e : List ℕ) (d t : Plain) → FitsAll bs e d → Fits t e → Fits (union_in bs t) e
union_fits done e d t h x = x
union_fits (branch k c rest) e d t h x = union_fits rest e (carried_part (carries e) c d) (or_of t c) h.4 (or_fits e t c x h.2)

pub union_keeps : (bs : Branches) (e : List ℕ) (d t : Plain) (f : List ℕ → List ℕ) → FitsAll bs e d → Fits t e → holds_of t f ≡ true → holds_of (union_in bs t) f ≡ true
union_keeps done e d t f h x p = p
union_keeps (branch k c rest) e d t f h x p = union_keeps rest e (carried_part (carries e) c d) (or_of t c) f h.4 (or_fits e t c x h.2) (or_left e t c f x h.2 p)

pub union_holds : (bs : Branches) (e : List ℕ) (d t : Plain) (m : Bool) (v : List ℕ) (b : Bool) (f : List ℕ → List ℕ) → FitsAll bs e d → Fits t e → (b ≡ true → holds_of t f ≡ true)
    → holds_in bs m v b f ≡ true → holds_of (union_in bs t) f ≡ true
union_holds done e d t m v b f h x g p = g p
union_holds (branch k c rest) e d t m v b f h x g p =
    go (text_cmp v k) p (λ q r. union_holds rest e (carried_part (carries e) c d) (or_of t c) m v (carried_part m (holds_of c f) b) f h.4 (or_fits e t c x h.2) q r)
  where
    left : b ≡ true → holds_of (or_of t c) f ≡ true
    left q = or_left e t c f x h.2 (g q)

    right : holds_of c f ≡ true → holds_of (or_of t c) f ≡ true
    right q = or_right e t c f x h.2 q

    after : holds_of (or_of t c) f ≡ true → holds_of (union_in rest (or_of t c)) f ≡ true
    after q = union_keeps rest e (carried_part (carries e) c d) (or_of t c) f h.4 (or_fits e t c x h.2) q

    chosen : (m : Bool) → carried_part m (holds_of c f) b ≡ true → holds_of (or_of t c) f ≡ true
    chosen true q = right q
    chosen false q = left q

    go : (o : Ordering) → by_order o b (holds_of c f) (holds_in rest m v (carried_part m (holds_of c f) b) f) ≡ true
        → ((carried_part m (holds_of c f) b ≡ true → holds_of (or_of t c) f ≡ true) → holds_in rest m v (carried_part m (holds_of c f) b) f ≡ true → holds_of (union_in rest (or_of t c)) f ≡ true)
        → holds_of (union_in rest (or_of t c)) f ≡ true
    go Less q j = after (left q)
    go Equal q j = after (right q)
    go Greater q j = j (chosen m) q
