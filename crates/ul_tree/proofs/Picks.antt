-- The part that a value takes: its truth, its size, and that it is reduced.
use Rattle.std.proofs.Common.{◌≡◌, ℕ, ◌+◌, ◌≤◌, List, Bool, true, false, refl, ap, ◌∙◌, arith, Less, Equal, Greater, Ordering}
use Rattle.ul_nodes.specs.Plain.{Plain, truth, node, Branches, done, branch, text_cmp, carries, carried_part, by_order, pick, holds_of, holds_in}
use Rattle.ul_nodes.specs.Reduced.{Fits, FitsAll}
use Rattle.ul_nodes.specs.Apply.{size, sizes}
use Rattle.ul_nodes.proofs.ForCallers.{cmp_trans}

pub holds_chosen : (o : Ordering) (a b c : Plain) (f : List ℕ → List ℕ) → holds_of (by_order o a b c) f ≡ by_order o (holds_of a f) (holds_of b f) (holds_of c f)
holds_chosen Less a b c f = refl
holds_chosen Equal a b c f = refl
holds_chosen Greater a b c f = refl

pub holds_carried : (m : Bool) (c d : Plain) (f : List ℕ → List ℕ) → holds_of (carried_part m c d) f ≡ carried_part m (holds_of c f) (holds_of d f)
holds_carried true c d f = refl
holds_carried false c d f = refl

pub holds_pick : (bs : Branches) (m : Bool) (v : List ℕ) (d : Plain) (f : List ℕ → List ℕ) → holds_of (pick bs m v d) f ≡ holds_in bs m v (holds_of d f) f
holds_pick done m v d f = refl
holds_pick (branch k c rest) m v d f =
    holds_chosen (text_cmp v k) d c (pick rest m v (carried_part m c d)) f
    ∙ ap (by_order (text_cmp v k) (holds_of d f) (holds_of c f)) (holds_pick rest m v (carried_part m c d) f ∙ ap (λ t. holds_in rest m v t f) (holds_carried m c d f))

size_chosen : (o : Ordering) (a b c : Plain) (n : ℕ) → size a ≤ n → size b ≤ n → size c ≤ n → size (by_order o a b c) ≤ n
size_chosen Less a b c n x y z = x
size_chosen Equal a b c n x y z = y
size_chosen Greater a b c n x y z = z

size_carried : (m : Bool) (c d : Plain) → size (carried_part m c d) ≤ size c + size d
size_carried true c d = omega arith
size_carried false c d = omega arith

pub size_pick : (bs : Branches) (m : Bool) (v : List ℕ) (d : Plain) → size (pick bs m v d) ≤ size d + sizes bs
size_pick done m v d = omega arith
size_pick (branch k c rest) m v d =
    let h = size_pick rest m v (carried_part m c d) in
    let g = size_carried m c d in
    size_chosen (text_cmp v k) d c (pick rest m v (carried_part m c d)) (size d + (size c + sizes rest)) (omega arith) (omega arith) (omega (arith, h, g))

pub fits_chosen : (o : Ordering) (a b c : Plain) (l : List ℕ) → Fits a l → Fits b l → Fits c l → Fits (by_order o a b c) l
fits_chosen Less a b c l x y z = x
fits_chosen Equal a b c l x y z = y
fits_chosen Greater a b c l x y z = z

pub fits_carried : (m : Bool) (c d : Plain) (l : List ℕ) → Fits c l → Fits d l → Fits (carried_part m c d) l
fits_carried true c d l x y = x
fits_carried false c d l x y = y

pub fits_pick : (bs : Branches) (l v : List ℕ) (d : Plain) → Fits d l → FitsAll bs l d → Fits (pick bs (carries l) v d) l
fits_pick done l v d x h = x
fits_pick (branch k c rest) l v d x h =
    fits_chosen (text_cmp v k) d c _ l x h.2 (fits_pick rest l v (carried_part (carries l) c d) (fits_carried (carries l) c d l h.2 x) h.4)

-- the truth depends on no level up to l
mutual
  pub holds_alike : (t : Plain) (l : List ℕ) (f g : List ℕ → List ℕ) → Fits t l → ((k : List ℕ) → text_cmp l k ≡ Less → f k ≡ g k) → holds_of t f ≡ holds_of t g
  holds_alike (truth b) l f g h same = refl
  holds_alike (node k d bs) l f g h same =
      ap (λ v. holds_in bs (carries k) v (holds_of d f) f) (same k h.0)
      ∙ ap (λ t. holds_in bs (carries k) (g k) t f) (holds_alike d k f g h.2 (λ j e. same j (cmp_trans l k j h.0 e)))
      ∙ holds_in_alike bs k d (g k) (holds_of d g) f g h.3 (λ j e. same j (cmp_trans l k j h.0 e))

  pub holds_in_alike : (bs : Branches) (l : List ℕ) (d : Plain) (v : List ℕ) (t : Bool) (f g : List ℕ → List ℕ) → FitsAll bs l d → ((k : List ℕ) → text_cmp l k ≡ Less → f k ≡ g k)
      → holds_in bs (carries l) v t f ≡ holds_in bs (carries l) v t g
  holds_in_alike done l d v t f g h same = refl
  holds_in_alike (branch k c rest) l d v t f g h same =
      ap (λ x. by_order (text_cmp v k) t x (holds_in rest (carries l) v (carried_part (carries l) x t) f)) (holds_alike c l f g h.2 same)
      ∙ ap (by_order (text_cmp v k) t (holds_of c g)) (holds_in_alike rest l (carried_part (carries l) c d) v (carried_part (carries l) (holds_of c g) t) f g h.4 same)
