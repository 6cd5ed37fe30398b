-- A region that is lowered once for all parts of a node.
use Rattle.std.proofs.Common.{◌≡◌, ◌≢◌, List, ℕ, Bool, true, false, refl, ap, sym, ◌∙◌, subst, Less, Equal, Greater, Ordering, Option, Some, None}
use Rattle.std.specs.Ordering.{is_lt, is_eq}
use Rattle.ul_nodes.specs.Plain.{Plain, truth, node, Branches, done, branch, text_cmp, carries, carried_part, by_order, pick}
use Rattle.ul_nodes.specs.Reduced.{Fits, FitsAll, IsReduced}
use Rattle.ul_nodes.specs.Apply.{rest_at, part_at}
use Rattle.ul_nodes.specs.Keys.{top_of, rest_of, branches_of, is_level}
use Rattle.ul_nodes.specs.Rows.{Results}
use Rattle.ul_nodes.proofs.ForCallers.{cmp_itself, cmp_equal, cmp_back, cmp_over, cmp_trans, rest_here, rest_elsewhere, part_here, part_elsewhere}
use Rattle.ul_tree.specs.Simplify.{Pieces, Piece, no_piece, piece, outside, inside}
use Rattle.ul_tree.specs.SimplifyViews.{is_above, earlier_top, tops_of, parts_top, Lowers, Lowered, StandsFor}
use Rattle.ul_tree.proofs.Lowering.{level_between}

-- ---- the first top level of parts

-- no level of the kind is before n
abbrev NotBefore : List ℕ → Option (List ℕ) → Type 0
NotBefore n None = Unit {0}
NotBefore n (Some l) = is_lt (text_cmp l n) ≡ false

-- no part of branches begins above n
abbrev NoneAbove : List ℕ → Branches → Type 0
NoneAbove n done = Unit {0}
NoneAbove n (branch k c rest) = (is_above n c ≡ false) × NoneAbove n rest

top_not_before : (n : List ℕ) (t : Plain) → NotBefore n (top_of t) → is_above n t ≡ false
top_not_before n (truth b) h = refl
top_not_before n (node k d bs) h = h

later_not_before : (n l k : List ℕ) → text_cmp l k ≡ Less → is_lt (text_cmp l n) ≡ false → is_lt (text_cmp k n) ≡ false
later_not_before n l k a b = go (text_cmp k n) refl
  where
    go : (o : Ordering) → text_cmp k n ≡ o → is_lt o ≡ false
    go Less e = let p : true ≡ false = sym (ap is_lt (cmp_trans l k n a e)) ∙ b in cc
    go Equal e = refl
    go Greater e = refl

earlier_both : (a b : Option (List ℕ)) (n : List ℕ) → NotBefore n (earlier_top a b) → NotBefore n a × NotBefore n b
earlier_both None b n h = (tt, h)
earlier_both (Some l) None n h = (h, tt)
earlier_both (Some l) (Some k) n h = go (text_cmp l k) refl h
  where
    go : (o : Ordering) → text_cmp l k ≡ o → is_lt (text_cmp (by_order o l l k) n) ≡ false → (is_lt (text_cmp l n) ≡ false) × (is_lt (text_cmp k n) ≡ false)
    go Less e h = (h, later_not_before n l k e h)
    go Equal e h = (h, subst (λ (i : List ℕ). is_lt (text_cmp i n) ≡ false) (cmp_equal l k e) h)
    go Greater e h = (later_not_before n k l (cmp_over l k e) h, h)

-- no part begins above the first top level
tops_all : (bs : Branches) (found : Option (List ℕ)) (n : List ℕ) → tops_of bs found ≡ Some n → NotBefore n found × NoneAbove n bs
tops_all done found n e = (subst (λ (i : Option (List ℕ)). NotBefore n i) (sym e) (ap is_lt (cmp_itself n)), tt)
tops_all (branch k c rest) found n e =
    let h = tops_all rest (earlier_top found (top_of c)) n e in
    let b = earlier_both found (top_of c) n h.0 in
    (b.0, (top_not_before n c b.1, h.1))

above_chosen : (n : List ℕ) (o : Ordering) (a b c : Plain) → is_above n a ≡ false → is_above n b ≡ false → is_above n c ≡ false → is_above n (by_order o a b c) ≡ false
above_chosen n Less a b c x y z = x
above_chosen n Equal a b c x y z = y
above_chosen n Greater a b c x y z = z

above_carried : (n : List ℕ) (m : Bool) (c d : Plain) → is_above n c ≡ false → is_above n d ≡ false → is_above n (carried_part m c d) ≡ false
above_carried n true c d x y = x
above_carried n false c d x y = y

above_picked : (n : List ℕ) (bs : Branches) (m : Bool) (v : List ℕ) (d : Plain) → NoneAbove n bs → is_above n d ≡ false → is_above n (pick bs m v d) ≡ false
above_picked n done m v d h x = x
above_picked n (branch k c rest) m v d h x = above_chosen n (text_cmp v k) d c (pick rest m v (carried_part m c d)) x h.0 (above_picked n rest m v (carried_part m c d) h.1 (above_carried n m c d h.0 x))

part_not_above : (l n v : List ℕ) (f : Plain) → is_level l f ≡ true → parts_top f ≡ Some n → is_above n (part_at l v f) ≡ false
part_not_above l n v f h e =
    let t = tops_all (branches_of f) (top_of (rest_of f)) n e in
    ap (is_above n) (part_here l v f h) ∙ above_picked n (branches_of f) (carries l) v (rest_of f) t.1 (top_not_before n (rest_of f) t.0)

rest_not_above : (l n : List ℕ) (f : Plain) → is_level l f ≡ true → parts_top f ≡ Some n → is_above n (rest_at l f) ≡ false
rest_not_above l n f h e = ap (is_above n) (rest_here l f h) ∙ top_not_before n (rest_of f) (tops_all (branches_of f) (top_of (rest_of f)) n e).0

-- ---- it comes after the node's own level

abbrev ComesAfter : List ℕ → Option (List ℕ) → Type 0
ComesAfter l None = Unit {0}
ComesAfter l (Some k) = text_cmp l k ≡ Less

fits_top : (t : Plain) (l : List ℕ) → Fits t l → ComesAfter l (top_of t)
fits_top (truth b) l h = tt
fits_top (node k d bs) l h = h.0

chosen_after : (l i k : List ℕ) (o : Ordering) → text_cmp l i ≡ Less → text_cmp l k ≡ Less → text_cmp l (by_order o i i k) ≡ Less
chosen_after l i k Less x y = x
chosen_after l i k Equal x y = x
chosen_after l i k Greater x y = y

earlier_after : (l : List ℕ) (a b : Option (List ℕ)) → ComesAfter l a → ComesAfter l b → ComesAfter l (earlier_top a b)
earlier_after l None b x y = y
earlier_after l (Some i) None x y = x
earlier_after l (Some i) (Some k) x y = chosen_after l i k (text_cmp i k) x y

tops_after : (bs : Branches) (l : List ℕ) (d : Plain) (found : Option (List ℕ)) → FitsAll bs l d → ComesAfter l found → ComesAfter l (tops_of bs found)
tops_after done l d found h x = x
tops_after (branch k c rest) l d found h x = tops_after rest l (carried_part (carries l) c d) (earlier_top found (top_of c)) h.4 (earlier_after l found (top_of c) x (fits_top c l h.2))

parts_after : (l n : List ℕ) (f : Plain) → Some l ≡ top_of f → IsReduced f → parts_top f ≡ Some n → text_cmp l n ≡ Less
parts_after l n (truth b) e h q = cc
parts_after l n (node j d bs) e h q =
    let p : j ≡ l = cc in
    let a = subst (λ (i : Option (List ℕ)). ComesAfter j i) q (tops_after bs j d (top_of d) h.3 (fits_top d j h.2)) in
    subst (λ (i : List ℕ). text_cmp i n ≡ Less) p a

top_here : (l : List ℕ) (f : Plain) → Some l ≡ top_of f → is_level l f ≡ true
top_here l (truth b) e = cc
top_here l (node j d bs) e = let p : l ≡ j = cc in ap (λ i. is_eq (text_cmp l i)) (sym p) ∙ ap is_eq (cmp_itself l)

-- ---- one region for all parts

-- what isn't above a later level is below
later_region : (l n : List ℕ) (r : Plain) → text_cmp l n ≡ Less → is_above n r ≡ false → (is_above l r ≡ false) × (is_level l r ≡ false)
later_region l n (truth b) a h = (refl, refl)
later_region l n (node k d bs) a h =
    let w = level_between l n k a h in
    (ap is_lt (cmp_back l k w), ap is_eq w)

piece_served : {p r : Plain} {o : Option Plain} → Piece p r o → (n : List ℕ) (c : Plain) → Lowers n c r → c ≢ truth false → is_above n p ≡ false → Piece p c o
piece_served outside n c h m a = absurd (h.not_false refl)
piece_served (inside {f = f} {t = t} q s) n c h m a = inside m (h.serves f t a s)

pieces_served : {l : List ℕ} {f r : Plain} {ks : List (List ℕ)} {rs : Results} → Pieces l f r ks rs → (c : Plain)
    → ((v : List ℕ) (o : Option Plain) → Piece (part_at l v f) (part_at l v r) o → Piece (part_at l v f) (part_at l v c) o) → Pieces l f c ks rs
pieces_served no_piece c h = no_piece
pieces_served (piece {k = k} {o = o} p ps) c h = piece (h k o p) (pieces_served ps c h)

pub stands_as : (l : List ℕ) (f c r w : Plain) → w ≡ r → StandsFor l f c r → StandsFor l f c w
stands_as l f c r w e h = subst (λ (z : Plain). StandsFor l f c z) (sym e) h

-- a region lowered to the first top level of a node's parts stands for the region in all of them
pub lowered_stands : (l n : List ℕ) (f c r : Plain) → Some l ≡ top_of f → IsReduced f → is_level l c ≡ false → c ≢ truth false → parts_top f ≡ Some n → Lowered n c r → StandsFor l f c r
lowered_stands l n f c r e h below m q low =
    let here = top_here l f e in
    let later = later_region l n r (parts_after l n f e h q) low.not_above in
    record {
      reduced = low.lowers.reduced;
      not_above = later.0;
      parts = λ ks rs ps. pieces_served ps c (λ v o p.
          subst (λ (z : Plain). Piece (part_at l v f) z o) (sym (part_elsewhere l v c below))
          (piece_served (subst (λ (z : Plain). Piece (part_at l v f) z o) (part_elsewhere l v r later.1) p) n c low.lowers m (part_not_above l n v f here q)));
      rest = λ o p.
          subst (λ (z : Plain). Piece (rest_at l f) z o) (sym (rest_elsewhere l c below))
          (piece_served (subst (λ (z : Plain). Piece (rest_at l f) z o) (rest_elsewhere l r later.1) p) n c low.lowers m (rest_not_above l n f here q));
    }
