-- The steps of simplifying, in the words of the code.
use Rattle.std.proofs.Common.{◌≡◌, ◌≢◌, ℕ, ◌<◌, List, [], ◌∷◌, true, false, refl, ap, sym, ◌∙◌, subst, arith, Less, Ordering, Option, Some, None}
use Rattle.std.specs.Ordering.{is_lt}
use Rattle.ul_nodes.specs.Plain.{Plain, truth, node, Branches, done, text_cmp, carries, by_order}
use Rattle.ul_nodes.specs.Reduced.{IsReduced}
use Rattle.ul_nodes.specs.Apply.{size, keys, key_union, leaf_truth, rest_at, branches_at, part_at}
use Rattle.ul_nodes.specs.Keys.{top_of}
use Rattle.ul_nodes.specs.Rows.{Results}
use Rattle.ul_tree.specs.Simplify.{Simplifies, Pieces, Piece, at_truth, anywhere, by_pieces, no_piece, piece, outside, inside, settled_level}
use Rattle.ul_tree.specs.FirstParts.{is_false}
use Rattle.ul_tree.specs.SimplifyViews.{is_above, Lowered, ResultFits, ResultsFit}
use Rattle.ul_nodes.proofs.ForCallers.{cmp_itself}
use Rattle.ul_tree.proofs.Picks.{size_pick}
use Rattle.ul_tree.proofs.Applied.{Seen, seen_truth, top_smaller}
use Rattle.ul_tree.proofs.Settled.{piece_fits}
use Rattle.ul_tree.proofs.Simplified.{seen_below, seen_part, good, good_piece}
use Rattle.ul_tree.proofs.Exists.{fits_reduced}

-- a tree of a top level is a node
record IsNode (l : List ℕ) (f : Plain) : Type 0 where
  rest : Plain
  branches : Branches
  is : f ≡ node l rest branches

top_node : (f : Plain) (l : List ℕ) → Some l ≡ top_of f → IsNode l f
top_node (truth b) l e = cc
top_node (node k d bs) l e = let p : l ≡ k = cc in record { rest = d; branches = bs; is = ap (λ j. node j d bs) (sym p) }

not_less : (o : Ordering) → is_lt o ≡ false → o ≢ Less
not_less o e = λ q. let p : true ≡ false = sym (ap is_lt q) ∙ e in cc

seen_at : (l : List ℕ) (t : Plain) → is_above l t ≡ false → IsReduced t → Seen l t
seen_at l (truth b) a h = seen_truth l b
seen_at l (node k d bs) a h = seen_below l k d bs [] h (not_less (text_cmp k l) a)

top_not_above : (l : List ℕ) (f : Plain) → Some l ≡ top_of f → is_above l f ≡ false
top_not_above l f e =
    let n = top_node f l e in
    ap (is_above l) n.is ∙ ap is_lt (cmp_itself l)

pub region_part : (l v : List ℕ) (t : Plain) → is_above l t ≡ false → IsReduced t → IsReduced (part_at l v t)
region_part l v t a h = fits_reduced (part_at l v t) l (seen_part l v t (seen_at l t a h))

pub region_rest : (l : List ℕ) (t : Plain) → is_above l t ≡ false → IsReduced t → IsReduced (rest_at l t)
region_rest l t a h = fits_reduced (rest_at l t) l (seen_at l t a h).rest

pub tree_part : (l v : List ℕ) (f : Plain) → Some l ≡ top_of f → IsReduced f → IsReduced (part_at l v f)
tree_part l v f e h = region_part l v f (top_not_above l f e) h

pub tree_rest : (l : List ℕ) (f : Plain) → Some l ≡ top_of f → IsReduced f → IsReduced (rest_at l f)
tree_rest l f e h = region_rest l f (top_not_above l f e) h

pub part_smaller : (l v : List ℕ) (f p : Plain) → Some l ≡ top_of f → p ≡ part_at l v f → size p < size f
part_smaller l v f p e q =
    let n = top_node f l e in
    let a = size_pick (branches_at l (node l n.rest n.branches)) (carries l) v (rest_at l (node l n.rest n.branches)) in
    let b = top_smaller l n.rest n.branches in
    subst (λ (z : Plain). size z < size f) (sym q) (subst (λ (z : Plain). size (part_at l v z) < size z) (sym n.is) (omega (arith, a, b)))

pub rest_smaller : (l : List ℕ) (f p : Plain) → Some l ≡ top_of f → p ≡ rest_at l f → size p < size f
rest_smaller l f p e q =
    let n = top_node f l e in
    let b = top_smaller l n.rest n.branches in
    subst (λ (z : Plain). size z < size f) (sym q) (subst (λ (z : Plain). size (rest_at l z) < size z) (sym n.is) (omega (arith, b)))

pub false_is : (c : Plain) → is_false c ≡ true → c ≡ truth false
false_is (truth true) e = cc
false_is (truth false) e = refl
false_is (node k d bs) e = cc

pub not_false_is : (c : Plain) → is_false c ≡ false → c ≢ truth false
not_false_is c e = λ q. let p : true ≡ false = sym (ap is_false q) ∙ e in cc

pub piece_outside : (f c : Plain) → is_false c ≡ true → Piece f c None
piece_outside f c e = subst (λ (z : Plain). Piece f z None) (sym (false_is c e)) outside

pub piece_inside : (f c t : Plain) → is_false c ≡ false → Simplifies f c t → Piece f c (Some t)
piece_inside f c t e s = inside (not_false_is c e) s

known_is : (c : Plain) → leaf_truth c ≡ true → c ≡ truth true
known_is (truth true) e = refl
known_is (truth false) e = cc
known_is (node k d bs) e = cc

-- a truth stays
pub truth_done : (f c t : Plain) → None ≡ top_of f → t ≡ f → Simplifies f c t
truth_done (truth b) c t e q = subst (λ (z : Plain). Simplifies (truth b) c z) (sym q) at_truth
truth_done (node l d bs) c t e q = cc

-- the region is everything
pub all_done : (f r t : Plain) → leaf_truth r ≡ true → t ≡ f → Simplifies f r t
all_done f r t k q = subst (λ (z : Plain). Simplifies f r z) (sym q) (subst (λ (z : Plain). Simplifies f z f) (sym (known_is r k)) anywhere)

-- upper levels of the region are taken away
pub lowered_done : (f c r t : Plain) (l : List ℕ) → Some l ≡ top_of f → Lowered l c r → Simplifies f r t → Simplifies f c t
lowered_done f c r t l e h s = h.lowers.serves f t (top_not_above l f e) s

-- the pieces of a node and of a region that isn't above it
pieces_done : (l : List ℕ) (d r : Plain) (bs : Branches) (rs : Results) (o : Option Plain) → is_above l r ≡ false → leaf_truth r ≡ false → r ≢ truth false
    → Pieces l (node l d bs) r (key_union (keys (branches_at l (node l d bs))) (keys (branches_at l r))) rs → Piece (rest_at l (node l d bs)) (rest_at l r) o
    → Simplifies (node l d bs) r (settled_level l rs o (rest_at l (node l d bs)))
pieces_done l d (truth true) bs rs o a k n ps p = cc
pieces_done l d (truth false) bs rs o a k n ps p = absurd (n refl)
pieces_done l d (node j e cs) bs rs o a k n ps p =
    let r = node j e cs in
    let here : rest_at l (node l d bs) ≡ d = ap (λ i. by_order i (node l d bs) d (node l d bs)) (cmp_itself l) in
    let at : branches_at l (node l d bs) ≡ bs = ap (λ i. by_order i done bs done) (cmp_itself l) in
    subst (λ (z : Plain). Simplifies (node l d bs) r (settled_level l rs o z)) (sym here)
    (by_pieces (not_less (text_cmp j l) a) (subst (λ (z : Branches). Pieces l (node l d bs) r (key_union (keys z) (keys (branches_at l r))) rs) at ps) (subst (λ (z : Plain). Piece z (rest_at l r) o) here p))

pub level_done : (f r t : Plain) (l : List ℕ) (ks : List (List ℕ)) (rs : Results) (o : Option Plain) → Some l ≡ top_of f → is_above l r ≡ false → r ≢ truth false → leaf_truth r ≡ false
    → ks ≡ key_union (keys (branches_at l f)) (keys (branches_at l r)) → Pieces l f r ks rs → Piece (rest_at l f) (rest_at l r) o → t ≡ settled_level l rs o (rest_at l f) → Simplifies f r t
level_done f r t l ks rs o e a m k w ps p q =
    let n = top_node f l e in
    subst (λ (z : Plain). Simplifies f r z) (sym q) (go n.rest n.branches n.is (subst (λ (z : List (List ℕ)). Pieces l f r z rs) w ps) p)
  where
    go : (d : Plain) (bs : Branches) → f ≡ node l d bs → Pieces l f r (key_union (keys (branches_at l f)) (keys (branches_at l r))) rs → Piece (rest_at l f) (rest_at l r) o → Simplifies f r (settled_level l rs o (rest_at l f))
    go d bs is = subst (λ (z : Plain). Pieces l z r (key_union (keys (branches_at l z)) (keys (branches_at l r))) rs → Piece (rest_at l z) (rest_at l r) o → Simplifies z r (settled_level l rs o (rest_at l z))) (sym is)
        (pieces_done l d r bs rs o a k m)

-- the pieces that are left, after one
pub piece_more : (l : List ℕ) (f r : Plain) (k : List ℕ) (ks : List (List ℕ)) (o : Option Plain) (rs : Results) (f_part r_part : Plain) → f_part ≡ part_at l k f → r_part ≡ part_at l k r → Piece f_part r_part o → Pieces l f r ks rs
    → Pieces l f r (k ∷ ks) ((k, o) ∷ rs)
piece_more l f r k ks o rs f_part r_part x y p ps = piece (subst (λ (z : Plain). Piece z (part_at l k r) o) x (subst (λ (z : Plain). Piece f_part z o) y p)) ps

pub no_more : (l : List ℕ) (f r : Plain) (ks : List (List ℕ)) → ks ≡ [] → Pieces l f r ks []
no_more l f r ks e = subst (λ (z : List (List ℕ)). Pieces l f r z []) (sym e) no_piece

-- what pieces become is reduced
pub result_reduced : (f c : Plain) (o : Option Plain) → Piece f c o → IsReduced f → IsReduced c → ResultFits o []
result_reduced f c o p x y = piece_fits o f c [] (good_piece p [] x y)

pub results_reduced : {l : List ℕ} {f c : Plain} {ks : List (List ℕ)} {rs : Results} → Pieces l f c ks rs → ((v : List ℕ) → IsReduced (part_at l v f)) → ((v : List ℕ) → IsReduced (part_at l v c)) → ResultsFit rs []
results_reduced no_piece x y = tt
results_reduced (piece {l = l} {k = k} {f = f} {c = c} {o = o} p ps) x y = (result_reduced (part_at l k f) (part_at l k c) o p (x k) (y k), results_reduced ps x y)

pub simpler_reduced : (f c t : Plain) → Simplifies f c t → IsReduced f → IsReduced c → IsReduced t
simpler_reduced f c t s x y = (good s [] [] x y).0
