-- A tree made simpler is reduced, has its tree's truth wherever the region holds, and is one.
use Rattle.std.proofs.Common.{◌≡◌, ◌≢◌, ℕ, List, ◌∷◌, refl, ap, sym, ◌∙◌, Less, Equal, Greater, Option, Some}
use Rattle.ul_nodes.specs.Plain.{Plain, node, Branches, text_cmp, carries, holds_of}
use Rattle.ul_nodes.specs.Reduced.{Fits}
use Rattle.ul_nodes.specs.Apply.{rest_at, branches_at, part_at}
use Rattle.ul_nodes.specs.Rows.{Results}
use Rattle.ul_tree.specs.Simplify.{Simplifies, Pieces, Piece, at_truth, anywhere, above, by_pieces, no_piece, piece, outside, inside, settled_level}
use Rattle.ul_nodes.proofs.ForCallers.{cmp_itself, cmp_over}
use Rattle.ul_tree.proofs.Picks.{fits_pick}
use Rattle.ul_tree.proofs.Applied.{Seen, seen_node}
use Rattle.ul_tree.proofs.Unions.{union_fits, union_holds}
use Rattle.ul_tree.proofs.Settled.{Good, GoodPiece, GoodPieces, heads, settled_good}

itself_not_over : (l : List ℕ) → text_cmp l l ≢ Greater
itself_not_over l = λ q. let p = cmp_itself l in let r : Equal ≡ Greater = sym p ∙ q in cc

pub seen_below : (l k : List ℕ) (d : Plain) (bs : Branches) (b : List ℕ) → Fits (node k d bs) b → (text_cmp k l ≡ Less → ⊥) → Seen l (node k d bs)
seen_below l k d bs b h n = seen_node l k d bs b h (λ q. n (cmp_over l k q))

pub seen_here : (l : List ℕ) (d : Plain) (bs : Branches) (b : List ℕ) → Fits (node l d bs) b → Seen l (node l d bs)
seen_here l d bs b h = seen_node l l d bs b h (itself_not_over l)

pub seen_part : (l v : List ℕ) (t : Plain) → Seen l t → Fits (part_at l v t) l
seen_part l v t s = fits_pick (branches_at l t) l v (rest_at l t) s.rest s.branches

pub same_heads : {l : List ℕ} {f c : Plain} {ks : List (List ℕ)} {rs : Results} → Pieces l f c ks rs → heads rs ≡ ks
same_heads no_piece = refl
same_heads (piece {k = k} p ps) = ap (λ z. k ∷ z) (same_heads ps)

mutual
  pub good : {f c t : Plain} → Simplifies f c t → (e i : List ℕ) → Fits f e → Fits c i → Good t f c e
  good at_truth e i x y = (tt, λ v p. refl)
  good anywhere e i x y = (x, λ v p. refl)
  good (above {k = k} {e = u} {cs = cs} w s) e i x y =
      let g = good s e k x (union_fits cs k u u y.3 y.2) in
      (g.0, λ v p. g.1 v (union_holds cs k u u (carries k) (v k) (holds_of u v) v y.3 y.2 (λ q. q) p))
  good (by_pieces {l = l} {k = k} {d = d} {e = u} {bs = bs} {cs = cs} {rs = rs} {o = o} n ps p) e i x y =
      let c = seen_below l k u cs i y n in
      settled_good l e d (node k u cs) bs rs o x c (same_heads ps) (goods ps (λ v. seen_part l v (node l d bs) (seen_here l d bs e x)) (λ v. seen_part l v (node k u cs) c)) (good_piece p l x.2 c.rest)

  pub goods : {l : List ℕ} {f c : Plain} {ks : List (List ℕ)} {rs : Results} → Pieces l f c ks rs → ((v : List ℕ) → Fits (part_at l v f) l) → ((v : List ℕ) → Fits (part_at l v c) l) → GoodPieces l f c rs
  goods no_piece x y = tt
  goods (piece {l = l} {k = k} p ps) x y = (good_piece p l (x k) (y k), goods ps x y)

  pub good_piece : {f c : Plain} {o : Option Plain} → Piece f c o → (l : List ℕ) → Fits f l → Fits c l → GoodPiece o f c l
  good_piece outside l x y = refl
  good_piece (inside n s) l x y = good s l l x y

mutual
  pub one : {f c s t : Plain} → Simplifies f c s → Simplifies f c t → s ≡ t
  one at_truth at_truth = refl
  one at_truth anywhere = refl
  one anywhere at_truth = refl
  one anywhere anywhere = refl
  one (above w s) (above v t) = one s t
  one (above w s) (by_pieces n ps p) = absurd (n w)
  one (by_pieces n ps p) (above w s) = absurd (n w)
  one (by_pieces {l = l} {d = d} {rs = rs} {o = o} n ps p) (by_pieces {rs = rs2} {o = o2} m qs q) =
      ap (λ z. settled_level l z o d) (ones ps qs) ∙ ap (λ z. settled_level l rs2 z d) (one_piece p q)

  pub ones : {l : List ℕ} {f c : Plain} {ks : List (List ℕ)} {rs qs : Results} → Pieces l f c ks rs → Pieces l f c ks qs → rs ≡ qs
  ones no_piece no_piece = refl
  ones (piece {k = k} {o = o} {rs = rs} p ps) (piece {o = o2} {rs = rs2} q qs) = ap (λ z. (k, z) ∷ rs) (one_piece p q) ∙ ap (λ z. (k, o2) ∷ z) (ones ps qs)

  one_piece : {f c : Plain} {o q : Option Plain} → Piece f c o → Piece f c q → o ≡ q
  one_piece outside outside = refl
  one_piece outside (inside n s) = absurd (n refl)
  one_piece (inside n s) outside = absurd (n refl)
  one_piece (inside n s) (inside m t) = ap Some (one s t)
