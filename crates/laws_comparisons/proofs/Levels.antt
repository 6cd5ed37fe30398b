-- A property of each level of a tree, and of what the tree is simplified to.
use Rattle.std.proofs.Common.{ℕ, List, [], ◌∷◌, Bool, true, false, Less, Equal, Greater, Ordering, Option, Some, None, cond}
use Rattle.ul_nodes.specs.Plain.{Plain, truth, node, Branches, done, branch, text_cmp, carries, carried_part, by_order, pick}
use Rattle.ul_nodes.specs.Apply.{branches_at, close, part_at, reduced_branches, rest_at, same}
use Rattle.ul_nodes.specs.Rows.{Results, earliest, first_result, last_result, latest, own_or}
use Rattle.ul_tree.specs.Simplify.{Simplifies, Pieces, Piece, at_truth, anywhere, above, by_pieces, no_piece, piece, outside, inside, filled_results}

abbrev mutual
  -- each level of the tree has the property
  pub EachLevel : (List ℕ → Type 0) → Plain → Type 0
  EachLevel P (truth b) = Unit {0}
  EachLevel P (node l d bs) = P l × EachLevel P d × EachLevelIn P bs

  pub EachLevelIn : (List ℕ → Type 0) → Branches → Type 0
  EachLevelIn P done = Unit {0}
  EachLevelIn P (branch k c rest) = EachLevel P c × EachLevelIn P rest

module _ (P : List ℕ → Type 0) where
  -- ---- parts of a tree

  chosen : (o : Ordering) (a b c : Plain) → EachLevel P a → EachLevel P b → EachLevel P c → EachLevel P (by_order o a b c)
  chosen Less a b c x y z = x
  chosen Equal a b c x y z = y
  chosen Greater a b c x y z = z

  pub carried : (m : Bool) (c d : Plain) → EachLevel P c → EachLevel P d → EachLevel P (carried_part m c d)
  carried true c d x y = x
  carried false c d x y = y

  picked : (bs : Branches) (m : Bool) (v : List ℕ) (d : Plain) → EachLevelIn P bs → EachLevel P d → EachLevel P (pick bs m v d)
  picked done m v d x y = y
  picked (branch k c rest) m v d x y =
      chosen (text_cmp v k) d c (pick rest m v (carried_part m c d)) y x.0 (picked rest m v (carried_part m c d) x.1 (carried m c d x.0 y))

  part_has : (l v : List ℕ) (t : Plain) → EachLevel P t → EachLevel P (part_at l v t)
  part_has l v (truth b) h = tt
  part_has l v (node k d bs) h = picked (branches_at l (node k d bs)) (carries l) v (rest_at l (node k d bs)) (branches (text_cmp l k)) (chosen (text_cmp l k) (node k d bs) d (node k d bs) h h.1 h)
    where
      branches : (o : Ordering) → EachLevelIn P (by_order o done bs done)
      branches Less = tt
      branches Equal = h.2
      branches Greater = tt

  pub close_has : (l : List ℕ) (d : Plain) (bs : Branches) → P l → EachLevel P d → EachLevelIn P bs → EachLevel P (close l d bs)
  close_has l d done p x y = x
  close_has l d (branch k c rest) p x y = (p, x, y)

  -- ---- results of pieces

  abbrev SomeHas : Option Plain → Type 0
  SomeHas None = Unit {0}
  SomeHas (Some t) = EachLevel P t

  abbrev EachHas : Results → Type 0
  EachHas [] = Unit {0}
  EachHas (r ∷ rs) = SomeHas r.1 × EachHas rs

  abbrev PartsHave : List (List ℕ × Plain) → Type 0
  PartsHave [] = Unit {0}
  PartsHave (p ∷ ps) = EachLevel P p.1 × PartsHave ps

  own_has : (o : Option Plain) (z : Plain) → SomeHas o → EachLevel P z → EachLevel P (own_or o z)
  own_has None z x y = y
  own_has (Some t) z x y = x

  first_has : (rs : Results) (z : Plain) → EachHas rs → EachLevel P z → EachLevel P (first_result rs z)
  first_has [] z h y = y
  first_has (r ∷ rs) z h y = own_has r.1 (first_result rs z) h.0 (first_has rs z h.1 y)

  last_has : (rs : Results) (z : Plain) → EachHas rs → EachLevel P z → EachLevel P (last_result rs z)
  last_has [] z h y = y
  last_has (r ∷ rs) z h y = last_has rs (own_or r.1 z) h.1 (own_has r.1 z h.0 y)

  earliest_has : (m : Bool) (rs : Results) (o : Option Plain) (z : Plain) → EachHas rs → SomeHas o → EachLevel P z → EachLevel P (earliest m rs o z)
  earliest_has true rs o z h s y = own_has o (first_result rs z) s (first_has rs z h y)
  earliest_has false rs o z h s y = first_has rs (own_or o z) h (own_has o z s y)

  latest_has : (m : Bool) (rs : Results) (z : Plain) → EachHas rs → EachLevel P z → EachLevel P (latest m rs z)
  latest_has true rs z h y = y
  latest_has false rs z h y = last_has rs z h y

  filled_has : (rs : Results) (z : Plain) → EachHas rs → EachLevel P z → PartsHave (filled_results rs z)
  filled_has [] z h y = tt
  filled_has (r ∷ rs) z h y = let x = own_has r.1 z h.0 y in (x, filled_has rs (own_or r.1 z) h.1 x)

  reduced_has : (m : Bool) (ps : List (List ℕ × Plain)) (d : Plain) → PartsHave ps → EachLevelIn P (reduced_branches m ps d)
  reduced_has m [] d h = tt
  reduced_has m (p ∷ ps) d h = go (same p.1 d) (reduced_has m ps d h.1) (reduced_has m ps (carried_part m p.1 d) h.1)
    where
      go : (b : Bool) → EachLevelIn P (reduced_branches m ps d) → EachLevelIn P (reduced_branches m ps (carried_part m p.1 d))
          → EachLevelIn P (cond b (reduced_branches m ps d) (branch p.0 p.1 (reduced_branches m ps (carried_part m p.1 d))))
      go true x y = x
      go false x y = (h.0, y)

  settled : (l : List ℕ) (rs : Results) (o : Option Plain) (d z : Plain) → P l → EachHas rs → SomeHas o → EachLevel P z
      → EachLevel P (let e = own_or o (latest (carries l) rs z) in close l e (reduced_branches (carries l) (filled_results rs z) e))
  settled l rs o d z p h s y =
      let e = own_or o (latest (carries l) rs z) in
      close_has l e (reduced_branches (carries l) (filled_results rs z) e) p (own_has o (latest (carries l) rs z) s (latest_has (carries l) rs z h y))
      (reduced_has (carries l) (filled_results rs z) e (filled_has rs z h y))

  -- ---- what a tree is simplified to has its levels alone

  mutual
    pub simpler_has : {f c t : Plain} → Simplifies f c t → EachLevel P f → EachLevel P t
    simpler_has at_truth h = tt
    simpler_has anywhere h = h
    simpler_has (above w s) h = simpler_has s h
    simpler_has (by_pieces {l = l} {d = d} {rs = rs} {o = o} n ps p) h =
        let each = pieces_have ps h in
        let own = piece_has p h.1 in
        settled l rs o d (earliest (carries l) rs o d) h.0 each own (earliest_has (carries l) rs o d each own h.1)

    pieces_have : {l : List ℕ} {f c : Plain} {ks : List (List ℕ)} {rs : Results} → Pieces l f c ks rs → EachLevel P f → EachHas rs
    pieces_have no_piece h = tt
    pieces_have (piece {l = l} {k = k} {f = f} p ps) h = (piece_has p (part_has l k f h), pieces_have ps h)

    piece_has : {f c : Plain} {o : Option Plain} → Piece f c o → EachLevel P f → SomeHas o
    piece_has outside h = tt
    piece_has (inside n s) h = simpler_has s h
