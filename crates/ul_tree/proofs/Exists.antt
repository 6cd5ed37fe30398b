-- Each tree has a simpler one under each region that isn't false.
use Rattle.std.proofs.Common.{◌≡◌, ◌≢◌, ℕ, suc, zero, ◌+◌, ◌≤◌, ◌<◌, List, [], ◌∷◌, Bool, true, false, refl, ap, sym, ◌∙◌, subst, arith, Less, Equal, Greater, Ordering, Option, Some, None, ◌⊎◌, inl, inr, cond}
use Rattle.ul_nodes.specs.Plain.{Plain, truth, node, Branches, done, branch, text_cmp, carries, carried_part, by_order, pick, holds_of}
use Rattle.ul_nodes.specs.Reduced.{IsReduced, Fits}
use Rattle.ul_nodes.specs.Apply.{size, same, outs, close, keys, key_union, rest_at, branches_at, part_at, apply_at, apply, either}
use Rattle.ul_tree.specs.Laws.{or_of}
use Rattle.ul_tree.specs.Values.{value_of}
use Rattle.ul_nodes.specs.Rows.{Results}
use Rattle.ul_tree.specs.Simplify.{Simplifies, Pieces, Piece, at_truth, anywhere, above, by_pieces, no_piece, piece, outside, inside, union_in, settled_level}
use Rattle.ul_tree.specs.SimplifyLaws.{SimplifyLaws}
use Rattle.ul_nodes.proofs.ForCallers.{cmp_itself, cmp_trans, fits_weaker}
use Rattle.ul_tree.proofs.Picks.{size_pick}
use Rattle.ul_tree.proofs.Applied.{top_smaller}
use Rattle.ul_tree.proofs.Extras.{one_truth_one_tree}
use Rattle.ul_tree.proofs.Unions.{union_fits, union_holds}
use Rattle.ul_tree.proofs.Simplified.{seen_below, seen_here, seen_part, good, one}

-- a tree of later levels is one of all levels
pub fits_reduced : (t : Plain) (l : List ℕ) → Fits t l → IsReduced t
fits_reduced t [] h = h
fits_reduced t (a ∷ l) h = fits_weaker t (a ∷ l) [] refl h

not_true : (b : Bool) → b ≢ true → b ≡ false
not_true true n = absurd (n refl)
not_true false n = refl

-- the union of a node's parts isn't false
pub union_not_false : (k : List ℕ) (e : Plain) (cs : Branches) (i : List ℕ) → Fits (node k e cs) i → union_in cs e ≢ truth false
union_not_false k e cs i h q = go (one_truth_one_tree (node k e cs) (truth false) (fits_reduced (node k e cs) i h) tt (λ w x a b c. never (value_of w x)))
  where
    never : (v : List ℕ → List ℕ) → holds_of (node k e cs) v ≡ false
    never v = not_true _ (λ p.
        let r : true ≡ false = sym (union_holds cs k e e (carries k) (v k) (holds_of e v) v h.3 h.2 (λ q. q) p) ∙ ap (λ t. holds_of t v) q in
        cc)

    go : node k e cs ≡ truth false → ⊥
    go r = cc

-- the levels of a tree are in a list
abbrev In : List ℕ → List (List ℕ) → Type 0
In l [] = ⊥
In l (j ∷ js) = (l ≡ j) ⊎ In l js

abbrev mutual
  pub Among : List (List ℕ) → Plain → Type 0
  Among ls (truth b) = Unit {0}
  Among ls (node l d bs) = In l ls × Among ls d × AmongAll ls bs

  AmongAll : List (List ℕ) → Branches → Type 0
  AmongAll ls done = Unit {0}
  AmongAll ls (branch k c rest) = Among ls c × AmongAll ls rest

abbrev mutual
  pub levels : Plain → List (List ℕ) → List (List ℕ)
  levels (truth b) ls = ls
  levels (node l d bs) ls = l ∷ levels d (levels_in bs ls)

  levels_in : Branches → List (List ℕ) → List (List ℕ)
  levels_in done ls = ls
  levels_in (branch k c rest) ls = levels c (levels_in rest ls)

mutual
  in_levels : (t : Plain) (ls : List (List ℕ)) (l : List ℕ) → In l ls → In l (levels t ls)
  in_levels (truth b) ls l h = h
  in_levels (node k d bs) ls l h = inr (in_levels d (levels_in bs ls) l (in_levels_in bs ls l h))

  in_levels_in : (bs : Branches) (ls : List (List ℕ)) (l : List ℕ) → In l ls → In l (levels_in bs ls)
  in_levels_in done ls l h = h
  in_levels_in (branch k c rest) ls l h = in_levels c (levels_in rest ls) l (in_levels_in rest ls l h)

mutual
  more : (t : Plain) (ls ks : List (List ℕ)) → ((l : List ℕ) → In l ls → In l ks) → Among ls t → Among ks t
  more (truth b) ls ks f h = tt
  more (node l d bs) ls ks f h = (f l h.0, more d ls ks f h.1, more_all bs ls ks f h.2)

  more_all : (bs : Branches) (ls ks : List (List ℕ)) → ((l : List ℕ) → In l ls → In l ks) → AmongAll ls bs → AmongAll ks bs
  more_all done ls ks f h = tt
  more_all (branch k c rest) ls ks f h = (more c ls ks f h.0, more_all rest ls ks f h.1)

mutual
  pub among : (t : Plain) (ls : List (List ℕ)) → Among (levels t ls) t
  among (truth b) ls = tt
  among (node l d bs) ls =
      let ks = levels d (levels_in bs ls) in (
        inl refl,
        more d ks (l ∷ ks) (λ k h. inr h) (among d (levels_in bs ls)),
        more_all bs (levels_in bs ls) (l ∷ ks) (λ k h. inr (in_levels d (levels_in bs ls) k h)) (among_all bs ls),
      )

  among_all : (bs : Branches) (ls : List (List ℕ)) → AmongAll (levels_in bs ls) bs
  among_all done ls = tt
  among_all (branch k c rest) ls = (among c (levels_in rest ls), more_all rest (levels_in rest ls) (levels c (levels_in rest ls)) (in_levels c (levels_in rest ls)) (among_all rest ls))

-- and those of joined trees are too
among_chosen : (o : Ordering) (ls : List (List ℕ)) (a b c : Plain) → Among ls a → Among ls b → Among ls c → Among ls (by_order o a b c)
among_chosen Less ls a b c x y z = x
among_chosen Equal ls a b c x y z = y
among_chosen Greater ls a b c x y z = z

among_carried : (m : Bool) (ls : List (List ℕ)) (a b : Plain) → Among ls a → Among ls b → Among ls (carried_part m a b)
among_carried true ls a b x y = x
among_carried false ls a b x y = y

among_pick : (bs : Branches) (ls : List (List ℕ)) (m : Bool) (v : List ℕ) (d : Plain) → AmongAll ls bs → Among ls d → Among ls (pick bs m v d)
among_pick done ls m v d x y = y
among_pick (branch k c rest) ls m v d x y = among_chosen (text_cmp v k) ls d c (pick rest m v (carried_part m c d)) y x.0 (among_pick rest ls m v (carried_part m c d) x.1 (among_carried m ls c d x.0 y))

among_rest : (l : List ℕ) (ls : List (List ℕ)) (t : Plain) → Among ls t → Among ls (rest_at l t)
among_rest l ls (truth b) h = tt
among_rest l ls (node k d bs) h = among_chosen (text_cmp l k) ls (node k d bs) d (node k d bs) h h.1 h

among_branches : (l : List ℕ) (ls : List (List ℕ)) (t : Plain) → Among ls t → AmongAll ls (branches_at l t)
among_branches l ls (truth b) h = tt
among_branches l ls (node k d bs) h = go (text_cmp l k)
  where
    go : (o : Ordering) → AmongAll ls (by_order o done bs done)
    go Less = tt
    go Equal = h.2
    go Greater = tt

among_part : (l v : List ℕ) (ls : List (List ℕ)) (t : Plain) → Among ls t → Among ls (part_at l v t)
among_part l v ls t h = among_pick (branches_at l t) ls (carries l) v (rest_at l t) (among_branches l ls t h) (among_rest l ls t h)

among_outs : (g : List ℕ → Plain) (m : Bool) (ks : List (List ℕ)) (ls : List (List ℕ)) (d : Plain) → ((k : List ℕ) → Among ls (g k)) → AmongAll ls (outs g m ks d)
among_outs g m [] ls d h = tt
among_outs g m (k ∷ ks) ls d h = go (same (g k) d) (among_outs g m ks ls d h) (among_outs g m ks ls (carried_part m (g k) d) h)
  where
    go : (b : Bool) → AmongAll ls (outs g m ks d) → AmongAll ls (outs g m ks (carried_part m (g k) d)) → AmongAll ls (cond b (outs g m ks d) (branch k (g k) (outs g m ks (carried_part m (g k) d))))
    go true x y = x
    go false x y = (h k, y)

among_close : (l : List ℕ) (ls : List (List ℕ)) (d : Plain) (bs : Branches) → In l ls → Among ls d → AmongAll ls bs → Among ls (close l d bs)
among_close l ls d done i x y = x
among_close l ls d (branch k c rest) i x y = (i, x, y)

among_at : (op : Bool → Bool → Bool) (n : ℕ) (ls : List (List ℕ)) (l : List ℕ) (a b : Plain) → In l ls → Among ls a → Among ls b
    → ((x y : Plain) → Among ls x → Among ls y → Among ls (apply op n x y)) → Among ls (apply_at op (apply op n) (Some l) a b)
among_at op n ls l a b i x y ih =
    among_close l ls (apply op n (rest_at l a) (rest_at l b)) _ i (ih (rest_at l a) (rest_at l b) (among_rest l ls a x) (among_rest l ls b y))
    (among_outs (λ v. apply op n (part_at l v a) (part_at l v b)) (carries l) (key_union (keys (branches_at l a)) (keys (branches_at l b))) ls (apply op n (rest_at l a) (rest_at l b))
    (λ v. ih (part_at l v a) (part_at l v b) (among_part l v ls a x) (among_part l v ls b y)))

among_apply : (op : Bool → Bool → Bool) (n : ℕ) (ls : List (List ℕ)) (a b : Plain) → Among ls a → Among ls b → Among ls (apply op n a b)
among_apply op zero ls a b x y = tt
among_apply op (suc n) ls (truth u) (truth v) x y = tt
among_apply op (suc n) ls (node l d bs) (truth v) x y = among_at op n ls l (node l d bs) (truth v) x.0 x y (among_apply op n ls)
among_apply op (suc n) ls (truth u) (node k e cs) x y = among_at op n ls k (truth u) (node k e cs) y.0 x y (among_apply op n ls)
among_apply op (suc n) ls (node l d bs) (node k e cs) x y = among_at op n ls (by_order (text_cmp l k) l l k) (node l d bs) (node k e cs) (go (text_cmp l k)) x y (among_apply op n ls)
  where
    go : (o : Ordering) → In (by_order o l l k) ls
    go Less = x.0
    go Equal = x.0
    go Greater = y.0

pub among_union : (bs : Branches) (ls : List (List ℕ)) (t : Plain) → AmongAll ls bs → Among ls t → Among ls (union_in bs t)
among_union done ls t x y = y
among_union (branch k c rest) ls t x y = among_union rest ls (or_of t c) x.1 (among_apply either (suc (size t + size c)) ls t c y x.0)

-- how many levels of a list come after one
abbrev one_if_less : Ordering → ℕ
one_if_less Less = 1
one_if_less Equal = 0
one_if_less Greater = 0

abbrev pub later : List ℕ → List (List ℕ) → ℕ
later l [] = 0
later l (j ∷ js) = one_if_less (text_cmp l j) + later l js

one_fewer : (l k j : List ℕ) → text_cmp l k ≡ Less → one_if_less (text_cmp k j) ≤ one_if_less (text_cmp l j)
one_fewer l k j e = go (text_cmp k j) refl
  where
    go : (o : Ordering) → text_cmp k j ≡ o → one_if_less o ≤ one_if_less (text_cmp l j)
    go Less w = let p = ap one_if_less (cmp_trans l k j e w) in omega (arith, p)
    go Equal w = omega arith
    go Greater w = omega arith

fewer : (l k : List ℕ) (ls : List (List ℕ)) → text_cmp l k ≡ Less → later k ls ≤ later l ls
fewer l k [] e = omega arith
fewer l k (j ∷ js) e = let p = one_fewer l k j e in let q = fewer l k js e in omega (arith, p, q)

pub later_less : (l k : List ℕ) (ls : List (List ℕ)) → text_cmp l k ≡ Less → In k ls → later k ls < later l ls
later_less l k [] e h = absurd h
later_less l k (j ∷ js) e (inl q) =
    let p = ap one_if_less (sym (ap (text_cmp k) q) ∙ cmp_itself k) in
    let r = ap one_if_less (sym (ap (text_cmp l) q) ∙ e) in
    let s = fewer l k js e in
    omega (arith, p, r, s)
later_less l k (j ∷ js) e (inr h) = let p = one_fewer l k j e in let q = later_less l k js e h in omega (arith, p, q)

-- no level before l
abbrev pub NotAbove : List ℕ → Plain → Type 0
NotAbove l (truth b) = Unit {0}
NotAbove l (node k e cs) = text_cmp k l ≢ Less

-- what stays of a region when its levels before l are taken away
pub record Lowered (l : List ℕ) (c r : Plain) : Type 0 where
  pub reduced : IsReduced r
  pub not_false : r ≢ truth false
  pub not_above : NotAbove l r
  pub serves : (d : Plain) (bs : Branches) (t : Plain) → Simplifies (node l d bs) r t → Simplifies (node l d bs) c t

lowered : (n : ℕ) (l : List ℕ) (ls : List (List ℕ)) (c : Plain) (i : List ℕ) → later i ls < n → Among ls c → Fits c i → c ≢ truth false → (r : Plain) × Lowered l c r
lowered zero l ls c i small h x f = absurd (omega arith)
lowered (suc n) l ls (truth b) i small h x f = (truth b, record { reduced = tt; not_false = f; not_above = tt; serves = λ d bs t s. s })
lowered (suc n) l ls (node k e cs) i small h x f =
    go (text_cmp k l) refl (λ q. lowered n l ls (union_in cs e) k q (among_union cs ls e h.2 h.1) (union_fits cs k e e x.3 x.2) (union_not_false k e cs i x))
  where
    stays : text_cmp k l ≢ Less → (r : Plain) × Lowered l (node k e cs) r
    stays m = (node k e cs, record { reduced = fits_reduced (node k e cs) i x; not_false = f; not_above = m; serves = λ d bs t s. s })

    go : (o : Ordering) → text_cmp k l ≡ o → (later k ls < n → (r : Plain) × Lowered l (union_in cs e) r) → (r : Plain) × Lowered l (node k e cs) r
    go Less w ih =
        let p = later_less i k ls x.0 h.0 in
        let r = ih (omega (arith, p)) in
        (r.0, record { reduced = r.1.reduced; not_false = r.1.not_false; not_above = r.1.not_above; serves = λ d bs t s. above w (r.1.serves d bs t s) })
    go Equal w ih = stays (λ q. let p : Equal ≡ Less = sym w ∙ q in cc)
    go Greater w ih = stays (λ q. let p : Greater ≡ Less = sym w ∙ q in cc)

is_false : (c : Plain) → (c ≡ truth false) ⊎ (c ≢ truth false)
is_false (truth true) = inr (λ q. cc)
is_false (truth false) = inl refl
is_false (node k e cs) = inr (λ q. cc)

piece_result : (f c : Plain) → (c ≢ truth false → (t : Plain) × Simplifies f c t) → (o : Option Plain) × Piece f c o
piece_result f c s = go (is_false c)
  where
    go : (c ≡ truth false) ⊎ (c ≢ truth false) → (o : Option Plain) × Piece f c o
    go (inl q) = (None, subst (λ (z : Plain). Piece f z None) (sym q) outside)
    go (inr n) = let r = s n in (Some r.0, inside n r.1)

pieces_result : (l : List ℕ) (f c : Plain) (ks : List (List ℕ)) → ((k : List ℕ) → (o : Option Plain) × Piece (part_at l k f) (part_at l k c) o) → (rs : Results) × Pieces l f c ks rs
pieces_result l f c [] s = ([], no_piece)
pieces_result l f c (k ∷ ks) s = let p = s k in let ps = pieces_result l f c ks s in ((k, p.0) ∷ ps.0, piece p.1 ps.1)

-- one level, over what its pieces give
level_result : (n : ℕ) (l : List ℕ) (d : Plain) (bs : Branches) (r : Plain) → size (node l d bs) < suc n → IsReduced (node l d bs) → IsReduced r → r ≢ truth false → NotAbove l r
    → ((f c : Plain) → size f < n → IsReduced f → IsReduced c → c ≢ truth false → (t : Plain) × Simplifies f c t) → (t : Plain) × Simplifies (node l d bs) r t
level_result n l d bs (truth true) small x z f a ih = (node l d bs, anywhere)
level_result n l d bs (truth false) small x z f a ih = absurd (f refl)
level_result n l d bs (node k e cs) small x z f a ih =
    let c = seen_below l k e cs [] z a in
    let h = seen_here l d bs [] x in
    let top = top_smaller l d bs in
    let ps = pieces_result l (node l d bs) (node k e cs) (key_union (keys bs) (keys (branches_at l (node k e cs))))
    (λ v. piece_result (part_at l v (node l d bs)) (part_at l v (node k e cs)) (λ g.
    let p = size_pick (branches_at l (node l d bs)) (carries l) v (rest_at l (node l d bs)) in
    ih (part_at l v (node l d bs)) (part_at l v (node k e cs)) (omega (arith, p, top)) (fits_reduced (part_at l v (node l d bs)) l (seen_part l v (node l d bs) h))
    (fits_reduced (part_at l v (node k e cs)) l (seen_part l v (node k e cs) c)) g)) in
    let o = piece_result d (rest_at l (node k e cs)) (λ g. ih d (rest_at l (node k e cs)) (omega arith) (fits_reduced d l x.2) (fits_reduced (rest_at l (node k e cs)) l c.rest) g) in
    (settled_level l ps.0 o.0 d, by_pieces a ps.1 o.1)

some_result : (n : ℕ) (f c : Plain) → size f < n → IsReduced f → IsReduced c → c ≢ truth false → (t : Plain) × Simplifies f c t
some_result zero f c small x y m = absurd (omega arith)
some_result (suc n) (truth b) c small x y m = (truth b, at_truth)
some_result (suc n) (node l d bs) c small x y m =
    let r = lowered (suc (later [] (levels c []))) l (levels c []) c [] (omega arith) (among c []) y m in
    let s = level_result n l d bs r.0 small x r.1.reduced r.1.not_false r.1.not_above (some_result n) in
    (s.0, r.1.serves d bs s.0 s.1)

pub simplify_laws : SimplifyLaws
simplify_laws = record {
  reduced = λ f c t x y s. (good s [] [] x y).0;
  agrees = λ f c t x y s. (good s [] [] x y).1;
  one_result = λ f c s t x y. one x y;
  some_result = λ f c x y n. some_result (suc (size f)) f c (omega arith) x y n;
  everywhere = λ f t s. one s anywhere;
}
