-- A level put together from the results of its pieces is reduced, and has the truth of each piece where the region
-- holds.
use Rattle.std.proofs.Common.{◌≡◌, ℕ, List, [], ◌∷◌, Bool, true, false, refl, ap, sym, ◌∙◌, Less, Equal, Greater, Ordering, Option, Some, None, ◌⊎◌, inl, inr, cond, subst}
use Rattle.ul_nodes.specs.Plain.{Plain, truth, node, Branches, done, branch, text_cmp, carries, carried_part, by_order, pick, holds_of}
use Rattle.ul_nodes.specs.Reduced.{Fits, FitsAll, StartsAfter}
use Rattle.ul_nodes.specs.Apply.{same, keys, key_union, rest_at, branches_at, part_at, reduced_branches}
use Rattle.ul_nodes.specs.Rows.{Results, own_or, first_result, last_result, earliest, latest}
use Rattle.ul_tree.specs.Simplify.{filled_results, settled_level}
use Rattle.ul_tree.specs.SimplifyViews.{ResultFits, ResultsFit, PartsFit}
use Rattle.ul_nodes.proofs.ForCallers.{cmp_itself, cmp_equal, cmp_trans, same_true, same_false, Rise, part_among, pick_among, starts_weaker, within_left, within_right, rise_merged, rise_keys, close_fits, close_holds}
use Rattle.ul_tree.proofs.Picks.{holds_pick}
use Rattle.ul_tree.proofs.Unique.{from_nothing}
use Rattle.ul_tree.proofs.Applied.{Seen}

-- z has the truth of x wherever y holds
abbrev pub Serves : Plain → Plain → Plain → Type 0
Serves z x y = (f : List ℕ → List ℕ) → holds_of y f ≡ true → holds_of z f ≡ holds_of x f

abbrev pub Good : Plain → Plain → Plain → List ℕ → Type 0
Good t f c e = Fits t e × Serves t f c

abbrev pub GoodPiece : Option Plain → Plain → Plain → List ℕ → Type 0
GoodPiece None f c l = c ≡ truth false
GoodPiece (Some t) f c l = Good t f c l

abbrev pub GoodPieces : List ℕ → Plain → Plain → Results → Type 0
GoodPieces l f c [] = Unit {0}
GoodPieces l f c (r ∷ rs) = GoodPiece r.1 (part_at l r.0 f) (part_at l r.0 c) l × GoodPieces l f c rs

abbrev pub heads : {A : Type 0} → List (List ℕ × A) → List (List ℕ)
heads [] = []
heads (p ∷ ps) = p.0 ∷ heads ps

-- the part among keys with their parts, before what says the same is left out
abbrev row : Bool → List (List ℕ × Plain) → List ℕ → Plain → Plain
row m [] v d = d
row m (p ∷ ps) v d = by_order (text_cmp v p.0) d p.1 (row m ps v (carried_part m p.1 d))

row_before : (m : Bool) (l : List ℕ) (ps : List (List ℕ × Plain)) (v k : List ℕ) (d : Plain) → Rise l (Some k) (heads ps) → (text_cmp v k ≡ Less) ⊎ (v ≡ k) → row m ps v d ≡ d
row_before m l [] v k d h x = refl
row_before m l (p ∷ ps) v k d h (inl e) = ap (λ o. by_order o d p.1 (row m ps v (carried_part m p.1 d))) (cmp_trans v k p.0 e h.0)
row_before m l (p ∷ ps) v k d h (inr e) = ap (λ o. by_order o d p.1 (row m ps v (carried_part m p.1 d))) (ap (λ z. text_cmp z p.0) e ∙ h.0)

carried_same : (m : Bool) (d : Plain) → carried_part m d d ≡ d
carried_same true d = refl
carried_same false d = refl

branches_pick : (m : Bool) (l : List ℕ) (ps : List (List ℕ × Plain)) (b : Option (List ℕ)) (v : List ℕ) (d : Plain) → Rise l b (heads ps) → pick (reduced_branches m ps d) m v d ≡ row m ps v d
branches_pick m l [] b v d r = refl
branches_pick m l (p ∷ ps) b v d r = go (same p.1 d) refl (branches_pick m l ps (Some p.0) v d r.2) (branches_pick m l ps (Some p.0) v (carried_part m p.1 d) r.2)
  where
    split : (o : Ordering) → text_cmp v p.0 ≡ o → row m ps v d ≡ by_order o d d (row m ps v d)
    split Less e = row_before m l ps v p.0 d r.2 (inl e)
    split Equal e = row_before m l ps v p.0 d r.2 (inr (cmp_equal v p.0 e))
    split Greater e = refl

    go : (t : Bool) → same p.1 d ≡ t → pick (reduced_branches m ps d) m v d ≡ row m ps v d → pick (reduced_branches m ps (carried_part m p.1 d)) m v (carried_part m p.1 d) ≡ row m ps v (carried_part m p.1 d)
        → pick (cond t (reduced_branches m ps d) (branch p.0 p.1 (reduced_branches m ps (carried_part m p.1 d)))) m v d ≡ by_order (text_cmp v p.0) d p.1 (row m ps v (carried_part m p.1 d))
    go true e x y =
        let q = same_true p.1 d e in
        x ∙ split (text_cmp v p.0) refl ∙ ap (λ z. by_order (text_cmp v p.0) d d (row m ps v z)) (sym (carried_same m d)) ∙ sym (ap (λ z. by_order (text_cmp v p.0) d z (row m ps v (carried_part m z d))) q)
    go false e x y = ap (by_order (text_cmp v p.0) d p.1) y

branches_start : (m : Bool) (l : List ℕ) (ps : List (List ℕ × Plain)) (b : Option (List ℕ)) (d : Plain) → Rise l b (heads ps) → StartsAfter b (reduced_branches m ps d)
branches_start m l [] b d r = tt
branches_start m l (p ∷ ps) b d r = go (same p.1 d) (branches_start m l ps (Some p.0) d r.2)
  where
    go : (t : Bool) → StartsAfter (Some p.0) (reduced_branches m ps d) → StartsAfter b (cond t (reduced_branches m ps d) (branch p.0 p.1 (reduced_branches m ps (carried_part m p.1 d))))
    go true x = starts_weaker (reduced_branches m ps d) b p.0 r.0 x
    go false x = r.0

branches_fit : (l : List ℕ) (ps : List (List ℕ × Plain)) (b : Option (List ℕ)) (d : Plain) → Rise l b (heads ps) → PartsFit ps l → FitsAll (reduced_branches (carries l) ps d) l d
branches_fit l [] b d r f = tt
branches_fit l (p ∷ ps) b d r f = go (same p.1 d) refl (branches_fit l ps (Some p.0) d r.2 f.1) (branches_fit l ps (Some p.0) (carried_part (carries l) p.1 d) r.2 f.1)
  where
    go : (t : Bool) → same p.1 d ≡ t → FitsAll (reduced_branches (carries l) ps d) l d → FitsAll (reduced_branches (carries l) ps (carried_part (carries l) p.1 d)) l (carried_part (carries l) p.1 d)
        → FitsAll (cond t (reduced_branches (carries l) ps d) (branch p.0 p.1 (reduced_branches (carries l) ps (carried_part (carries l) p.1 d)))) l d
    go true e x y = x
    go false e x y = (r.1, branches_start (carries l) l ps (Some p.0) (carried_part (carries l) p.1 d) r.2, f.0, same_false p.1 d e, y)

-- what the results of pieces become is reduced
pub own_fits : (o : Option Plain) (z : Plain) (l : List ℕ) → ResultFits o l → Fits z l → Fits (own_or o z) l
own_fits None z l x y = y
own_fits (Some w) z l x y = x

first_fits : (rs : Results) (l : List ℕ) (z : Plain) → ResultsFit rs l → Fits z l → Fits (first_result rs z) l
first_fits [] l z h x = x
first_fits (r ∷ rs) l z h x = own_fits r.1 (first_result rs z) l h.0 (first_fits rs l z h.1 x)

last_fits : (rs : Results) (l : List ℕ) (z : Plain) → ResultsFit rs l → Fits z l → Fits (last_result rs z) l
last_fits [] l z h x = x
last_fits (r ∷ rs) l z h x = last_fits rs l (own_or r.1 z) h.1 (own_fits r.1 z l h.0 x)

pub earliest_fits : (m : Bool) (rs : Results) (o : Option Plain) (l : List ℕ) (z : Plain) → ResultsFit rs l → ResultFits o l → Fits z l → Fits (earliest m rs o z) l
earliest_fits true rs o l z h d x = own_fits o (first_result rs z) l d (first_fits rs l z h x)
earliest_fits false rs o l z h d x = first_fits rs l (own_or o z) h (own_fits o z l d x)

pub latest_fits : (m : Bool) (rs : Results) (l : List ℕ) (z : Plain) → ResultsFit rs l → Fits z l → Fits (latest m rs z) l
latest_fits true rs l z h x = x
latest_fits false rs l z h x = last_fits rs l z h x

pub filled_fit : (rs : Results) (l : List ℕ) (z : Plain) → ResultsFit rs l → Fits z l → PartsFit (filled_results rs z) l
filled_fit [] l z h x = tt
filled_fit (r ∷ rs) l z h x = let y = own_fits r.1 z l h.0 x in (y, filled_fit rs l (own_or r.1 z) h.1 y)

filled_rise : (rs : Results) (l : List ℕ) (b : Option (List ℕ)) (z : Plain) → Rise l b (heads rs) → Rise l b (heads (filled_results rs z))
filled_rise [] l b z h = tt
filled_rise (r ∷ rs) l b z h = (h.0, h.1, filled_rise rs l (Some r.0) (own_or r.1 z) h.2)

pub piece_fits : (o : Option Plain) (f c : Plain) (l : List ℕ) → GoodPiece o f c l → ResultFits o l
piece_fits None f c l g = tt
piece_fits (Some t) f c l g = g.0

pub pieces_fit : (rs : Results) (l : List ℕ) (f c : Plain) → GoodPieces l f c rs → ResultsFit rs l
pieces_fit [] l f c g = tt
pieces_fit (r ∷ rs) l f c g = (piece_fits r.1 (part_at l r.0 f) (part_at l r.0 c) l g.0, pieces_fit rs l f c g.1)

-- and has the truth that is asked for
serves_carried : (m : Bool) (a b c p q r : Plain) → Serves a b c → Serves p q r → Serves (carried_part m a p) (carried_part m b q) (carried_part m c r)
serves_carried true a b c p q r x y = x
serves_carried false a b c p q r x y = y

piece_serves : (o : Option Plain) (f c : Plain) (l : List ℕ) (z : Plain) → GoodPiece o f c l → Serves (own_or o z) f c
piece_serves None f c l z g = λ v h. let p : false ≡ true = sym (ap (λ y. holds_of y v) g) ∙ h in cc
piece_serves (Some t) f c l z g = g.1

row_serves : (l : List ℕ) (f c : Plain) (m : Bool) (rs : Results) (v : List ℕ) (z d x y : Plain) → GoodPieces l f c rs → Serves d x y
    → Serves (row m (filled_results rs z) v d) (part_among (λ k. part_at l k f) m (heads rs) v x) (part_among (λ k. part_at l k c) m (heads rs) v y)
row_serves l f c m [] v z d x y g s = s
row_serves l f c m (r ∷ rs) v z d x y g s =
    go (text_cmp v r.0) (row_serves l f c m rs v t (carried_part m t d) (carried_part m (part_at l r.0 f) x) (carried_part m (part_at l r.0 c) y) g.1 (serves_carried m t (part_at l r.0 f) (part_at l r.0 c) d x y own s))
  where
    t : Plain
    t = own_or r.1 z

    own : Serves (own_or r.1 z) (part_at l r.0 f) (part_at l r.0 c)
    own = piece_serves r.1 (part_at l r.0 f) (part_at l r.0 c) l z g.0

    go : (o : Ordering) → Serves (row m (filled_results rs t) v (carried_part m t d)) (part_among (λ k. part_at l k f) m (heads rs) v (carried_part m (part_at l r.0 f) x)) (part_among (λ k. part_at l k c) m (heads rs) v (carried_part m (part_at l r.0 c) y))
        → Serves (by_order o d t (row m (filled_results rs t) v (carried_part m t d))) (by_order o x (part_at l r.0 f) (part_among (λ k. part_at l k f) m (heads rs) v (carried_part m (part_at l r.0 f) x)))
        (by_order o y (part_at l r.0 c) (part_among (λ k. part_at l k c) m (heads rs) v (carried_part m (part_at l r.0 c) y)))
    go Less i = s
    go Equal i = own
    go Greater i = i

-- one level, over what its pieces give
pub settled_good : (l e : List ℕ) (d c : Plain) (bs : Branches) (rs : Results) (o : Option Plain) → Fits (node l d bs) e → Seen l c → heads rs ≡ key_union (keys bs) (keys (branches_at l c))
    → GoodPieces l (node l d bs) c rs → GoodPiece o d (rest_at l c) l → Good (settled_level l rs o d) (node l d bs) c e
settled_good l e d c bs rs o h seen whole each last = (
  close_fits l e D (reduced_branches m ps D) h.0 D_fits (branches_fit l ps None D ps_rise (filled_fit rs l z rs_fit z_fits)),
  (λ v p. close_holds l D (reduced_branches m ps D) v
      ∙ sym (holds_pick (reduced_branches m ps D) m (v l) D v)
      ∙ ap (λ x. holds_of x v) (branches_pick m l ps None (v l) D ps_rise)
      ∙ row_serves l (node l d bs) c m rs (v l) z D d (rest_at l c) each (piece_serves o d (rest_at l c) l (latest (carries l) rs z) last) v
      (ap (λ x. holds_of x v) (ap (λ ks. part_among (λ k. part_at l k c) m ks (v l) (rest_at l c)) whole ∙ sym (pick_among m l ks (branches_at l c) None (v l) (rest_at l c) rise (within_right (keys bs) (branches_at l c)))) ∙ sym (seen.truths v) ∙ p)
      ∙ ap (λ x. holds_of x v) (ap (λ ks. part_among (λ k. part_at l k (node l d bs)) m ks (v l) d) whole
      ∙ ap (λ o. part_among (λ k. pick (by_order o done bs done) m k (by_order o (node l d bs) d (node l d bs))) m ks (v l) d) (cmp_itself l)
      ∙ sym (pick_among m l ks bs None (v l) d rise (within_left bs (keys (branches_at l c)))))
      ∙ holds_pick bs m (v l) d v),
)
  where
    m : Bool
    m = carries l

    ks : List (List ℕ)
    ks = key_union (keys bs) (keys (branches_at l c))

    z : Plain
    z = earliest (carries l) rs o d

    ps : List (List ℕ × Plain)
    ps = filled_results rs (earliest (carries l) rs o d)

    D : Plain
    D = own_or o (latest (carries l) rs (earliest (carries l) rs o d))

    rise : Rise l None (key_union (keys bs) (keys (branches_at l c)))
    rise = rise_merged l (keys bs) None (rise_keys bs l None d h.3 (from_nothing bs)) (keys (branches_at l c)) (rise_keys (branches_at l c) l None (rest_at l c) seen.branches (from_nothing (branches_at l c)))

    ps_rise : Rise l None (heads (filled_results rs (earliest (carries l) rs o d)))
    ps_rise = filled_rise rs l None (earliest (carries l) rs o d) (subst (λ (z : List (List ℕ)). Rise l None z) (sym whole) rise)

    rs_fit : ResultsFit rs l
    rs_fit = pieces_fit rs l (node l d bs) c each

    o_fits : ResultFits o l
    o_fits = piece_fits o d (rest_at l c) l last

    z_fits : Fits (earliest (carries l) rs o d) l
    z_fits = earliest_fits (carries l) rs o l d rs_fit o_fits h.2

    D_fits : Fits (own_or o (latest (carries l) rs (earliest (carries l) rs o d))) l
    D_fits = own_fits o (latest (carries l) rs (earliest (carries l) rs o d)) l o_fits (latest_fits (carries l) rs l (earliest (carries l) rs o d) rs_fit z_fits)
