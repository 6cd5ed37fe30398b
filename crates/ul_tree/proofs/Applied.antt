-- A tree made of two has their truths joined, and is reduced.
use Rattle.std.proofs.Common.{◌≡◌, ◌≢◌, ℕ, suc, zero, ◌+◌, ◌≤◌, ◌<◌, List, Bool, refl, ap, sym, ◌∙◌, subst, arith, Less, Equal, Greater, Ordering, Some, None}
use Rattle.ul_nodes.specs.Plain.{Plain, truth, node, Branches, done, text_cmp, carries, by_order, pick, holds_of, holds_in}
use Rattle.ul_nodes.specs.Reduced.{Fits, FitsAll}
use Rattle.ul_nodes.specs.Apply.{outs, keys, key_union, rest_at, branches_at, part_at, apply_at, apply, size, sizes}
use Rattle.ul_nodes.proofs.ForCallers.{cmp_itself, cmp_equal, cmp_over, Rise, part_among, among_both, outs_pick, outs_fit, pick_among, within_left, within_right, rise_merged, rise_keys, close_fits, close_holds}
use Rattle.ul_tree.proofs.Picks.{holds_pick, size_pick, fits_pick}
use Rattle.ul_tree.proofs.Unique.{from_nothing}

-- what a tree is from a level at or above its first
pub record Seen (l : List ℕ) (t : Plain) : Type 0 where
  pub rest : Fits (rest_at l t) l
  pub branches : FitsAll (branches_at l t) l (rest_at l t)
  pub truths : (f : List ℕ → List ℕ) → holds_of t f ≡ holds_of (part_at l (f l) t) f
  pub small : size (rest_at l t) + sizes (branches_at l t) ≤ size t

pub seen_truth : (l : List ℕ) (b : Bool) → Seen l (truth b)
seen_truth l b = record { rest = tt; branches = tt; truths = λ f. refl; small = omega arith }

pub seen_node : (l k : List ℕ) (d : Plain) (bs : Branches) (b : List ℕ) → Fits (node k d bs) b → text_cmp l k ≢ Greater → Seen l (node k d bs)
seen_node l k d bs b h n =
    let p = go (text_cmp l k) refl n in
    record { rest = p.0; branches = p.1; truths = p.2; small = p.3 }
  where
    go : (o : Ordering) → text_cmp l k ≡ o → o ≢ Greater
        → Fits (by_order o (node k d bs) d (node k d bs)) l × FitsAll (by_order o done bs done) l (by_order o (node k d bs) d (node k d bs))
        × ((f : List ℕ → List ℕ) → holds_of (node k d bs) f ≡ holds_of (pick (by_order o done bs done) (carries l) (f l) (by_order o (node k d bs) d (node k d bs))) f)
        × (size (by_order o (node k d bs) d (node k d bs)) + sizes (by_order o done bs done) ≤ size (node k d bs))
    go Less e m = ((e, h.1, h.2, h.3), tt, (λ f. refl), omega arith)
    go Equal e m =
        let q = sym (cmp_equal l k e) in (
          subst (λ (i : List ℕ). Fits d i) q h.2,
          subst (λ (i : List ℕ). FitsAll bs i d) q h.3,
          (λ f. ap (λ i. holds_in bs (carries i) (f i) (holds_of d f) f) q ∙ sym (holds_pick bs (carries l) (f l) d f)),
          omega arith,
        )
    go Greater e m = absurd (m refl)

pub top_smaller : (l : List ℕ) (d : Plain) (bs : Branches) → size (rest_at l (node l d bs)) + sizes (branches_at l (node l d bs)) < size (node l d bs)
top_smaller l d bs = subst (λ (o : Ordering). size (by_order o (node l d bs) d (node l d bs)) + sizes (by_order o done bs done) < size (node l d bs)) (sym (cmp_itself l)) (omega arith)

abbrev pub Joins : (Bool → Bool → Bool) → Plain → Plain → List ℕ → Plain → Type 0
Joins op a b l t = Fits t l × ((f : List ℕ → List ℕ) → holds_of t f ≡ op (holds_of a f) (holds_of b f))

-- one level
pub joined : (op : Bool → Bool → Bool) (rec : Plain → Plain → Plain) (l : List ℕ) (a b : Plain) (e : List ℕ) (n : ℕ) → text_cmp e l ≡ Less → Seen l a → Seen l b
    → (size (rest_at l a) + sizes (branches_at l a)) + (size (rest_at l b) + sizes (branches_at l b)) < n
    → ((x y : Plain) → size x + size y < n → Fits x l → Fits y l → Joins op x y l (rec x y)) → Joins op a b e (apply_at op rec (Some l) a b)
joined op rec l a b e n after sa sb small ih = (
  close_fits l e (rec (rest_at l a) (rest_at l b)) (outs g m ks (rec (rest_at l a) (rest_at l b))) after (ih (rest_at l a) (rest_at l b) (omega arith) sa.rest sb.rest).0
      (outs_fit g l ks None (rec (rest_at l a) (rest_at l b)) rise (λ v. (parts v).0)),
  (λ f. close_holds l (rec (rest_at l a) (rest_at l b)) (outs g m ks (rec (rest_at l a) (rest_at l b))) f
      ∙ sym (holds_pick (outs g m ks (rec (rest_at l a) (rest_at l b))) m (f l) (rec (rest_at l a) (rest_at l b)) f)
      ∙ ap (λ z. holds_of z f) (outs_pick g m l ks None (f l) (rec (rest_at l a) (rest_at l b)) rise
      ∙ among_both rec (λ v. part_at l v a) (λ v. part_at l v b) m ks (f l) (rest_at l a) (rest_at l b)
      ∙ ap (λ z. rec z (part_among (λ v. part_at l v b) m ks (f l) (rest_at l b))) (sym (pick_among m l ks (branches_at l a) None (f l) (rest_at l a) rise (within_left (branches_at l a) (keys (branches_at l b)))))
      ∙ ap (rec (part_at l (f l) a)) (sym (pick_among m l ks (branches_at l b) None (f l) (rest_at l b) rise (within_right (keys (branches_at l a)) (branches_at l b)))))
      ∙ (parts (f l)).1 f
      ∙ ap (λ z. op z (holds_of (part_at l (f l) b) f)) (sym (sa.truths f))
      ∙ ap (op (holds_of a f)) (sym (sb.truths f))),
)
  where
    m : Bool
    m = carries l

    ks : List (List ℕ)
    ks = key_union (keys (branches_at l a)) (keys (branches_at l b))

    g : List ℕ → Plain
    g v = rec (part_at l v a) (part_at l v b)

    rise : Rise l None (key_union (keys (branches_at l a)) (keys (branches_at l b)))
    rise = rise_merged l (keys (branches_at l a)) None (rise_keys (branches_at l a) l None (rest_at l a) sa.branches (from_nothing (branches_at l a)))
        (keys (branches_at l b)) (rise_keys (branches_at l b) l None (rest_at l b) sb.branches (from_nothing (branches_at l b)))

    parts : (v : List ℕ) → Joins op (part_at l v a) (part_at l v b) l (rec (part_at l v a) (part_at l v b))
    parts v =
        let p = size_pick (branches_at l a) (carries l) v (rest_at l a) in
        let q = size_pick (branches_at l b) (carries l) v (rest_at l b) in
        ih (part_at l v a) (part_at l v b) (omega (arith, p, q)) (fits_pick (branches_at l a) l v (rest_at l a) sa.rest sa.branches) (fits_pick (branches_at l b) l v (rest_at l b) sb.rest sb.branches)

not_over : (l k : List ℕ) (o : Ordering) → text_cmp l k ≡ o → o ≢ Greater → text_cmp l k ≢ Greater
not_over l k o e n = λ q. n (sym e ∙ q)

itself_not_over : (l : List ℕ) → text_cmp l l ≢ Greater
itself_not_over l = λ q. let p = cmp_itself l in cc

pub applied : (op : Bool → Bool → Bool) (n : ℕ) (a b : Plain) (e : List ℕ) → size a + size b < n → Fits a e → Fits b e → Joins op a b e (apply op n a b)
applied op zero a b e small x y = absurd (omega arith)
applied op (suc n) (truth u) (truth v) e small x y = (tt, λ f. refl)
applied op (suc n) (node l d bs) (truth v) e small x y =
    let s = top_smaller l d bs in
    joined op (apply op n) l (node l d bs) (truth v) e n x.0 (seen_node l l d bs e x (itself_not_over l)) (seen_truth l v) (omega (arith, s)) (λ p q h i j. applied op n p q l h i j)
applied op (suc n) (truth u) (node k c cs) e small x y =
    let s = top_smaller k c cs in
    joined op (apply op n) k (truth u) (node k c cs) e n y.0 (seen_truth k u) (seen_node k k c cs e y (itself_not_over k)) (omega (arith, s)) (λ p q h i j. applied op n p q k h i j)
applied op (suc n) (node l d bs) (node k c cs) e small x y = go (text_cmp l k) refl (λ i p q h. applied op n p q i h)
  where
    go : (o : Ordering) → text_cmp l k ≡ o → ((i : List ℕ) (p q : Plain) → size p + size q < n → Fits p i → Fits q i → Joins op p q i (apply op n p q))
        → Joins op (node l d bs) (node k c cs) e (apply_at op (apply op n) (Some (by_order o l l k)) (node l d bs) (node k c cs))
    go Less w ih =
        let s = top_smaller l d bs in
        let sb = seen_node l k c cs e y (not_over l k Less w (λ q. cc)) in
        let t = sb.small in
        joined op (apply op n) l (node l d bs) (node k c cs) e n x.0 (seen_node l l d bs e x (itself_not_over l)) sb (omega (arith, s, t)) (ih l)
    go Equal w ih =
        let s = top_smaller l d bs in
        let sb = seen_node l k c cs e y (not_over l k Equal w (λ q. cc)) in
        let t = sb.small in
        joined op (apply op n) l (node l d bs) (node k c cs) e n x.0 (seen_node l l d bs e x (itself_not_over l)) sb (omega (arith, s, t)) (ih l)
    go Greater w ih =
        let v = cmp_over l k w in
        let s = top_smaller k c cs in
        let sa = seen_node k l d bs e x (not_over k l Less v (λ q. cc)) in
        let t = sa.small in
        joined op (apply op n) k (node l d bs) (node k c cs) e n y.0 sa (seen_node k k c cs e y (itself_not_over k)) (omega (arith, s, t)) (ih k)
