-- One turn of the loop over keys, and its end, over plain data.
use Rattle.std.proofs.Common.{arith, ◌≡◌, ℕ, suc, ◌+◌, ◌<◌, List, [], ◌∷◌, length, drop, get_or, Bool, true, false, cond, refl, ap, sym, ◌∙◌, subst, Some, Less, Equal, Greater, Ordering}
use Rattle.std.proofs.lemmas.List.{drop_more}
use Rattle.ul_nodes.specs.Plain.{Plain, truth, node, Branches, done, branch, text_cmp, carries, carried_part, by_order, pick, holds_of}
use Rattle.ul_nodes.specs.Reduced.{IsReduced, Fits, FitsAll}
use Rattle.ul_nodes.specs.Apply.{size, same, outs, close, keys, key_union, rest_at, branches_at, part_at, first_of, apply_at, apply}
use Rattle.ul_nodes.specs.Keys.{key_view, keys_view, then_branches, top_of}
use Rattle.ul_nodes.specs.Rows.{stands, more_branches}
use Rattle.ul_nodes.specs.declared.level.Key.{Key}
use Rattle.ul_nodes.specs.declared.level.Key.TheVariants.{Literal}
use Rattle.ul_nodes.proofs.ForCallers.{cmp_equal, cmp_itself, fits_weaker, rest_reduced, then_then, stands_then}
use Rattle.ul_tree.proofs.Picks.{fits_pick, size_pick}
use Rattle.ul_tree.proofs.Applied.{applied, seen_node, top_smaller}

next_added : (g : List ℕ → Plain) (m : Bool) (k : List ℕ) (ks : List (List ℕ)) (d : Plain) (bs : Branches) (b : Bool)
    → then_branches (more_branches b bs k (g k)) (outs g m ks (stands m (more_branches b bs k (g k)) d)) ≡ then_branches bs (cond b (outs g m ks (stands m bs d)) (branch k (g k) (outs g m ks (carried_part m (g k) (stands m bs d)))))
next_added g m k ks d bs true = refl
next_added g m k ks d bs false =
    ap (λ z. then_branches (then_branches bs (branch k (g k) done)) (outs g m ks z)) (stands_then m bs k (g k) d)
    ∙ then_then bs k (g k) (outs g m ks (carried_part m (g k) (stands m bs d)))

-- one turn
pub step_kept : (g : List ℕ → Plain) (m : Bool) (bs cs : Branches) (d x : Plain) (k : List ℕ) (ks : List (List ℕ)) (whole : Branches) → x ≡ g k
    → cs ≡ more_branches (same x (stands m bs d)) bs k x → then_branches bs (outs g m (k ∷ ks) (stands m bs d)) ≡ whole → then_branches cs (outs g m ks (stands m cs d)) ≡ whole
step_kept g m bs cs d x k ks whole p q h =
    ap (λ z. then_branches z (outs g m ks (stands m z d))) q
    ∙ ap (λ z. then_branches (more_branches (same z (stands m bs d)) bs k z) (outs g m ks (stands m (more_branches (same z (stands m bs d)) bs k z) d))) p
    ∙ next_added g m k ks d bs (same (g k) (stands m bs d)) ∙ h

-- what is read past the end of keys
abbrev pub no_key : Key
no_key = Literal (record { ref_ptr = (0, 0); now = [] })

pub keys_left : (items : List Key) (i : ℕ) (d : Key) → i < length items → keys_view (drop i items) ≡ key_view (get_or items i d) ∷ keys_view (drop (i + 1) items)
keys_left items i d h = ap keys_view (drop_more items i d h)

-- the end
pub applied_is : (op : Bool → Bool → Bool) (n : ℕ) (a b : Plain) (l : List ℕ) (t other : Plain) (bs : Branches) (ks : List (List ℕ)) → Some l ≡ first_of a b → other ≡ apply op n (rest_at l a) (rest_at l b)
    → ks ≡ key_union (keys (branches_at l a)) (keys (branches_at l b)) → bs ≡ outs (λ v. apply op n (part_at l v a) (part_at l v b)) (carries l) ks other → t ≡ close l other bs → t ≡ apply op (suc n) a b
applied_is op n a b l t other bs ks first end whole made is =
    is ∙ ap (close l other) made
    ∙ ap (λ z. close l z (outs (λ v. apply op n (part_at l v a) (part_at l v b)) (carries l) ks z)) end
    ∙ ap (λ z. close l (apply op n (rest_at l a) (rest_at l b)) (outs (λ v. apply op n (part_at l v a) (part_at l v b)) (carries l) z (apply op n (rest_at l a) (rest_at l b)))) whole
    ∙ ap (λ z. apply_at op (apply op n) z a b) first

-- ---- parts of a reduced tree are reduced

pub rest_at_reduced : (l : List ℕ) (t : Plain) → IsReduced t → IsReduced (rest_at l t)
rest_at_reduced l (truth b) h = tt
rest_at_reduced l (node k d bs) h = go (text_cmp l k) h (rest_reduced (node k d bs) h)
  where
    go : (o : Ordering) → IsReduced (node k d bs) → IsReduced d → IsReduced (by_order o (node k d bs) d (node k d bs))
    go Less x y = x
    go Equal x y = y
    go Greater x y = x

pub part_at_reduced : (l v : List ℕ) (t : Plain) → IsReduced t → IsReduced (part_at l v t)
part_at_reduced l v (truth b) h = tt
part_at_reduced l v (node k d bs) h = go (text_cmp l k) refl
  where
    go : (o : Ordering) → text_cmp l k ≡ o → IsReduced (pick (by_order o done bs done) (carries l) v (by_order o (node k d bs) d (node k d bs)))
    go Less e = h
    go Equal e =
        let q = sym (cmp_equal l k e) in
        fits_weaker (pick bs (carries l) v d) l [] (subst (λ (i : List ℕ). text_cmp [] i ≡ Less) q h.0)
        (fits_pick bs l v d (subst (λ (i : List ℕ). Fits d i) q h.2) (subst (λ (i : List ℕ). FitsAll bs i d) q h.3))
    go Greater e = h

pub closed_reduced : (op : Bool → Bool → Bool) (n : ℕ) (a b : Plain) (l : List ℕ) (other : Plain) (bs : Branches) (ks : List (List ℕ)) → size a + size b < suc n → IsReduced a → IsReduced b → Some l ≡ first_of a b
    → other ≡ apply op n (rest_at l a) (rest_at l b) → ks ≡ key_union (keys (branches_at l a)) (keys (branches_at l b))
    → bs ≡ outs (λ v. apply op n (part_at l v a) (part_at l v b)) (carries l) ks other → IsReduced (close l other bs)
closed_reduced op n a b l other bs ks small x y first end whole made =
    subst (λ (z : Plain). IsReduced z) (sym (applied_is op n a b l (close l other bs) other bs ks first end whole made refl)) (applied op (suc n) a b [] small x y).0

-- ---- going down a tree by its top level

pub part_smaller : (l v : List ℕ) (t : Plain) → Some l ≡ top_of t → size (part_at l v t) < size t
part_smaller l v (truth b) e = cc
part_smaller l v (node k d bs) e =
    let s : k ≡ l = cc in
    let p = size_pick (branches_at k (node k d bs)) (carries k) v (rest_at k (node k d bs)) in
    let q = top_smaller k d bs in
    let r : size (part_at k v (node k d bs)) < size (node k d bs) = omega (arith, p, q) in
    subst (λ (i : List ℕ). size (part_at i v (node k d bs)) < size (node k d bs)) s r

pub part_holds : (l : List ℕ) (t : Plain) (f : List ℕ → List ℕ) → IsReduced t → Some l ≡ top_of t → holds_of (part_at l (f l) t) f ≡ holds_of t f
part_holds l (truth b) f h e = cc
part_holds l (node k d bs) f h e =
    let s : k ≡ l = cc in
    let r : holds_of (part_at k (f k) (node k d bs)) f ≡ holds_of (node k d bs) f = sym ((seen_node k k d bs [] h (λ q. let p = cmp_itself k in let g : Equal ≡ Greater = sym p ∙ q in cc)).truths f) in
    subst (λ (i : List ℕ). holds_of (part_at i (f i) (node k d bs)) f ≡ holds_of (node k d bs) f) s r
