-- The part that a value takes among keys in order, before what says the same twice is left out.
use Rattle.std.proofs.Common.{◌≡◌, ℕ, List, [], ◌∷◌, Bool, true, false, refl, ap, sym, ◌∙◌, subst, Less, Equal, Greater, Ordering, Option, Some, ◌⊎◌, inl, inr, cond}
use Rattle.ul_nodes.specs.Plain.{Plain, truth, node, Branches, done, branch, text_cmp, carries, carried_part, by_order, pick, holds_of, holds_in}
use Rattle.ul_nodes.specs.Reduced.{Fits, FitsAll, IsAfter, StartsAfter}
use Rattle.ul_nodes.specs.Levels.{IsKey}
use Rattle.ul_nodes.specs.Apply.{same, outs, close, keys, key_union, merged_with}
use Rattle.ul_nodes.proofs.Order.{cmp_equal, cmp_over, cmp_trans}
use Rattle.ul_nodes.proofs.Branchwise.{at_key, before_key, past_key, after}
use Rattle.ul_nodes.proofs.Sameness.{same_true, same_false}

-- keys of a level, in order, after one
abbrev pub Rise : List ℕ → Option (List ℕ) → List (List ℕ) → Type 0
Rise l b [] = Unit {0}
Rise l b (k ∷ ks) = IsAfter b k × IsKey l k × Rise l (Some k) ks

abbrev pub part_among : (List ℕ → Plain) → Bool → List (List ℕ) → List ℕ → Plain → Plain
part_among g m [] v d = d
part_among g m (k ∷ ks) v d = by_order (text_cmp v k) d (g k) (part_among g m ks v (carried_part m (g k) d))

carried_same : {A : Type 0} (m : Bool) (d : A) → carried_part m d d ≡ d
carried_same true d = refl
carried_same false d = refl

pub among_before : (g : List ℕ → Plain) (m : Bool) (l : List ℕ) (ks : List (List ℕ)) (v k : List ℕ) (d : Plain) → Rise l (Some k) ks → (text_cmp v k ≡ Less) ⊎ (v ≡ k) → part_among g m ks v d ≡ d
among_before g m l [] v k d h x = refl
among_before g m l (j ∷ ks) v k d h (inl e) = ap (λ o. by_order o d (g j) (part_among g m ks v (carried_part m (g j) d))) (cmp_trans v k j e h.0)
among_before g m l (j ∷ ks) v k d h (inr e) = ap (λ o. by_order o d (g j) (part_among g m ks v (carried_part m (g j) d))) (ap (λ z. text_cmp z j) e ∙ h.0)

pub among_alike : (g h : List ℕ → Plain) (m : Bool) (l : List ℕ) (ks : List (List ℕ)) (b : Option (List ℕ)) (v : List ℕ) (d : Plain) → Rise l b ks → ((k : List ℕ) → IsAfter b k → g k ≡ h k) → part_among g m ks v d ≡ part_among h m ks v d
among_alike g h m l [] b v d r e = refl
among_alike g h m l (k ∷ ks) b v d r e =
    ap (λ z. by_order (text_cmp v k) d z (part_among g m ks v (carried_part m z d))) (e k r.0)
    ∙ ap (by_order (text_cmp v k) d (h k)) (among_alike g h m l ks (Some k) v (carried_part m (h k) d) r.2 (λ j a. e j (after b k j r.0 a)))

pub among_const : (g : List ℕ → Plain) (m : Bool) (ks : List (List ℕ)) (v : List ℕ) (d : Plain) → ((k : List ℕ) → g k ≡ d) → part_among g m ks v d ≡ d
among_const g m [] v d e = refl
among_const g m (k ∷ ks) v d e =
    ap (λ z. by_order (text_cmp v k) d z (part_among g m ks v (carried_part m z d))) (e k)
    ∙ ap (λ z. by_order (text_cmp v k) d d (part_among g m ks v z)) (carried_same m d)
    ∙ ap (by_order (text_cmp v k) d d) (among_const g m ks v d e)
    ∙ flat (text_cmp v k)
  where
    flat : (o : Ordering) → by_order o d d d ≡ d
    flat Less = refl
    flat Equal = refl
    flat Greater = refl

-- two such parts at once
pub among_both : (f : Plain → Plain → Plain) (g h : List ℕ → Plain) (m : Bool) (ks : List (List ℕ)) (v : List ℕ) (d e : Plain)
    → part_among (λ k. f (g k) (h k)) m ks v (f d e) ≡ f (part_among g m ks v d) (part_among h m ks v e)
among_both f g h m [] v d e = refl
among_both f g h m (k ∷ ks) v d e =
    ap (λ z. by_order (text_cmp v k) (f d e) (f (g k) (h k)) (part_among (λ j. f (g j) (h j)) m ks v z)) (step m)
    ∙ ap (by_order (text_cmp v k) (f d e) (f (g k) (h k))) (among_both f g h m ks v (carried_part m (g k) d) (carried_part m (h k) e))
    ∙ go (text_cmp v k) _ _
  where
    step : (m : Bool) → carried_part m (f (g k) (h k)) (f d e) ≡ f (carried_part m (g k) d) (carried_part m (h k) e)
    step true = refl
    step false = refl

    go : (o : Ordering) (x y : Plain) → by_order o (f d e) (f (g k) (h k)) (f x y) ≡ f (by_order o d (g k) x) (by_order o e (h k) y)
    go Less x y = refl
    go Equal x y = refl
    go Greater x y = refl

pub outs_pick : (g : List ℕ → Plain) (m : Bool) (l : List ℕ) (ks : List (List ℕ)) (b : Option (List ℕ)) (v : List ℕ) (d : Plain) → Rise l b ks → pick (outs g m ks d) m v d ≡ part_among g m ks v d
outs_pick g m l [] b v d r = refl
outs_pick g m l (k ∷ ks) b v d r = go (same (g k) d) refl (outs_pick g m l ks (Some k) v d r.2) (outs_pick g m l ks (Some k) v (carried_part m (g k) d) r.2)
  where
    split : (o : Ordering) → text_cmp v k ≡ o → part_among g m ks v d ≡ by_order o d d (part_among g m ks v d)
    split Less e = among_before g m l ks v k d r.2 (inl e)
    split Equal e = among_before g m l ks v k d r.2 (inr (cmp_equal v k e))
    split Greater e = refl

    go : (t : Bool) → same (g k) d ≡ t → pick (outs g m ks d) m v d ≡ part_among g m ks v d → pick (outs g m ks (carried_part m (g k) d)) m v (carried_part m (g k) d) ≡ part_among g m ks v (carried_part m (g k) d)
        → pick (cond t (outs g m ks d) (branch k (g k) (outs g m ks (carried_part m (g k) d)))) m v d ≡ by_order (text_cmp v k) d (g k) (part_among g m ks v (carried_part m (g k) d))
    go true e x y =
        let p = same_true (g k) d e in
        x ∙ split (text_cmp v k) refl ∙ ap (λ z. by_order (text_cmp v k) d d (part_among g m ks v z)) (sym (carried_same m d)) ∙ sym (ap (λ z. by_order (text_cmp v k) d z (part_among g m ks v (carried_part m z d))) p)
    go false e x y = ap (by_order (text_cmp v k) d (g k)) y

pub starts_weaker : (bs : Branches) (b : Option (List ℕ)) (k : List ℕ) → IsAfter b k → StartsAfter (Some k) bs → StartsAfter b bs
starts_weaker done b k x h = tt
starts_weaker (branch j c rest) b k x h = after b k j x h

pub outs_start : (g : List ℕ → Plain) (m : Bool) (l : List ℕ) (ks : List (List ℕ)) (b : Option (List ℕ)) (d : Plain) → Rise l b ks → StartsAfter b (outs g m ks d)
outs_start g m l [] b d r = tt
outs_start g m l (k ∷ ks) b d r = go (same (g k) d) (outs_start g m l ks (Some k) d r.2)
  where
    go : (t : Bool) → StartsAfter (Some k) (outs g m ks d) → StartsAfter b (cond t (outs g m ks d) (branch k (g k) (outs g m ks (carried_part m (g k) d))))
    go true x = starts_weaker (outs g m ks d) b k r.0 x
    go false x = r.0

pub outs_fit : (g : List ℕ → Plain) (l : List ℕ) (ks : List (List ℕ)) (b : Option (List ℕ)) (d : Plain) → Rise l b ks → ((k : List ℕ) → Fits (g k) l) → FitsAll (outs g (carries l) ks d) l d
outs_fit g l [] b d r f = tt
outs_fit g l (k ∷ ks) b d r f = go (same (g k) d) refl (outs_fit g l ks (Some k) d r.2 f) (outs_fit g l ks (Some k) (carried_part (carries l) (g k) d) r.2 f)
  where
    go : (t : Bool) → same (g k) d ≡ t → FitsAll (outs g (carries l) ks d) l d → FitsAll (outs g (carries l) ks (carried_part (carries l) (g k) d)) l (carried_part (carries l) (g k) d)
        → FitsAll (cond t (outs g (carries l) ks d) (branch k (g k) (outs g (carries l) ks (carried_part (carries l) (g k) d)))) l d
    go true e x y = x
    go false e x y = (r.1, outs_start g (carries l) l ks (Some k) (carried_part (carries l) (g k) d) r.2, f k, same_false (g k) d e, y)

-- the keys of branches are among keys
abbrev pub Within : Branches → List (List ℕ) → Type 0
Within done ks = Unit {0}
Within (branch k c rest) [] = ⊥
Within (branch k c rest) (j ∷ js) = ((k ≡ j) × Within rest js) ⊎ ((text_cmp j k ≡ Less) × Within (branch k c rest) js)

pub pick_among : (m : Bool) (l : List ℕ) (ks : List (List ℕ)) (bs : Branches) (b : Option (List ℕ)) (v : List ℕ) (d : Plain) → Rise l b ks → Within bs ks → pick bs m v d ≡ part_among (λ k. pick bs m k d) m ks v d
pick_among m l ks done b v d r w = sym (among_const (λ k. d) m ks v d (λ k. refl))
pick_among m l [] (branch k c rest) b v d r w = absurd w
pick_among m l (j ∷ js) (branch k c rest) b v d r (inl w) =
    ap (by_order (text_cmp v k) d c) (pick_among m l js rest (Some j) v (carried_part m c d) r.2 w.1
    ∙ among_alike (λ i. pick rest m i (carried_part m c d)) (λ i. pick (branch k c rest) m i d) m l js (Some j) v (carried_part m c d) r.2
    (λ i a. sym (past_key i k c d rest m (subst (λ (z : List ℕ). text_cmp z i ≡ Less) (sym w.0) a))))
    ∙ ap (λ z. by_order (text_cmp v k) d z (part_among (λ i. pick (branch k c rest) m i d) m js v (carried_part m z d))) (sym (at_key k c d rest m) ∙ ap (λ i. pick (branch k c rest) m i d) w.0)
    ∙ ap (λ i. by_order (text_cmp v i) d (pick (branch k c rest) m j d) (part_among (λ i. pick (branch k c rest) m i d) m js v (carried_part m (pick (branch k c rest) m j d) d))) w.0
pick_among m l (j ∷ js) (branch k c rest) b v d r (inr w) =
    split (text_cmp v j) refl
    ∙ ap (by_order (text_cmp v j) d d) (pick_among m l js (branch k c rest) (Some j) v d r.2 w.1)
    ∙ ap (λ z. by_order (text_cmp v j) d d (part_among (λ i. pick (branch k c rest) m i d) m js v z)) (sym (carried_same m d))
    ∙ ap (λ z. by_order (text_cmp v j) d z (part_among (λ i. pick (branch k c rest) m i d) m js v (carried_part m z d))) (sym (before_key j k c d rest m w.0))
  where
    split : (o : Ordering) → text_cmp v j ≡ o → pick (branch k c rest) m v d ≡ by_order o d d (pick (branch k c rest) m v d)
    split Less e = before_key v k c d rest m (cmp_trans v j k e w.0)
    split Equal e = before_key v k c d rest m (ap (λ z. text_cmp z k) (cmp_equal v j e) ∙ w.0)
    split Greater e = refl

-- merged keys
pub within_self : (bs : Branches) → Within bs (keys bs)
within_self done = tt
within_self (branch k c rest) = inl (refl, within_self rest)

left_with : (k : List ℕ) (c : Plain) (rest : Branches) (f : List (List ℕ) → List (List ℕ)) → ((ys : List (List ℕ)) → Within rest (f ys)) → (ys : List (List ℕ)) → Within (branch k c rest) (merged_with k f ys)
left_with k c rest f h [] = inl (refl, h [])
left_with k c rest f h (y ∷ ys) = go (text_cmp k y) refl (left_with k c rest f h ys)
  where
    go : (o : Ordering) → text_cmp k y ≡ o → Within (branch k c rest) (merged_with k f ys) → Within (branch k c rest) (by_order o (k ∷ f (y ∷ ys)) (k ∷ f ys) (y ∷ merged_with k f ys))
    go Less e x = inl (refl, h (y ∷ ys))
    go Equal e x = inl (refl, h ys)
    go Greater e x = inr (cmp_over k y e, x)

pub within_left : (bs : Branches) (ys : List (List ℕ)) → Within bs (key_union (keys bs) ys)
within_left done ys = tt
within_left (branch k c rest) ys = left_with k c rest (key_union (keys rest)) (within_left rest) ys

right_with : (x : List ℕ) (f : List (List ℕ) → List (List ℕ)) → ((bs : Branches) → Within bs (f (keys bs))) → (bs : Branches) → Within bs (merged_with x f (keys bs))
right_with x f h done = tt
right_with x f h (branch k c rest) = go (text_cmp x k) refl (right_with x f h rest)
  where
    go : (o : Ordering) → text_cmp x k ≡ o → Within rest (merged_with x f (keys rest)) → Within (branch k c rest) (by_order o (x ∷ f (k ∷ keys rest)) (x ∷ f (keys rest)) (k ∷ merged_with x f (keys rest)))
    go Less e y = inr (e, h (branch k c rest))
    go Equal e y = inl (sym (cmp_equal x k e), h rest)
    go Greater e y = inl (refl, y)

pub within_right : (xs : List (List ℕ)) (bs : Branches) → Within bs (key_union xs (keys bs))
within_right [] bs = within_self bs
within_right (x ∷ xs) bs = right_with x (key_union xs) (within_right xs) bs

rise_with : (l x : List ℕ) (xs : List (List ℕ)) (f : List (List ℕ) → List (List ℕ)) (b : Option (List ℕ)) → IsAfter b x → IsKey l x → ((ys : List (List ℕ)) → Rise l (Some x) ys → Rise l (Some x) (f ys))
    → (ys : List (List ℕ)) → Rise l b ys → Rise l b (merged_with x f ys)
rise_with l x xs f b p q h [] r = (p, q, h [] tt)
rise_with l x xs f b p q h (y ∷ ys) r = go (text_cmp x y) refl (λ e. rise_with l x xs f (Some y) e q h ys r.2)
  where
    go : (o : Ordering) → text_cmp x y ≡ o → (text_cmp y x ≡ Less → Rise l (Some y) (merged_with x f ys)) → Rise l b (by_order o (x ∷ f (y ∷ ys)) (x ∷ f ys) (y ∷ merged_with x f ys))
    go Less e z = (p, q, h (y ∷ ys) (e, r.1, r.2))
    go Equal e z = (p, q, h ys (subst (λ (i : List ℕ). Rise l (Some i) ys) (sym (cmp_equal x y e)) r.2))
    go Greater e z = (r.0, r.1, z (cmp_over x y e))

pub rise_merged : (l : List ℕ) (xs : List (List ℕ)) (b : Option (List ℕ)) → Rise l b xs → (ys : List (List ℕ)) → Rise l b ys → Rise l b (key_union xs ys)
rise_merged l [] b r ys s = s
rise_merged l (x ∷ xs) b r ys s = rise_with l x xs (key_union xs) b r.0 r.1 (rise_merged l xs (Some x) r.2) ys s

pub rise_keys : (bs : Branches) (l : List ℕ) (b : Option (List ℕ)) (d : Plain) → FitsAll bs l d → StartsAfter b bs → Rise l b (keys bs)
rise_keys done l b d h s = tt
rise_keys (branch k c rest) l b d h s = (s, h.0, rise_keys rest l (Some k) (carried_part (carries l) c d) h.4 h.1)

pub fits_weaker : (t : Plain) (l b : List ℕ) → text_cmp b l ≡ Less → Fits t l → Fits t b
fits_weaker (truth x) l b e h = tt
fits_weaker (node k d bs) l b e h = (cmp_trans b l k e h.0, h.1, h.2, h.3)

pub close_fits : (l b : List ℕ) (d : Plain) (bs : Branches) → text_cmp b l ≡ Less → Fits d l → FitsAll bs l d → Fits (close l d bs) b
close_fits l b d done e x y = fits_weaker d l b e x
close_fits l b d (branch k c rest) e x y = (e, tt, x, y)

pub close_holds : (l : List ℕ) (d : Plain) (bs : Branches) (f : List ℕ → List ℕ) → holds_of (close l d bs) f ≡ holds_in bs (carries l) (f l) (holds_of d f) f
close_holds l d done f = refl
close_holds l d (branch k c rest) f = refl
