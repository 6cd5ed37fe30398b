-- A reduced tree without the opaque comparisons that aren't asked: where one of these was, the part stands for which it
-- fails.
use Rattle.std.proofs.Common.{◌≡◌, ◌∙◌, ◌⊎◌, inl, inr, ℕ, List, [], ◌∷◌, Bool, true, false, refl, ap, sym, Less, Equal, Greater, Ordering, Option, Some, cond}
use Rattle.std.specs.Prelude.{if◌then◌else◌, not}
use Rattle.ul_comparison.specs.Atoms.{AtomFields, has_atom}
use Rattle.ul_nodes.specs.Plain.{Plain, truth, node, Branches, done, branch, text_cmp, carries, carried_part, by_order, holds_of, holds_in}
use Rattle.ul_nodes.specs.Reduced.{Fits, FitsAll, StartsAfter}
use Rattle.ul_nodes.specs.Apply.{close, same}
use Rattle.ul_nodes.proofs.ForCallers.{close_fits, close_holds, cmp_equal, cmp_trans, fits_weaker, same_false, same_true, starts_weaker}
use Rattle.ul_tree.specs.Sample.{atom_of}
use Rattle.laws_comparisons.proofs.Levels.{EachLevel, EachLevelIn, close_has}

-- the level is an opaque comparison that isn't asked
abbrev pub is_unasked : List AtomFields → List ℕ → Bool
is_unasked asked [] = false
is_unasked asked (a ∷ []) = false
is_unasked asked (a ∷ b ∷ rest) = not (has_atom asked (atom_of (a ∷ b ∷ rest)))

-- values of levels, where no comparison holds that isn't asked
abbrev pub masked : List AtomFields → (List ℕ → List ℕ) → List ℕ → List ℕ
masked asked f l = if is_unasked asked l then 0 ∷ [] else f l

module _ (asked : List AtomFields) where
  abbrev mutual
    pub stripped : Plain → Plain
    stripped (truth b) = truth b
    stripped (node l d bs) = if is_unasked asked l then stripped d else close l (stripped d) (stripped_in (carries l) bs (stripped d))

    stripped_in : Bool → Branches → Plain → Branches
    stripped_in m done e = done
    stripped_in m (branch k c rest) e =
        if same (stripped c) e then stripped_in m rest e else branch k (stripped c) (stripped_in m rest (carried_part m (stripped c) e))

  -- ---- it is reduced

  carried_fits : (m : Bool) (c d : Plain) (l : List ℕ) → Fits c l → Fits d l → Fits (carried_part m c d) l
  carried_fits true c d l x y = x
  carried_fits false c d l x y = y

  starts : (bs : Branches) (l : List ℕ) (d : Plain) (b : Option (List ℕ)) (m : Bool) (e : Plain) → FitsAll bs l d → StartsAfter b bs
      → StartsAfter b (stripped_in m bs e)
  starts done l d b m e h s = tt
  starts (branch k c rest) l d b m e h s = go (same (stripped c) e) (starts rest l (carried_part (carries l) c d) (Some k) m e h.4 h.1)
    where
      go : (t : Bool) → StartsAfter (Some k) (stripped_in m rest e)
          → StartsAfter b (cond t (stripped_in m rest e) (branch k (stripped c) (stripped_in m rest (carried_part m (stripped c) e))))
      go true x = starts_weaker (stripped_in m rest e) b k s x
      go false x = s

  mutual
    pub fits : (t : Plain) (b : List ℕ) → Fits t b → Fits (stripped t) b
    fits (truth x) b h = tt
    fits (node l d bs) b h = go (is_unasked asked l) (fits d l h.2) (fits_in bs l d (stripped d) h.3 (fits d l h.2))
      where
        go : (t : Bool) → Fits (stripped d) l → FitsAll (stripped_in (carries l) bs (stripped d)) l (stripped d)
            → Fits (cond t (stripped d) (close l (stripped d) (stripped_in (carries l) bs (stripped d)))) b
        go true x y = fits_weaker (stripped d) l b h.0 x
        go false x y = close_fits l b (stripped d) (stripped_in (carries l) bs (stripped d)) h.0 x y

    fits_in : (bs : Branches) (l : List ℕ) (d e : Plain) → FitsAll bs l d → Fits e l → FitsAll (stripped_in (carries l) bs e) l e
    fits_in done l d e h x = tt
    fits_in (branch k c rest) l d e h x =
        let own = fits c l h.2 in
        let next = carried_part (carries l) (stripped c) e in
        go (same (stripped c) e) refl own (fits_in rest l (carried_part (carries l) c d) e h.4 x)
        (fits_in rest l (carried_part (carries l) c d) next h.4 (carried_fits (carries l) (stripped c) e l own x))
      where
        go : (t : Bool) → same (stripped c) e ≡ t → Fits (stripped c) l → FitsAll (stripped_in (carries l) rest e) l e
            → FitsAll (stripped_in (carries l) rest (carried_part (carries l) (stripped c) e)) l (carried_part (carries l) (stripped c) e)
            → FitsAll (cond t (stripped_in (carries l) rest e) (branch k (stripped c) (stripped_in (carries l) rest (carried_part (carries l) (stripped c) e)))) l e
        go true q own y z = y
        go false q own y z =
            (h.0, starts rest l (carried_part (carries l) c d) (Some k) (carries l) (carried_part (carries l) (stripped c) e) h.4 h.1, own, same_false (stripped c) e q, z)

  -- ---- its truth

  carried_holds : (m : Bool) (c d : Plain) (f : List ℕ → List ℕ) → holds_of (carried_part m c d) f ≡ carried_part m (holds_of c f) (holds_of d f)
  carried_holds true c d f = refl
  carried_holds false c d f = refl

  -- below the first key of branches stands what stood before them
  before_all : (bs : Branches) (m : Bool) (v k : List ℕ) (t : Bool) (f : List ℕ → List ℕ) → StartsAfter (Some k) bs
      → (text_cmp v k ≡ Less) ⊎ (v ≡ k) → holds_in bs m v t f ≡ t
  before_all done m v k t f s x = refl
  before_all (branch j c rest) m v k t f s (inl e) =
      ap (λ o. by_order o t (holds_of c f) (holds_in rest m v (carried_part m (holds_of c f) t) f)) (cmp_trans v k j e s)
  before_all (branch j c rest) m v k t f s (inr e) =
      ap (λ o. by_order o t (holds_of c f) (holds_in rest m v (carried_part m (holds_of c f) t) f)) (ap (λ z. text_cmp z j) e ∙ s)

  -- a comparison that fails takes none of the branches of its level
  fails : (l : List ℕ) → is_unasked asked l ≡ true → (bs : Branches) (d : Plain) (m t : Bool) (f : List ℕ → List ℕ) → FitsAll bs l d
      → holds_in bs m (0 ∷ []) t f ≡ t
  fails [] q bs d m t f h = absurd (cc q)
  fails (a ∷ []) q bs d m t f h = absurd (cc q)
  fails (a ∷ b ∷ rest) q done d m t f h = refl
  fails (a ∷ b ∷ rest) q (branch k c more) d m t f h =
      ap (λ j. by_order (text_cmp (0 ∷ []) j) t (holds_of c f) (holds_in more m (0 ∷ []) (carried_part m (holds_of c f) t) f)) h.0.1

  -- what a branch that is left out says, and what stands then
  module _ (m : Bool) (v k : List ℕ) (c d : Plain) (rest : Branches) (f : List ℕ → List ℕ) where
    abbrev after : Bool
    after = holds_in rest m v (carried_part m (holds_of c f) (holds_of d f)) f

    left_out : (b : Bool) → StartsAfter (Some k) rest → holds_of c f ≡ b → holds_of d f ≡ b → (o : Ordering) → text_cmp v k ≡ o
        → after ≡ by_order o (holds_of d f) (holds_of c f) after
    left_out b s x y Less e = before_all rest m v k (carried_part m (holds_of c f) (holds_of d f)) f s (inl e) ∙ both m
      where
        both : (m : Bool) → carried_part m (holds_of c f) (holds_of d f) ≡ holds_of d f
        both true = x ∙ sym y
        both false = refl
    left_out b s x y Equal e = before_all rest m v k (carried_part m (holds_of c f) (holds_of d f)) f s (inr (cmp_equal v k e)) ∙ both m
      where
        both : (m : Bool) → carried_part m (holds_of c f) (holds_of d f) ≡ holds_of c f
        both true = refl
        both false = y ∙ sym x
    left_out b s x y Greater e = refl

  mutual
    pub holds : (t : Plain) (b : List ℕ) (f : List ℕ → List ℕ) → Fits t b → holds_of (stripped t) f ≡ holds_of t (masked asked f)
    holds (truth x) b f h = refl
    holds (node l d bs) b f h = go (is_unasked asked l) refl (holds d l f h.2) (holds_branches bs l d (stripped d) (f l) f h.3 (holds d l f h.2))
      where
        go : (t : Bool) → is_unasked asked l ≡ t → holds_of (stripped d) f ≡ holds_of d (masked asked f)
            → holds_in (stripped_in (carries l) bs (stripped d)) (carries l) (f l) (holds_of (stripped d) f) f ≡ holds_in bs (carries l) (f l) (holds_of d (masked asked f)) (masked asked f)
            → holds_of (cond t (stripped d) (close l (stripped d) (stripped_in (carries l) bs (stripped d)))) f ≡ holds_in bs (carries l) (cond t (0 ∷ []) (f l)) (holds_of d (masked asked f)) (masked asked f)
        go true q x y = x ∙ sym (fails l q bs d (carries l) (holds_of d (masked asked f)) (masked asked f) h.3)
        go false q x y = close_holds l (stripped d) (stripped_in (carries l) bs (stripped d)) f ∙ y

    holds_branches : (bs : Branches) (l : List ℕ) (d e : Plain) (v : List ℕ) (f : List ℕ → List ℕ) → FitsAll bs l d
        → holds_of e f ≡ holds_of d (masked asked f)
        → holds_in (stripped_in (carries l) bs e) (carries l) v (holds_of e f) f ≡ holds_in bs (carries l) v (holds_of d (masked asked f)) (masked asked f)
    holds_branches done l d e v f h x = x
    holds_branches (branch k c rest) l d e v f h x =
        go (same (stripped c) e) refl (holds c l f h.2)
        (λ u y. holds_branches rest l (carried_part (carries l) c d) u v f h.4 y)
      where
        m : Bool
        m = carries l

        g : List ℕ → List ℕ
        g = masked asked f

        next : (u : Plain) → holds_of u f ≡ holds_of (carried_part m c d) g
            → ((u : Plain) → holds_of u f ≡ holds_of (carried_part m c d) g → holds_in (stripped_in m rest u) m v (holds_of u f) f ≡ holds_in rest m v (holds_of (carried_part m c d) g) g)
            → holds_in (stripped_in m rest u) m v (holds_of u f) f ≡ after m v k c d rest g
        next u y later = later u y ∙ ap (λ b. holds_in rest m v b g) (carried_holds m c d g)

        stands : (m : Bool) → holds_of (stripped c) f ≡ holds_of c g → stripped c ≡ e → holds_of e f ≡ holds_of (carried_part m c d) g
        stands true own q = sym (ap (λ z. holds_of z f) q) ∙ own
        stands false own q = x

        carried_alike : (m : Bool) → holds_of (stripped c) f ≡ holds_of c g → holds_of (carried_part m (stripped c) e) f ≡ holds_of (carried_part m c d) g
        carried_alike true own = own
        carried_alike false own = x

        go : (t : Bool) → same (stripped c) e ≡ t → holds_of (stripped c) f ≡ holds_of c g
            → ((u : Plain) → holds_of u f ≡ holds_of (carried_part m c d) g → holds_in (stripped_in m rest u) m v (holds_of u f) f ≡ holds_in rest m v (holds_of (carried_part m c d) g) g)
            → holds_in (cond t (stripped_in m rest e) (branch k (stripped c) (stripped_in m rest (carried_part m (stripped c) e)))) m v (holds_of e f) f
            ≡ by_order (text_cmp v k) (holds_of d g) (holds_of c g) (after m v k c d rest g)
        go true q own later =
            let p = same_true (stripped c) e q in
            next e (stands m own p) later
            ∙ left_out m v k c d rest g (holds_of e f) h.1 (sym own ∙ ap (λ z. holds_of z f) p) (sym x) (text_cmp v k) refl
        go false q own later =
            ap (λ b. by_order (text_cmp v k) (holds_of e f) (holds_of (stripped c) f) (holds_in (stripped_in m rest (carried_part m (stripped c) e)) m v b f)) (sym (carried_holds m (stripped c) e f))
            ∙ ap (by_order (text_cmp v k) (holds_of e f) (holds_of (stripped c) f)) (next (carried_part m (stripped c) e) (carried_alike m own) later)
            ∙ ap (λ b. by_order (text_cmp v k) b (holds_of (stripped c) f) (after m v k c d rest g)) x
            ∙ ap (λ b. by_order (text_cmp v k) (holds_of d g) b (after m v k c d rest g)) own

  -- ---- its levels

  mutual
    pub asks : (t : Plain) → EachLevel (λ l. is_unasked asked l ≡ false) (stripped t)
    asks (truth b) = tt
    asks (node l d bs) = go (is_unasked asked l) refl (asks d) (asks_in (carries l) bs (stripped d))
      where
        go : (t : Bool) → is_unasked asked l ≡ t → EachLevel (λ l. is_unasked asked l ≡ false) (stripped d)
            → EachLevelIn (λ l. is_unasked asked l ≡ false) (stripped_in (carries l) bs (stripped d))
            → EachLevel (λ l. is_unasked asked l ≡ false) (cond t (stripped d) (close l (stripped d) (stripped_in (carries l) bs (stripped d))))
        go true q x y = x
        go false q x y = close_has (λ l. is_unasked asked l ≡ false) l (stripped d) (stripped_in (carries l) bs (stripped d)) q x y

    asks_in : (m : Bool) (bs : Branches) (e : Plain) → EachLevelIn (λ l. is_unasked asked l ≡ false) (stripped_in m bs e)
    asks_in m done e = tt
    asks_in m (branch k c rest) e = go (same (stripped c) e) (asks c) (asks_in m rest e) (asks_in m rest (carried_part m (stripped c) e))
      where
        go : (t : Bool) → EachLevel (λ l. is_unasked asked l ≡ false) (stripped c)
            → EachLevelIn (λ l. is_unasked asked l ≡ false) (stripped_in m rest e)
            → EachLevelIn (λ l. is_unasked asked l ≡ false) (stripped_in m rest (carried_part m (stripped c) e))
            → EachLevelIn (λ l. is_unasked asked l ≡ false) (cond t (stripped_in m rest e) (branch k (stripped c) (stripped_in m rest (carried_part m (stripped c) e))))
        go true x y z = y
        go false x y z = (x, z)
