-- One truth, one tree.
use Rattle.std.proofs.Common.{◌≡◌, ℕ, suc, zero, ◌+◌, ◌<◌, List, false, refl, ap, sym, ◌∙◌, subst, arith, Less, Equal, Greater, Ordering, None, ◌⊎◌, inl, inr}
use Rattle.ul_nodes.specs.Plain.{Plain, truth, node, Branches, done, branch, text_cmp, carries, carried_part, pick, holds_of, holds_in}
use Rattle.ul_nodes.specs.Reduced.{Fits, FitsAll, HasBranch, StartsAfter}
use Rattle.ul_tree.proofs.Varied.{Varied}
use Rattle.ul_nodes.proofs.ForCallers.{cmp_equal, cmp_over, at_key, before_key, past_key, same_branches}
use Rattle.ul_nodes.specs.Apply.{size}
use Rattle.ul_tree.proofs.Picks.{holds_pick, size_pick, fits_pick, holds_alike}

pub from_nothing : (bs : Branches) → StartsAfter None bs
from_nothing done = tt
from_nothing (branch k c rest) = tt

module _ (W : Type 0) (value : W → List ℕ → List ℕ) (Ok : List ℕ → List ℕ → Type 0) (free : List ℕ → List ℕ) (g : Varied W value Ok free) where
  abbrev Alike : Plain → Plain → Type 0
  Alike s t = (w : W) → holds_of s (value w) ≡ holds_of t (value w)

  -- the truth of a part is that of its node where the level has the part's value
  part_truth : (l : List ℕ) (d : Plain) (bs : Branches) (b : List ℕ) → Fits (node l d bs) b → (v : List ℕ) (o : Ok l v) (w : W)
      → holds_of (pick bs (carries l) v d) (value w) ≡ holds_of (node l d bs) (value (g.put w l v o))
  part_truth l d bs b h v o w =
      let f = value (g.put w l v o) in
      holds_alike (pick bs (carries l) v d) l (value w) f (fits_pick bs l v d h.2 h.3) (λ k e. sym (g.other w l v o k e))
      ∙ holds_pick bs (carries l) v d f
      ∙ ap (λ x. holds_in bs (carries l) x (holds_of d f) f) (sym (g.same w l v o))

  -- a tree with no level up to l doesn't see its value
  unseen : (t : Plain) (l : List ℕ) → Fits t l → (v : List ℕ) (o : Ok l v) (w : W) → holds_of t (value (g.put w l v o)) ≡ holds_of t (value w)
  unseen t l h v o w = holds_alike t l _ _ h (λ k e. g.other w l v o k e)

  at_free : (bs : Branches) (l : List ℕ) (d : Plain) → FitsAll bs l d → pick bs (carries l) (free l) d ≡ d
  at_free done l d h = refl
  at_free (branch k c rest) l d h = go (g.free_key l k h.0) (at_free rest l (carried_part (carries l) c d) h.4)
    where
      go : ((text_cmp (free l) k ≡ Less) ⊎ ((carries l ≡ false) × (text_cmp (free l) k ≡ Greater))) → pick rest (carries l) (free l) (carried_part (carries l) c d) ≡ carried_part (carries l) c d
          → pick (branch k c rest) (carries l) (free l) d ≡ d
      go (inl e) ih = before_key (free l) k c d rest (carries l) e
      go (inr e) ih = past_key (free l) k c d rest (carries l) (cmp_over (free l) k e.1) ∙ ih ∙ ap (λ m. carried_part m c d) e.0

  -- a node differs from a tree of later levels
  apart : (l : List ℕ) (d : Plain) (bs : Branches) (t : Plain) (b : List ℕ) → Fits (node l d bs) b → Fits t l → Alike (node l d bs) t
      → ((c : Plain) → size c < size (node l d bs) → Fits c l → Alike c t → c ≡ t) → ⊥
  apart l d done t b h ht same ih = h.1
  apart l d (branch k c rest) t b h ht same ih =
      h.3.3 (sym (at_key k c d rest (carries l)) ∙ each k (g.key_ok l k h.3.0) ∙ sym (each (free l) (g.free_ok l k h.3.0)) ∙ at_free (branch k c rest) l d h.3)
    where
      each : (v : List ℕ) → Ok l v → pick (branch k c rest) (carries l) v d ≡ t
      each v o =
          let n = size_pick (branch k c rest) (carries l) v d in
          ih (pick (branch k c rest) (carries l) v d) (omega (arith, n)) (fits_pick (branch k c rest) l v d h.2 h.3)
          (λ w. part_truth l d (branch k c rest) b h v o w ∙ same (g.put w l v o) ∙ unseen t l ht v o w)

  -- two nodes of one level
  together : (l : List ℕ) (d e : Plain) (bs cs : Branches) (b : List ℕ) → Fits (node l d bs) b → Fits (node l e cs) b → Alike (node l d bs) (node l e cs)
      → ((x y : Plain) → size x < size (node l d bs) → size y < size (node l e cs) → Fits x l → Fits y l → Alike x y → x ≡ y) → HasBranch bs → node l d bs ≡ node l e cs
  together l d e done cs b x y same ih f = absurd f
  together l d e (branch k c rest) cs b x y same ih f =
      ap (node l d) (same_branches Ok g.key_ok bs cs l d None x.3 (subst (λ (z : Plain). FitsAll cs l z) (sym ends) y.3) tt (from_nothing cs)
      (λ v o a. each v o ∙ ap (λ z. pick cs (carries l) v z) (sym ends)))
      ∙ ap (λ z. node l z cs) ends
    where
      bs : Branches
      bs = branch k c rest

      each : (v : List ℕ) → Ok l v → pick (branch k c rest) (carries l) v d ≡ pick cs (carries l) v e
      each v o =
          let n = size_pick (branch k c rest) (carries l) v d in
          let m = size_pick cs (carries l) v e in
          ih (pick (branch k c rest) (carries l) v d) (pick cs (carries l) v e) (omega (arith, n)) (omega (arith, m)) (fits_pick (branch k c rest) l v d x.2 x.3) (fits_pick cs l v e y.2 y.3)
          (λ w. part_truth l d (branch k c rest) b x v o w ∙ same (g.put w l v o) ∙ sym (part_truth l e cs b y v o w))

      ends : d ≡ e
      ends = sym (at_free (branch k c rest) l d x.3) ∙ each (free l) (g.free_ok l k x.3.0) ∙ at_free cs l e y.3

  by_level : (n : ℕ) (l k : List ℕ) (d e : Plain) (bs cs : Branches) (b : List ℕ) → size (node l d bs) + size (node k e cs) < suc n → Fits (node l d bs) b → Fits (node k e cs) b → Alike (node l d bs) (node k e cs)
      → ((s t : Plain) (b : List ℕ) → size s + size t < n → Fits s b → Fits t b → Alike s t → s ≡ t) → (o : Ordering) → text_cmp l k ≡ o → node l d bs ≡ node k e cs
  by_level n l k d e bs cs b small x y same ih Less w =
      absurd (apart l d bs (node k e cs) b x (w, y.1, y.2, y.3) same (λ c s f a. ih c (node k e cs) l (omega arith) f (w, y.1, y.2, y.3) a))
  by_level n l k d e bs cs b small x y same ih Greater w =
      let v = cmp_over l k w in
      absurd (apart k e cs (node l d bs) b y (v, x.1, x.2, x.3) (λ u. sym (same u)) (λ c s f a. ih c (node l d bs) k (omega arith) f (v, x.1, x.2, x.3) a))
  by_level n l k d e bs cs b small x y same ih Equal w =
      let p = cmp_equal l k w in
      (together l d e bs cs b x (subst (λ (i : List ℕ). Fits (node i e cs) b) (sym p) y) (λ u. same u ∙ ap (λ i. holds_of (node i e cs) (value u)) (sym p))
      (λ s t f h z q a. ih s t l (omega arith) z q a) x.1)
      ∙ ap (λ i. node i e cs) p

  pub unique : (n : ℕ) (s t : Plain) (b : List ℕ) → size s + size t < n → Fits s b → Fits t b → Alike s t → s ≡ t
  unique zero s t b small x y same = absurd (omega arith)
  unique (suc n) (truth u) (truth v) b small x y same = ap truth (same g.base)
  unique (suc n) (node l d bs) (truth v) b small x y same = absurd (apart l d bs (truth v) b x tt same (λ c s f a. unique n c (truth v) l (omega arith) f tt a))
  unique (suc n) (truth u) (node l d bs) b small x y same = absurd (apart l d bs (truth u) b y tt (λ w. sym (same w)) (λ c s f a. unique n c (truth u) l (omega arith) f tt a))
  unique (suc n) (node l d bs) (node k e cs) b small x y same = by_level n l k d e bs cs b small x y same (unique n) (text_cmp l k) refl
