-- A tree's first path to true leads to true, and stands where a reduced tree isn't false.
use Rattle.std.proofs.Common.{◌≡◌, ◌≢◌, ℕ, suc, zero, List, [], ◌∷◌, Bool, true, false, cond, refl, ap, sym, ◌∙◌, Less, Equal, Greater, Ordering, Option, Some, None}
use Rattle.std.specs.Ordering.{ordering_then}
use Rattle.ul_nodes.specs.Plain.{Plain, truth, node, Branches, done, branch, text_cmp, carries, carried_part, by_order, holds_of, holds_in}
use Rattle.ul_nodes.specs.Levels.{IsKey}
use Rattle.ul_nodes.specs.Reduced.{Fits, FitsAll, IsAfter, StartsAfter}
use Rattle.ul_tree.specs.Sample.{Step, beside, or_else, longer_path, first_path, first_in}
use Rattle.ul_nodes.proofs.ForCallers.{cmp_itself, cmp_equal, cmp_back, cmp_less, after}
use Rattle.ul_tree.proofs.Extras.{NoKey}
use Rattle.ul_tree.proofs.FreshTexts.{fresh_no_key}
use Rattle.ul_tree.proofs.Unique.{from_nothing}

-- ---- a value that is no key

mark_no_key : (a b : ℕ) (rest : List ℕ) (bs : Branches) (d : Plain) → FitsAll bs (a ∷ b ∷ rest) d → NoKey (0 ∷ []) bs
mark_no_key a b rest done d h = tt
mark_no_key a b rest (branch k c more) d h = (λ q. let p : 0 ∷ [] ≡ 1 ∷ [] = q ∙ h.0.1 in cc, mark_no_key a b rest more (carried_part (carries (a ∷ b ∷ rest)) c d) h.4)

pub beside_no_key : (l : List ℕ) (bs : Branches) (d : Plain) → carries l ≡ false → FitsAll bs l d → NoKey (beside l bs) bs
beside_no_key [] bs d m h = fresh_no_key bs
beside_no_key (a ∷ []) bs d m h = fresh_no_key bs
beside_no_key (a ∷ b ∷ rest) bs d m h = mark_no_key a b rest bs d h

-- ---- truths along a path

-- a value that is no key takes the part without a key
holds_beside : (bs : Branches) (v : List ℕ) (t : Bool) (f : List ℕ → List ℕ) → NoKey v bs → holds_in bs false v t f ≡ t
holds_beside done v t f n = refl
holds_beside (branch k c rest) v t f n = go (text_cmp v k) refl (holds_beside rest v t f n.1)
  where
    go : (o : Ordering) → text_cmp v k ≡ o → holds_in rest false v t f ≡ t → by_order o t (holds_of c f) (holds_in rest false v t f) ≡ t
    go Less e ih = refl
    go Equal e ih = absurd (n.0 (cmp_equal v k e))
    go Greater e ih = ih

-- the first piece begins at 0, and every key comes after
start_below : (l k : List ℕ) → carries l ≡ true → IsKey l k → text_cmp (0 ∷ []) k ≡ Less
start_below [] k m h = cc
start_below (zero ∷ []) k m h = cc
start_below (suc zero ∷ []) k m h = ap (text_cmp (0 ∷ [])) h.1 ∙ ap (λ o. ordering_then o Equal) (cmp_less 0 h.0 h.2)
start_below (suc (suc i) ∷ []) k m h = cc
start_below (a ∷ b ∷ rest) k m h = cc

holds_start : (bs : Branches) (l : List ℕ) (d : Plain) (t : Bool) (f : List ℕ → List ℕ) → carries l ≡ true → FitsAll bs l d → holds_in bs (carries l) (0 ∷ []) t f ≡ t
holds_start done l d t f m h = refl
holds_start (branch k c rest) l d t f m h =
    ap (λ o. by_order o t (holds_of c f) (holds_in rest (carries l) (0 ∷ []) (carried_part (carries l) (holds_of c f) t) f)) (start_below l k m h.0)

-- the values of a path
abbrev pub Agrees : (List ℕ → List ℕ) → List Step → Type 0
Agrees f [] = Unit {0}
Agrees f (s ∷ steps) = (f s.level ≡ s.value) × Agrees f steps

-- what holds where the values of a path do
abbrev pub Leads : (List ℕ → List ℕ) → Option (List Step) → Type 0 → Type 0
Leads f None B = Unit {0}
Leads f (Some steps) B = Agrees f steps → B

or_leads : (f : List ℕ → List ℕ) (p q : Option (List Step)) (B : Type 0) → Leads f p B → Leads f q B → Leads f (or_else p q) B
or_leads f None q B x y = y
or_leads f (Some p) q B x y = x

step_leads : (f : List ℕ → List ℕ) (l v : List ℕ) (p : Option (List Step)) (B C : Type 0) → Leads f p B → (f l ≡ v → B → C) → Leads f (longer_path l v p) C
step_leads f l v None B C x y = tt
step_leads f l v (Some steps) B C x y = λ a. y a.0 (x a.1)

map_leads : (f : List ℕ → List ℕ) (p : Option (List Step)) (B C : Type 0) → Leads f p B → (B → C) → Leads f p C
map_leads f None B C x y = tt
map_leads f (Some steps) B C x y = λ a. y (x a)

-- at a value after a bound, the truth of branches whatever stands before them
abbrev Taken : Option (List ℕ) → List ℕ → Branches → (List ℕ → List ℕ) → Type 0
Taken b l bs f = IsAfter b (f l) × ((t : Bool) → holds_in bs (carries l) (f l) t f ≡ true)

is_after : (b : Option (List ℕ)) (k v : List ℕ) → IsAfter b k → v ≡ k → IsAfter b v
is_after None k v h e = tt
is_after (Some j) k v h e = ap (text_cmp j) e ∙ h

mutual
  pub leads : (t : Plain) (b : List ℕ) (f : List ℕ → List ℕ) → Fits t b → Leads f (first_path t) (holds_of t f ≡ true)
  leads (truth true) b f h = λ a. refl
  leads (truth false) b f h = tt
  leads (node l d bs) b f h = go (carries l) refl (leads d l f h.2) (leads_in bs l d None f h.3 (from_nothing bs))
    where
      go : (m : Bool) → carries l ≡ m → Leads f (first_path d) (holds_of d f ≡ true) → Leads f (first_in l bs) (Taken None l bs f)
          → Leads f (cond m (or_else (longer_path l (0 ∷ []) (first_path d)) (first_in l bs)) (or_else (first_in l bs) (longer_path l (beside l bs) (first_path d)))) (holds_of (node l d bs) f ≡ true)
      go true m x y =
          or_leads f (longer_path l (0 ∷ []) (first_path d)) (first_in l bs) _
          (step_leads f l (0 ∷ []) (first_path d) _ _ x (λ e t. ap (λ v. holds_in bs (carries l) v (holds_of d f) f) e ∙ holds_start bs l d (holds_of d f) f m h.3 ∙ t))
          (map_leads f (first_in l bs) _ _ y (λ r. r.1 (holds_of d f)))
      go false m x y =
          or_leads f (first_in l bs) (longer_path l (beside l bs) (first_path d)) _
          (map_leads f (first_in l bs) _ _ y (λ r. r.1 (holds_of d f)))
          (step_leads f l (beside l bs) (first_path d) _ _ x
          (λ e t. ap (λ c. holds_in bs c (f l) (holds_of d f) f) m ∙ ap (λ v. holds_in bs false v (holds_of d f) f) e ∙ holds_beside bs (beside l bs) (holds_of d f) f (beside_no_key l bs d m h.3) ∙ t))

  pub leads_in : (bs : Branches) (l : List ℕ) (d : Plain) (b : Option (List ℕ)) (f : List ℕ → List ℕ) → FitsAll bs l d → StartsAfter b bs → Leads f (first_in l bs) (Taken b l bs f)
  leads_in done l d b f h s = tt
  leads_in (branch k c rest) l d b f h s =
      or_leads f (longer_path l k (first_path c)) (first_in l rest) _
      (step_leads f l k (first_path c) _ _ (leads c l f h.2)
      (λ e x. (is_after b k (f l) s e, λ t. ap (λ o. by_order o t (holds_of c f) (holds_in rest (carries l) (f l) (carried_part (carries l) (holds_of c f) t) f)) (ap (λ v. text_cmp v k) e ∙ cmp_itself k) ∙ x)))
      (map_leads f (first_in l rest) _ _ (leads_in rest l (carried_part (carries l) c d) (Some k) f h.4 h.1)
      (λ r. (after b k (f l) s r.0, λ t. ap (λ o. by_order o t (holds_of c f) (holds_in rest (carries l) (f l) (carried_part (carries l) (holds_of c f) t) f)) (cmp_back k (f l) r.0) ∙ r.1 (carried_part (carries l) (holds_of c f) t))))

-- ---- where a path stands

abbrev pub Stands : Option (List Step) → Type 0
Stands None = ⊥
Stands (Some steps) = Unit {0}

or_first : (p q : Option (List Step)) → Stands p → Stands (or_else p q)
or_first None q h = absurd h
or_first (Some p) q h = tt

or_second : (p q : Option (List Step)) → Stands q → Stands (or_else p q)
or_second None q h = h
or_second (Some p) q h = tt

step_stands : (l v : List ℕ) (p : Option (List Step)) → Stands p → Stands (longer_path l v p)
step_stands l v None h = h
step_stands l v (Some steps) h = tt

pub stands : (t : Plain) (b : List ℕ) → Fits t b → t ≢ truth false → Stands (first_path t)
stands (truth true) b h n = tt
stands (truth false) b h n = absurd (n refl)
stands (node l d done) b h n = absurd h.1
stands (node l d (branch k c rest)) b h n = go (carries l) d c refl refl (stands d l h.2) (stands c l h.3.2)
  where
    bs : Branches
    bs = branch k c rest

    either_way : (m : Bool) → Stands (longer_path l (0 ∷ []) (first_path d)) → Stands (longer_path l (beside l bs) (first_path d))
        → Stands (cond m (or_else (longer_path l (0 ∷ []) (first_path d)) (first_in l bs)) (or_else (first_in l bs) (longer_path l (beside l bs) (first_path d))))
    either_way true x y = or_first (longer_path l (0 ∷ []) (first_path d)) (first_in l bs) x
    either_way false x y = or_second (first_in l bs) (longer_path l (beside l bs) (first_path d)) y

    by_branch : (m : Bool) → Stands (first_in l bs)
        → Stands (cond m (or_else (longer_path l (0 ∷ []) (first_path d)) (first_in l bs)) (or_else (first_in l bs) (longer_path l (beside l bs) (first_path d))))
    by_branch true x = or_second (longer_path l (0 ∷ []) (first_path d)) (first_in l bs) x
    by_branch false x = or_first (first_in l bs) (longer_path l (beside l bs) (first_path d)) x

    other : (m : Bool) → Stands (first_path d) → Stands (cond m (or_else (longer_path l (0 ∷ []) (first_path d)) (first_in l bs)) (or_else (first_in l bs) (longer_path l (beside l bs) (first_path d))))
    other m x = either_way m (step_stands l (0 ∷ []) (first_path d) x) (step_stands l (beside l bs) (first_path d) x)

    own : (m : Bool) → Stands (first_path c) → Stands (cond m (or_else (longer_path l (0 ∷ []) (first_path d)) (first_in l bs)) (or_else (first_in l bs) (longer_path l (beside l bs) (first_path d))))
    own m x = by_branch m (or_first (longer_path l k (first_path c)) (first_in l rest) (step_stands l k (first_path c) x))

    go : (m : Bool) (e f : Plain) → e ≡ d → f ≡ c → (d ≢ truth false → Stands (first_path d)) → (c ≢ truth false → Stands (first_path c))
        → Stands (cond m (or_else (longer_path l (0 ∷ []) (first_path d)) (first_in l bs)) (or_else (first_in l bs) (longer_path l (beside l bs) (first_path d))))
    go m e (node j a as_) p q x y = own m (y (λ r. let z = q ∙ r in cc))
    go m e (truth true) p q x y = own m (y (λ r. let z : truth true ≡ truth false = q ∙ r in let u : true ≡ false = cc in cc))
    go m e (truth false) p q x y = other m (x (λ r. h.3.3 (sym q ∙ sym r)))
