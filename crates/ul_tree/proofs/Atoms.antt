-- Atoms put into a list in order, and taken out.
use Rattle.std.proofs.Common.{◌≡◌, ◌≢◌, ℕ, suc, zero, List, [], ◌∷◌, Bool, true, false, ◌||◌, refl, ap, sym, ◌∙◌, subst, arith, Less, Equal, Greater, Ordering, Option, Some, None}
use Rattle.std.specs.List.{All}
use Rattle.std.specs.Ordering.{is_eq}
use Rattle.ul_comparison.specs.Atoms.{AtomFields, IsAtom, atom_cmp, atom_key}
use Rattle.ul_comparison.specs.Worlds.{IsAfter, Rise}
use Rattle.ul_nodes.specs.Levels.{atom_level}
use Rattle.ul_nodes.specs.Plain.{text_cmp, by_order}
use Rattle.ul_tree.specs.Values.{has_level}
use Rattle.ul_nodes.proofs.ForCallers.{cmp_itself, cmp_equal, cmp_over, cmp_trans}

-- each element has a property
abbrev pub Each : {X : Type 0} → (X → Type 0) → List X → Type 0
Each P [] = Unit {0}
Each P (x ∷ xs) = P x × Each P xs

pub all_of_each : {X : Type 0} (P : X → Type 0) (xs : List X) → Each P xs → All P xs
all_of_each P [] h = λ k d less. absurd (omega arith)
all_of_each P (x ∷ xs) h = go (all_of_each P xs h.1)
  where
    go : All P xs → All P (x ∷ xs)
    go ih zero d less = h.0
    go ih (suc k) d less = ih k d (omega arith)

-- atoms in increasing order, after one
abbrev pub Rises : Option AtomFields → List AtomFields → Type 0
Rises b [] = Unit {0}
Rises b (a ∷ rest) = IsAfter b a × IsAtom a × Rises (Some a) rest

pub rise_of_rises : (b : Option AtomFields) (ss : List AtomFields) → Rises b ss → Rise b ss
rise_of_rises b [] h = tt
rise_of_rises b (s ∷ ss) h = (h.0, rise_of_rises (Some s) ss h.2)

pub atoms_of_rises : (b : Option AtomFields) (ss : List AtomFields) → Rises b ss → Each IsAtom ss
atoms_of_rises b [] h = tt
atoms_of_rises b (s ∷ ss) h = (h.1, atoms_of_rises (Some s) ss h.2)

abbrev pub insert : AtomFields → List AtomFields → List AtomFields
insert a [] = a ∷ []
insert a (s ∷ ss) = by_order (atom_cmp s a) (s ∷ insert a ss) (s ∷ ss) (a ∷ s ∷ ss)

abbrev pub remove : AtomFields → List AtomFields → List AtomFields
remove a [] = []
remove a (s ∷ ss) = by_order (atom_cmp s a) (s ∷ remove a ss) (remove a ss) (s ∷ remove a ss)

has_first : (s a : AtomFields) (ss : List AtomFields) (o : Ordering) → atom_cmp s a ≡ o → has_level (s ∷ ss) (atom_level a) ≡ (is_eq o || has_level ss (atom_level a))
has_first s a ss o e = ap (λ o. is_eq o || has_level ss (atom_level a)) e

pub has_inserted : (a : AtomFields) (ss : List AtomFields) → has_level (insert a ss) (atom_level a) ≡ true
has_inserted a [] = has_first a a [] Equal (cmp_itself (atom_key a))
has_inserted a (s ∷ ss) = go (atom_cmp s a) refl (has_inserted a ss)
  where
    go : (o : Ordering) → atom_cmp s a ≡ o → has_level (insert a ss) (atom_level a) ≡ true → has_level (by_order o (s ∷ insert a ss) (s ∷ ss) (a ∷ s ∷ ss)) (atom_level a) ≡ true
    go Less e ih = has_first s a (insert a ss) Less e ∙ ih
    go Equal e ih = has_first s a ss Equal e
    go Greater e ih = has_first a a (s ∷ ss) Equal (cmp_itself (atom_key a))

pub has_removed : (a : AtomFields) (ss : List AtomFields) → has_level (remove a ss) (atom_level a) ≡ false
has_removed a [] = refl
has_removed a (s ∷ ss) = go (atom_cmp s a) refl (has_removed a ss)
  where
    go : (o : Ordering) → atom_cmp s a ≡ o → has_level (remove a ss) (atom_level a) ≡ false → has_level (by_order o (s ∷ remove a ss) (remove a ss) (s ∷ remove a ss)) (atom_level a) ≡ false
    go Less e ih = has_first s a (remove a ss) Less e ∙ ih
    go Equal e ih = ih
    go Greater e ih = has_first s a (remove a ss) Greater e ∙ ih

pub unlike : (o : Ordering) (t : Bool) → o ≢ Equal → (is_eq o || t) ≡ t
unlike Less t n = refl
unlike Equal t n = absurd (n refl)
unlike Greater t n = refl

pub has_inserted_other : (a : AtomFields) (l : List ℕ) (ss : List AtomFields) → text_cmp (atom_level a) l ≢ Equal → has_level (insert a ss) l ≡ has_level ss l
has_inserted_other a l [] n = unlike (text_cmp (atom_level a) l) false n
has_inserted_other a l (s ∷ ss) n = go (atom_cmp s a) (has_inserted_other a l ss n)
  where
    go : (o : Ordering) → has_level (insert a ss) l ≡ has_level ss l → has_level (by_order o (s ∷ insert a ss) (s ∷ ss) (a ∷ s ∷ ss)) l ≡ has_level (s ∷ ss) l
    go Less ih = ap (λ t. is_eq (text_cmp (atom_level s) l) || t) ih
    go Equal ih = refl
    go Greater ih = unlike (text_cmp (atom_level a) l) (has_level (s ∷ ss) l) n

pub has_removed_other : (a : AtomFields) (l : List ℕ) (ss : List AtomFields) → text_cmp (atom_level a) l ≢ Equal → has_level (remove a ss) l ≡ has_level ss l
has_removed_other a l [] n = refl
has_removed_other a l (s ∷ ss) n = go (atom_cmp s a) refl (has_removed_other a l ss n)
  where
    go : (o : Ordering) → atom_cmp s a ≡ o → has_level (remove a ss) l ≡ has_level ss l → has_level (by_order o (s ∷ remove a ss) (remove a ss) (s ∷ remove a ss)) l ≡ has_level (s ∷ ss) l
    go Less e ih = ap (λ t. is_eq (text_cmp (atom_level s) l) || t) ih
    go Equal e ih =
        ih
        ∙ sym (unlike (text_cmp (atom_level s) l) (has_level ss l) (subst (λ (z : List ℕ). text_cmp z l ≢ Equal) (sym (cmp_equal (atom_level s) (atom_level a) e)) n))
    go Greater e ih = ap (λ t. is_eq (text_cmp (atom_level s) l) || t) ih

pub rises_inserted : (a : AtomFields) (ss : List AtomFields) (b : Option AtomFields) → Rises b ss → IsAfter b a → IsAtom a → Rises b (insert a ss)
rises_inserted a [] b h x y = (x, y, tt)
rises_inserted a (s ∷ ss) b h x y = go (atom_cmp s a) refl (λ e. rises_inserted a ss (Some s) h.2 e y)
  where
    go : (o : Ordering) → atom_cmp s a ≡ o → (atom_cmp s a ≡ Less → Rises (Some s) (insert a ss)) → Rises b (by_order o (s ∷ insert a ss) (s ∷ ss) (a ∷ s ∷ ss))
    go Less e ih = (h.0, h.1, ih e)
    go Equal e ih = h
    go Greater e ih = (x, y, (cmp_over (atom_key s) (atom_key a) e, h.1, h.2))

after_atom : (b : Option AtomFields) (s t : AtomFields) → IsAfter b s → atom_cmp s t ≡ Less → IsAfter b t
after_atom None s t x e = tt
after_atom (Some j) s t x e = cmp_trans (atom_key j) (atom_key s) (atom_key t) x e

rises_weaker : (ss : List AtomFields) (b : Option AtomFields) (s : AtomFields) → IsAfter b s → Rises (Some s) ss → Rises b ss
rises_weaker [] b s x h = tt
rises_weaker (t ∷ ss) b s x h = (after_atom b s t x h.0, h.1, h.2)

pub rises_removed : (a : AtomFields) (ss : List AtomFields) (b : Option AtomFields) → Rises b ss → Rises b (remove a ss)
rises_removed a [] b h = tt
rises_removed a (s ∷ ss) b h = go (atom_cmp s a) (rises_removed a ss (Some s) h.2)
  where
    go : (o : Ordering) → Rises (Some s) (remove a ss) → Rises b (by_order o (s ∷ remove a ss) (remove a ss) (s ∷ remove a ss))
    go Less ih = (h.0, h.1, ih)
    go Equal ih = rises_weaker (remove a ss) b s h.0 ih
    go Greater ih = (h.0, h.1, ih)
