-- A world in which no opaque comparison holds that isn't asked.
use Rattle.std.proofs.Common.{◌≡◌, ◌∙◌, ◌&&◌, ◌||◌, ℕ, zero, suc, List, [], ◌∷◌, Bool, true, false, Less, Equal, Greater, Ordering, Option, Some, None, refl, ap, sym, cond}
use Rattle.std.specs.Prelude.{All, if◌then◌else◌, not}
use Rattle.std.specs.Ordering.{is_eq}
use Rattle.std.proofs.lemmas.List.Elements.{All-cons, All-head, All-tail}
use Rattle.ul_comparison.specs.Atoms.{AtomFields, IsAtom, has_atom}
use Rattle.ul_comparison.specs.Worlds.{IsAfter, IsWorld, Rise, WorldFields}
use Rattle.ul_comparison.proofs.ForCallers.{atoms_total}
use Rattle.ul_nodes.specs.Levels.{atom_level}
use Rattle.ul_nodes.specs.Plain.{text_cmp}
use Rattle.ul_nodes.proofs.ForCallers.{cmp_equal}
use Rattle.ul_tree.specs.Sample.{atom_of}
use Rattle.ul_tree.specs.Values.{has_level, mark_of, value_of}
use Rattle.ul_tree.proofs.ForCallers.{atom_back}
use Rattle.laws_comparisons.specs.Comparisons.{HaveAlike, with_truths}
use Rattle.laws_comparisons.proofs.Stripped.{masked}

module _ (asked : List AtomFields) where
  -- those of the comparisons that are asked
  abbrev pub kept : List AtomFields → List AtomFields
  kept [] = []
  kept (a ∷ ts) = if has_atom asked a then a ∷ kept ts else kept ts

  -- ---- they make a world

  atoms_kept : (ts : List AtomFields) → All IsAtom ts → All IsAtom (kept ts)
  atoms_kept [] h = h
  atoms_kept (a ∷ ts) h = go (has_atom asked a) (atoms_kept ts (All-tail IsAtom a ts h))
    where
      go : (b : Bool) → All IsAtom (kept ts) → All IsAtom (cond b (a ∷ kept ts) (kept ts))
      go true x = All-cons IsAtom a (kept ts) (All-head IsAtom a ts h) x
      go false x = x

  weaker : (b : Option AtomFields) (a : AtomFields) (ts : List AtomFields) → IsAfter b a → Rise (Some a) ts → Rise b ts
  weaker b a [] x r = tt
  weaker None a (c ∷ ts) x r = (tt, r.1)
  weaker (Some p) a (c ∷ ts) x r = (atoms_total.trans p a c x r.0, r.1)

  rise_kept : (b : Option AtomFields) (ts : List AtomFields) → Rise b ts → Rise b (kept ts)
  rise_kept b [] h = tt
  rise_kept b (a ∷ ts) h = go (has_atom asked a) (rise_kept (Some a) ts h.1)
    where
      go : (t : Bool) → Rise (Some a) (kept ts) → Rise b (cond t (a ∷ kept ts) (kept ts))
      go true x = (h.0, x)
      go false x = weaker b a (kept ts) h.0 x

  pub kept_world : (w : WorldFields) → IsWorld w → IsWorld (with_truths w (kept w.truths))
  kept_world w h = record {
    major = h.major;
    minor = h.minor;
    patch = h.patch;
    texts = h.texts;
    atoms = atoms_kept w.truths h.atoms;
    increasing = rise_kept None w.truths h.increasing;
  }

  -- ---- which they are

  chosen : (h e p r : Bool) → (e ≡ true → p ≡ h) → (if h then (e || (p && r)) else (p && r)) ≡ (p && (e || r))
  chosen true true p r f = ap (λ z. z && true) (sym (f refl))
  chosen false true p r f = ap (λ z. z && r) (f refl) ∙ ap (λ z. z && true) (sym (f refl))
  chosen true false p r f = refl
  chosen false false p r f = refl

  is_equal : (o : Ordering) → is_eq o ≡ true → o ≡ Equal
  is_equal Less e = absurd (cc e)
  is_equal Equal e = refl
  is_equal Greater e = absurd (cc e)

  level_kept : (ts : List AtomFields) (l : List ℕ) → has_level (kept ts) l ≡ (has_atom asked (atom_of l) && has_level ts l)
  level_kept [] l = none (has_atom asked (atom_of l))
    where
      none : (b : Bool) → false ≡ (b && false)
      none true = refl
      none false = refl
  level_kept (a ∷ ts) l =
      either (has_atom asked a)
      ∙ ap (λ z. if has_atom asked a then (is_eq (text_cmp (atom_level a) l) || z) else z) (level_kept ts l)
      ∙ chosen (has_atom asked a) (is_eq (text_cmp (atom_level a) l)) (has_atom asked (atom_of l)) (has_level ts l)
      (λ e. ap (has_atom asked) (ap atom_of (sym (cmp_equal (atom_level a) l (is_equal (text_cmp (atom_level a) l) e))) ∙ atom_back a))
    where
      either : (b : Bool) → has_level (cond b (a ∷ kept ts) (kept ts)) l ≡ cond b (is_eq (text_cmp (atom_level a) l) || has_level (kept ts) l) (has_level (kept ts) l)
      either true = refl
      either false = refl

  pub kept_alike : (ts : List AtomFields) → HaveAlike asked ts (kept ts)
  kept_alike ts a e =
      sym (level_kept ts (atom_level a) ∙ ap (λ b. b && has_atom ts a) (ap (has_atom asked) (atom_back a) ∙ e))

  -- the values of its levels are those of the world, where no comparison holds that isn't asked
  pub masked_is : (w : WorldFields) (x l : List ℕ) → masked asked (value_of w x) l ≡ value_of (with_truths w (kept w.truths)) x l
  masked_is w x [] = refl
  masked_is w x (zero ∷ []) = refl
  masked_is w x (suc zero ∷ []) = refl
  masked_is w x (suc (suc i) ∷ []) = refl
  masked_is w x (a ∷ b ∷ rest) = go (has_atom asked (atom_of (a ∷ b ∷ rest))) ∙ ap mark_of (sym (level_kept w.truths (a ∷ b ∷ rest)))
    where
      go : (t : Bool) → cond (not t) (0 ∷ []) (mark_of (has_level w.truths (a ∷ b ∷ rest))) ≡ mark_of (t && has_level w.truths (a ∷ b ∷ rest))
      go true = refl
      go false = refl
