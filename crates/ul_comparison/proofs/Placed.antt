-- What becomes of atoms in increasing order when one is put among them.
use Rattle.std.proofs.Common.{Less, Equal, Greater, ◌≡◌, ◌∙◌, ◌⊎◌, inl, inr, ◌||◌, ◌&&◌, Bool, true, false, List, [], ◌∷◌, refl, ap, Some, None, Option}
use Rattle.std.specs.Prelude.{All, if◌then◌else◌}
use Rattle.std.specs.Ordering.{is_eq, ordering_reverse}
use Rattle.std.specs.declared.cmp.Ordering.{Ordering}
use Rattle.std.proofs.lemmas.Bool.{cases_Bool}
use Rattle.std.proofs.lemmas.List.Elements.{All-cons, All-head, All-tail}
use Rattle.ul_comparison.specs.Atoms.{AtomFields, IsAtom, atom_cmp, has_atom, is_extras}
use Rattle.ul_comparison.specs.Machines.{MachineFields, atom_holds, put_atom, truths_onto}
use Rattle.ul_comparison.specs.Worlds.{IsAfter, Rise}
use Rattle.ul_comparison.proofs.AtomNumbers.{same_atom}
use Rattle.ul_comparison.proofs.AtomOrder.{atoms_total, same}

which : (o : Ordering) → (o ≡ Less) ⊎ ((o ≡ Equal) ⊎ (o ≡ Greater))
which Less = inl refl
which Equal = inr (inl refl)
which Greater = inr (inr refl)

-- they still increase
pub put_rises : (a : AtomFields) (p : Option AtomFields) (ts : List AtomFields) → IsAfter p a → Rise p ts → Rise p (put_atom a ts)
unfolding put_atom
put_rises a p [] after rise = (after, tt)
put_rises a p (b ∷ ts) after rise = elim (which (atom_cmp a b)) [
  | inl less ↦ rw less (after, (less, rise.1))
  | inr (inl equal) ↦ rw equal rise
  | inr (inr more) ↦
      let back : atom_cmp b a ≡ Less = atoms_total.antisymm b a ∙ ap ordering_reverse more in
      rw more (rise.0, put_rises a (Some b) ts back rise.1)
]

-- they are atoms still
pub put_atoms : (a : AtomFields) (ts : List AtomFields) → IsAtom a → All IsAtom ts → All IsAtom (put_atom a ts)
unfolding put_atom
put_atoms a [] one all = All-cons IsAtom a [] one all
put_atoms a (b ∷ ts) one all = elim (which (atom_cmp a b)) [
  | inl less ↦ rw less (All-cons IsAtom a (b ∷ ts) one all)
  | inr (inl equal) ↦ rw equal all
  | inr (inr more) ↦ rw more (All-cons IsAtom b (put_atom a ts) (All-head IsAtom b ts all) (put_atoms a ts one (All-tail IsAtom b ts all)))
]

-- ---- which atoms they are

twice : (e r : Bool) → (e || r) ≡ (e || (e || r))
twice true r = refl
twice false r = refl

swapped : (e f r : Bool) → (f || (e || r)) ≡ (e || (f || r))
swapped true true r = refl
swapped true false r = refl
swapped false true r = refl
swapped false false r = refl

has_put : (a : AtomFields) (ts : List AtomFields) (x : AtomFields) → has_atom (put_atom a ts) x ≡ (is_eq (atom_cmp a x) || has_atom ts x)
unfolding put_atom
has_put a [] x = refl
has_put a (b ∷ ts) x = elim (which (atom_cmp a b)) [
  | inl less ↦ rw less refl
  | inr (inl equal) ↦ rw (equal, atoms_total.congr a b x equal) (twice (is_eq (atom_cmp b x)) (has_atom ts x))
  | inr (inr more) ↦ rw (more, has_put a ts x) (swapped (is_eq (atom_cmp a x)) (is_eq (atom_cmp b x)) (has_atom ts x))
]

held : (e t s h g : Bool) → (e ≡ true → h ≡ g) → ((if h then (e || t) else t) || (s && g)) ≡ (t || ((e || s) && g))
held true t s true g same = rw (← same refl) (refl_or t s)
  where
    refl_or : (t s : Bool) → (true || (s && true)) ≡ (t || true)
    refl_or true s = refl
    refl_or false s = refl
held true true s false g same = refl
held true false s false g same = rw (← same refl) (never s)
  where
    never : (s : Bool) → (s && false) ≡ false
    never true = refl
    never false = refl
held false t s true g same = refl
held false t s false g same = refl

either : (m : MachineFields) (a x : AtomFields) (ts : List AtomFields)
    → has_atom (if atom_holds m a then put_atom a ts else ts) x ≡ (if atom_holds m a then (is_eq (atom_cmp a x) || has_atom ts x) else has_atom ts x)
either m a x ts = elim (cases_Bool (atom_holds m a)) [
  | inl holds ↦ rw holds (has_put a ts x)
  | inr fails ↦ rw fails refl
]

-- the truths of a machine are those that were there and those of the atoms that hold on it
pub truths_are : (m : MachineFields) (ts atoms : List AtomFields) (x : AtomFields)
    → has_atom (truths_onto m ts atoms) x ≡ (has_atom ts x || (has_atom atoms x && atom_holds m x))
unfolding truths_onto
truths_are m ts [] x = or_false (has_atom ts x)
  where
    or_false : (b : Bool) → b ≡ (b || false)
    or_false true = refl
    or_false false = refl
truths_are m ts (a ∷ atoms) x =
    truths_are m (if atom_holds m a then put_atom a ts else ts) atoms x
    ∙ ap (λ b. b || (has_atom atoms x && atom_holds m x)) (either m a x ts)
    ∙ held (is_eq (atom_cmp a x)) (has_atom ts x) (has_atom atoms x) (atom_holds m a) (atom_holds m x) (λ e. ap (atom_holds m) (same_atom a x (same _ e)))

-- the truths of a machine increase
pub truths_rise : (m : MachineFields) (ts atoms : List AtomFields) → Rise None ts → Rise None (truths_onto m ts atoms)
unfolding truths_onto
truths_rise m ts [] rise = rise
truths_rise m ts (a ∷ atoms) rise = truths_rise m (if atom_holds m a then put_atom a ts else ts) atoms (one (atom_holds m a))
  where
    one : (b : Bool) → Rise None (if b then put_atom a ts else ts)
    one true = put_rises a None ts tt rise
    one false = rise

-- no comparison with `extras` holds on a machine
extras_fail : (m : MachineFields) (x : AtomFields) → is_extras x.variable ≡ true → atom_holds m x ≡ false
unfolding atom_holds
extras_fail m x e = rw e refl

-- so none is among its truths
pub no_extras : (m : MachineFields) (atoms : List AtomFields) (x : AtomFields) → is_extras x.variable ≡ true → has_atom (truths_onto m [] atoms) x ≡ false
no_extras m atoms x e = truths_are m [] atoms x ∙ ap (λ h. has_atom atoms x && h) (extras_fail m x e) ∙ never (has_atom atoms x)
  where
    never : (b : Bool) → (b && false) ≡ false
    never true = refl
    never false = refl
