-- Atoms in increasing order: where one stands among them, or would stand.
use Rattle.std.proofs.Common.{Less, Equal, Greater, arith, ◌<◌, ◌≤◌, ◌≡◌, ◌∙◌, ℕ, zero, suc, true, false, true≢false, List, [], ◌∷◌, get_or, length, refl, sym, ap, Some, Option}
use Rattle.std.specs.Cmp.{IsTotalOrder}
use Rattle.std.specs.List.{insert}
use Rattle.std.specs.List.Sorted.{IsPartitionedBy}
use Rattle.std.specs.Ordering.{is_eq, is_lt, ordering_reverse}
use Rattle.std.specs.declared.cmp.Ordering.{Ordering}
use Rattle.std.proofs.lemmas.Cmp.{nat_list_cmp_total, on_total}
use Rattle.ul_comparison.specs.Atoms.{AtomFields, atom_cmp, atom_key, has_atom}
use Rattle.ul_comparison.specs.Machines.{put_atom}
use Rattle.ul_comparison.specs.Rising.{IsPlace}
use Rattle.ul_comparison.specs.Worlds.{Rise}

-- the order of atoms is one
pub atoms_total : IsTotalOrder atom_cmp
atoms_total = on_total atom_key nat_list_cmp_total

-- what comes after an atom that doesn't come before another comes after that one
pub beyond : (a b c : AtomFields) → atom_cmp b c ≡ Less → is_lt (atom_cmp b a) ≡ false → (o : Ordering) → o ≡ atom_cmp b a → atom_cmp c a ≡ Greater
beyond a b c next late Less e = absurd (true≢false (rw (← e) at late))
beyond a b c next late Equal e = atoms_total.antisymm c a ∙ ap ordering_reverse (sym (atoms_total.congr b a c (sym e)) ∙ next)
beyond a b c next late Greater e = atoms_total.antisymm c a ∙ ap ordering_reverse (atoms_total.trans a b c (atoms_total.antisymm a b ∙ ap ordering_reverse (sym e)) next)

-- an atom comes before each of those that rise from it
later : (b : AtomFields) (ts : List AtomFields) → Rise (Some b) ts → (j : ℕ) (d : AtomFields) → j < length ts → atom_cmp b (get_or ts j d) ≡ Less
later b [] rise j d l = absurd (omega arith)
later b (c ∷ ts) rise zero d l = rise.0
later b (c ∷ ts) rise (suc j) d l = atoms_total.trans b c (get_or ts j d) rise.0 (later c ts rise.1 j d (omega arith))

lesser : (o : Ordering) → is_lt o ≡ true → o ≡ Less
lesser Less h = refl
lesser Equal h = absurd (true≢false (sym h))
lesser Greater h = absurd (true≢false (sym h))

-- those that come before an atom stand in front
pub parted : (a : AtomFields) (p : Option AtomFields) (ts : List AtomFields) → Rise p ts → IsPartitionedBy (λ b. is_lt (atom_cmp b a)) ts
parted a p [] rise i j d le l h = absurd (omega arith)
parted a p (b ∷ ts) rise zero zero d le l h = h
parted a p (b ∷ ts) rise zero (suc j) d le l h =
    let less : atom_cmp b a ≡ Less = atoms_total.trans b (get_or ts j d) a (later b ts rise.1 j d (omega arith)) (lesser _ h) in
    rw less refl
parted a p (b ∷ ts) rise (suc i) zero d le l h = absurd (omega arith)
parted a p (b ∷ ts) rise (suc i) (suc j) d le l h = parted a (Some b) ts rise.1 i j d (omega arith) (omega arith) h

next_place : (a b : AtomFields) (ts : List AtomFields) (i : ℕ) → IsPlace a (b ∷ ts) (suc i) → IsPlace a ts i
next_place a b ts i place =
    ((λ k d low high. place.0 (suc k) d (omega arith) (omega arith)), λ k d low high. place.1 (suc k) d (omega arith) (omega arith))

-- none of those that rise from one that doesn't come before an atom is that atom
none_beyond : (a b : AtomFields) (ts : List AtomFields) → Rise (Some b) ts → is_lt (atom_cmp b a) ≡ false → has_atom ts a ≡ false
none_beyond a b [] rise late = refl
none_beyond a b (c ∷ ts) rise late =
    let more : atom_cmp c a ≡ Greater = beyond a b c rise.0 late (atom_cmp b a) refl in
    let none : is_lt (atom_cmp c a) ≡ false = rw more refl in
    rw more (none_beyond a c ts rise.1 none)

unequal : (o : Ordering) → is_lt o ≡ false → is_eq o ≡ false → o ≡ Greater
unequal Less h g = absurd (true≢false h)
unequal Equal h g = absurd (true≢false g)
unequal Greater h g = refl

pub same : (o : Ordering) → is_eq o ≡ true → o ≡ Equal
same Less h = absurd (true≢false (sym h))
same Equal h = refl
same Greater h = absurd (true≢false (sym h))

-- an atom that stands at its place is there, and isn't put there again
pub there : (a : AtomFields) (p : Option AtomFields) (ts : List AtomFields) (i : ℕ) (d : AtomFields) → Rise p ts → IsPlace a ts i → i < length ts
    → is_eq (atom_cmp (get_or ts i d) a) ≡ true → (has_atom ts a ≡ true) × (put_atom a ts ≡ ts)
unfolding put_atom
there a p [] i d rise place l e = absurd (omega arith)
there a p (b ∷ ts) zero d rise place l e =
    let eq : atom_cmp b a ≡ Equal = same _ e in
    let back : atom_cmp a b ≡ Equal = atoms_total.antisymm a b ∙ ap ordering_reverse eq in
    (rw eq refl, rw back refl)
there a p (b ∷ ts) (suc i) d rise place l e =
    let less : atom_cmp b a ≡ Less = lesser _ (place.0 0 d (omega arith) (omega arith)) in
    let back : atom_cmp a b ≡ Greater = atoms_total.antisymm a b ∙ ap ordering_reverse less in
    let rest = there a (Some b) ts i d rise.1 (next_place a b ts i place) (omega arith) e in
    (rw less rest.0, rw back (ap (λ us. b ∷ us) rest.1))

-- an atom that doesn't stand at its place isn't there, and is put there
pub absent : (a : AtomFields) (p : Option AtomFields) (ts : List AtomFields) (i : ℕ) (d : AtomFields) → Rise p ts → IsPlace a ts i → i ≤ length ts
    → (i < length ts → is_eq (atom_cmp (get_or ts i d) a) ≡ false) → (has_atom ts a ≡ false) × (put_atom a ts ≡ insert ts i a)
unfolding put_atom
absent a p [] i d rise place l e = let z : i ≡ 0 = omega arith in rw z (refl, refl)
absent a p (b ∷ ts) zero d rise place l e =
    let late : is_lt (atom_cmp b a) ≡ false = place.1 0 d (omega arith) (omega arith) in
    let more : atom_cmp b a ≡ Greater = unequal _ late (e (omega arith)) in
    let back : atom_cmp a b ≡ Less = atoms_total.antisymm a b ∙ ap ordering_reverse more in
    (rw more (none_beyond a b ts rise.1 late), rw back refl)
absent a p (b ∷ ts) (suc i) d rise place l e =
    let less : atom_cmp b a ≡ Less = lesser _ (place.0 0 d (omega arith) (omega arith)) in
    let back : atom_cmp a b ≡ Greater = atoms_total.antisymm a b ∙ ap ordering_reverse less in
    let rest = absent a (Some b) ts i d rise.1 (next_place a b ts i place) (omega arith) (λ h. e (omega arith)) in
    (rw less rest.0, rw back (ap (λ us. b ∷ us) rest.1))
