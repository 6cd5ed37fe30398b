-- Atoms that increase pass the test, and no others do.
use Rattle.std.proofs.Common.{◌≡◌, ◌≤◌, ◌-◌, ℕ, arith, drop, get_or, length, subst, take, List, [], ◌∷◌, Bool, true, ◌&&◌, true≢false, sym, refl, Some, None}
use Rattle.std.specs.Ordering.{is_lt}
use Rattle.std.specs.declared.cmp.Ordering.{Ordering}
use Rattle.std.specs.declared.cmp.Ordering.TheVariants as Answer
use Rattle.std.specs.Prelude.{All}
use Rattle.std.proofs.lemmas.List.{take_all}
use Rattle.std.proofs.lemmas.List.Elements.{All-cons}
use Rattle.ul_comparison.specs.Atoms.{AtomFields, IsAtom, atom_cmp}
use Rattle.ul_comparison.specs.Rising.{rises, rises_after}
use Rattle.ul_comparison.specs.Worlds.{Rise}

less : (o : Ordering) (b : Bool) → (is_lt o && b) ≡ true → (o ≡ Answer.Less) × (b ≡ true)
less Answer.Less b h = (refl, h)
less Answer.Equal b h = absurd (true≢false (sym h))
less Answer.Greater b h = absurd (true≢false (sym h))

rise_after : (a : AtomFields) (atoms : List AtomFields) → rises_after a atoms ≡ true → Rise (Some a) atoms
rise_after a [] h = tt
rise_after a (b ∷ rest) h = let (before, more) = less (atom_cmp a b) (rises_after b rest) h in (before, rise_after b rest more)

-- what passes the test increases
pub rise : (atoms : List AtomFields) → rises atoms ≡ true → Rise None atoms
rise [] h = tt
rise (a ∷ rest) h = (tt, rise_after a rest h)

rises_from : (a : AtomFields) (atoms : List AtomFields) → Rise (Some a) atoms → rises_after a atoms ≡ true
rises_from a [] h = refl
rises_from a (b ∷ rest) h = rw (h.0) (rises_from b rest h.1)

-- what increases passes the test
pub risen : (atoms : List AtomFields) → Rise None atoms → rises atoms ≡ true
risen [] h = refl
risen (a ∷ rest) h = rises_from a rest h.1

-- the first of atoms and the others are atoms, so all are
pub all_from : (atoms : List AtomFields) (first : AtomFields) (i : ℕ) → 1 ≤ length atoms → first ≡ get_or atoms 0 first → IsAtom first
    → length (take (length atoms - 1) (drop 1 atoms)) ≤ i → All IsAtom (take i (take (length atoms - 1) (drop 1 atoms))) → All IsAtom atoms
all_from [] first i some is one past all = absurd (omega arith)
all_from (a ∷ rest) first i some is one past all =
    let whole : take (length (a ∷ rest) - 1) rest ≡ rest = take_all (length (a ∷ rest) - 1) rest (omega arith) in
    let seen : All IsAtom (take i rest) = rw whole at all in
    let over : length rest ≤ i = rw whole at past in
    All-cons IsAtom a rest (subst IsAtom is one) (rw (take_all i rest over) at seen)
