-- What holds of all machines and opaque comparisons.
use Rattle.std.specs.Prelude.{◌≡◌, ◌↔◌, ◌&&◌, ℕ, true, false, List, None}
use Rattle.std.specs.Str.Iter.{HasSubslice}
use Rattle.ul_comparison.specs.Atoms.{AtomFields, has_atom, is_extras}
use Rattle.ul_comparison.specs.Machines.{MachineFields, atom_holds, is_part, world_of}
use Rattle.ul_comparison.specs.Worlds.{Rise}

-- the truths of a machine's world are those of the given atoms that hold on the machine
abbrev pub TruthsOfMachine : Type 0
TruthsOfMachine = (m : MachineFields) (atoms : List AtomFields) (a : AtomFields)
    → has_atom (world_of m atoms).truths a ≡ (has_atom atoms a && atom_holds m a)

-- no comparison with `extras` is among them
abbrev pub NoExtrasOnMachine : Type 0
NoExtrasOnMachine = (m : MachineFields) (atoms : List AtomFields) (a : AtomFields)
    → is_extras a.variable ≡ true → has_atom (world_of m atoms).truths a ≡ false

-- they increase, each once
abbrev pub TruthsIncrease : Type 0
TruthsIncrease = (m : MachineFields) (atoms : List AtomFields) → Rise None (world_of m atoms).truths

-- a text is part of another exactly where it stands between two others in it
abbrev pub PartIsBetween : Type 0
PartIsBetween = (piece text : List ℕ) → (is_part piece text ≡ true) ↔ HasSubslice text piece
