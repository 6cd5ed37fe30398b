-- By which parts of versions clauses admit them.
use Rattle.std.specs.Prelude.{◌≡◌, ◌-◌, ◌&&◌, ℕ, List, Bool, true, false, not, Option, Some, None, Result, Ok, length, slice_get, if◌then◌else◌}
use Rattle.std.specs.Ordering.{is_eq, is_gt, is_lt}
use Rattle.std.specs.declared.alloc.AllocError.{AllocError}
use Rattle.ul_version.specs.Fields.{Fields}
use Rattle.ul_specifier.specs.Clauses.{ClauseFields, has_local}
use Rattle.ul_specifier.specs.Meaning.{meets_clause}
use Rattle.ul_specifier.specs.declared.clause.Op.{Op}
use Rattle.ul_specifier.specs.declared.clause.Op.TheVariants.{Equal, Unequal, AtLeast, AtMost, More, Less, Compatible, Distinct}
use Rattle.ul_ranges.specs.Flags.{both, either, less}
use Rattle.ul_prepared.specs.Parts.{side}
use Rattle.ul_prepared.specs.declared.clauses.Operation.{Operation}
use Rattle.ul_prepared.specs.declared.clauses.Operation.TheVariants as operation
use Rattle.ul_prepared.specs.declared.parts.Part.{Part}
use Rattle.ul_prepared.specs.declared.parts.Part.TheVariants.{Whole, Public, Prefix}

-- c equals V by a part of the two
abbrev pub equals_by : Part → Fields → Fields → Bool
equals_by part V c = is_eq (side part V c)

-- c is at least V, both without their local parts
abbrev pub is_from : Fields → Fields → Bool
is_from V c = not (is_lt (side Public V c))

-- c is at most V, both without their local parts
abbrev pub is_up_to : Fields → Fields → Bool
is_up_to V c = not (is_gt (side Public V c))

-- c is at least V, both without their local parts, and equals it up to the last number of V's release
abbrev pub is_compatible_with : Fields → Fields → Bool
is_compatible_with V c = is_from V c && equals_by (Prefix (length V.release - 1)) V c

-- by which part `==` and `!=` compare; an exclusion compares by the whole
abbrev pub equality_part : ClauseFields → Part
equality_part s = if s.prefix then Prefix (length s.version.release) else if has_local s.version then Whole else Public

-- `>` or `<`
abbrev pub is_strict : Op → Bool
is_strict Equal = false
is_strict Unequal = false
is_strict AtLeast = false
is_strict AtMost = false
is_strict More = true
is_strict Less = true
is_strict Compatible = false
is_strict Distinct = false

-- whether an operator is `>`: of the two it admits the versions after its version's release, and `<` those before it
abbrev pub admits_after : Op → Bool
admits_after Equal = false
admits_after Unequal = false
admits_after AtLeast = false
admits_after AtMost = false
admits_after More = true
admits_after Less = false
admits_after Compatible = false
admits_after Distinct = false

-- whether there is a version that meets the clause
abbrev pub is_met : ClauseFields → Option Fields → Bool
is_met s None = false
is_met s (Some c) = meets_clause s c

-- whether the version at a place meets the clause
abbrev pub is_met_at : ClauseFields → List Fields → ℕ → Bool
is_met_at s versions place = is_met s (slice_get versions place)

-- what an operation makes of two sets
abbrev pub made_by : Operation → List Bool → List Bool → List Bool
made_by operation.Meet = both
made_by operation.Join = either
made_by operation.Less = less

-- a set that an operation makes of a set and another one, which was made
abbrev pub IsMadeWith : (List Bool → List Bool → List Bool) → List Bool → Result (List Bool) AllocError → List Bool → Type 0
IsMadeWith operation set made whole = (others : List Bool) × (made ≡ Ok others) × (whole ≡ operation set others)
