-- What a reader's answer says.
use Rattle.std.specs.Prelude.{◌≡◌, ℕ, List, Option, Some, None, Result, Ok, Err, Vec, option_map}
use Rattle.std.specs.Borrow.{Bor}
use Rattle.ul_base.specs.declared.name.NameFault.{NameFault}
use Rattle.ul_base.specs.declared.name.NameFault.TheVariants as name
use Rattle.ul_specifier.specs.Clauses.{ClauseFields}
use Rattle.ul_specifier.specs.declared.fault.SpecFault.{SpecFault}
use Rattle.ul_specifier.specs.declared.fault.SpecFault.TheVariants as spec
use Rattle.ul_comparison.specs.Formulas.{Formula}
use Rattle.ul_marker.specs.Views.{marker_view}
use Rattle.ul_marker.specs.declared.fault.MarkerFault.{MarkerFault}
use Rattle.ul_marker.specs.declared.fault.MarkerFault.TheVariants as marker
use Rattle.ul_marker.specs.declared.marker.Marker.{Marker}
use Rattle.ul_requirement.specs.Fields.{RequirementFields}
use Rattle.ul_requirement.specs.Reading.{Front, IsByUrl, Reading, requirement, unread}
use Rattle.ul_requirement.specs.declared.fault.PartFault.{PartFault}
use Rattle.ul_requirement.specs.declared.fault.PartFault.TheVariants as part
use Rattle.ul_requirement.specs.declared.fault.ReqFault.{ReqFault}
use Rattle.ul_requirement.specs.declared.fault.ReqFault.TheVariants.{Url, NoReading, NoMemory}

-- the reading of a text, want of memory aside
abbrev pub IsReading : Result RequirementFields ReqFault → Reading → Type 0
IsReading (Ok q) reading = reading ≡ requirement q
IsReading (Err Url) reading = IsByUrl reading
IsReading (Err NoReading) reading = reading ≡ unread
IsReading (Err NoMemory) reading = Unit {0}

-- the reading of a part of a text, or that there is none, want of memory aside
abbrev pub Reads : {X Y : Type 0} → (X → Y) → Result X PartFault → Option Y → Type 0
Reads view (Ok x) reading = reading ≡ Some (view x)
Reads view (Err part.NoReading) reading = reading ≡ None
Reads view (Err part.NoMemory) reading = Unit {0}

-- the fault of a part, by that of its name
abbrev pub part_of_name : NameFault → PartFault
part_of_name name.NoReading = part.NoReading
part_of_name name.NoMemory = part.NoMemory

-- the fault of a part, by that of its specifiers
abbrev pub part_of_spec : SpecFault → PartFault
part_of_spec spec.NoReading = part.NoReading
part_of_spec spec.NoMemory = part.NoMemory

-- the fault of a part, by that of its marker
abbrev pub part_of_marker : MarkerFault → PartFault
part_of_marker marker.NoReading = part.NoReading
part_of_marker marker.NoMemory = part.NoMemory

-- the fault of a requirement, by that of a part
abbrev pub fault_of_part : PartFault → ReqFault
fault_of_part part.NoReading = NoReading
fault_of_part part.NoMemory = NoMemory

-- names in a vector
abbrev pub names_view : {Z : Type 0} → Vec (List ℕ) Z → List (List ℕ)
names_view v = v.items

-- two texts, which stand behind references
abbrev pub pair_view : Option (Bor (List ℕ) × Bor (List ℕ)) → Option (List ℕ × List ℕ)
pair_view None = None
pair_view (Some p) = Some (p.0.now, p.1.now)

-- a text, which may stand behind a reference
abbrev pub text_view : Option (Bor (List ℕ)) → Option (List ℕ)
text_view None = None
text_view (Some text) = Some text.now

-- a text, and one that may stand behind it
abbrev pub parts_view : Bor (List ℕ) × Option (Bor (List ℕ)) → List ℕ × Option (List ℕ)
parts_view p = (p.0.now, text_view p.1)

-- extras, and the text after them
abbrev pub extras_view : {Z : Type 0} → Vec (List ℕ) Z × Bor (List ℕ) → List (List ℕ) × List ℕ
extras_view p = (p.0.items, p.1.now)

-- a name, extras, and the text behind them
abbrev pub front_view : {Z : Type 0} → List ℕ × Vec (List ℕ) Z × Bor (List ℕ) → Front
front_view p = record { name = p.0; extras = p.1.items; rest = p.2.now }

-- a marker, if there is one
abbrev pub optional_marker : Option Marker → Option Formula
optional_marker = option_map marker_view

-- specifiers and a marker
abbrev pub tail_view : List ClauseFields × Option Marker → List ClauseFields × Option Formula
tail_view p = (p.0, option_map marker_view p.1)
