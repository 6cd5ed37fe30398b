-- What a reader's answer says.
use Rattle.std.specs.Prelude.{◌≡◌, ℕ, List, Bool, true, false, Option, Some, None, Result, Ok, Err, Vec}
use Rattle.std.specs.Borrow.{Bor}
use Rattle.ul_version.specs.Reading.{is_white}
use Rattle.ul_specifier.specs.Clauses.{ClauseFields}
use Rattle.ul_specifier.specs.Reading.{is_blank}
use Rattle.ul_specifier.specs.declared.clause.Op.{Op}
use Rattle.ul_specifier.specs.declared.fault.SpecFault.{SpecFault}
use Rattle.ul_specifier.specs.declared.fault.SpecFault.TheVariants.{NoReading, NoMemory}

-- white space inside a text, or at its ends
abbrev pub space : Bool → ℕ → Bool
space true = is_blank
space false = is_white

-- an operator and the text after it, which stands behind a reference
abbrev pub operator_view : Option (Op × Bor (List ℕ)) → Option (Op × List ℕ)
operator_view None = None
operator_view (Some p) = Some (p.0, p.1.now)

-- the answer of a reader that may lack memory: what it read is what the text spells, and it finds no
-- reading only where there is none
abbrev pub Reads : {X Y : Type 0} → (X → Y) → Result X SpecFault → Option Y → Type 0
Reads view (Ok x) reading = reading ≡ Some (view x)
Reads view (Err NoReading) reading = reading ≡ None
Reads view (Err NoMemory) reading = Unit {0}

-- a list of clauses
abbrev pub clauses_view : {Z : Type 0} → Vec ClauseFields Z → List ClauseFields
clauses_view v = v.items
