-- What a reader's answer says.
use Rattle.std.specs.Prelude.{◌≡◌, ◌++◌, ℕ, List, [], ◌∷◌, Option, Some, None, Result, Ok, Err, Vec}
use Rattle.std.specs.Borrow.{Bor}
use Rattle.ul_version.specs.Fields.{Fields}
use Rattle.ul_version.specs.Reading.{◌>>=◌}
use Rattle.ul_marker.specs.Comparisons.{versions_of}
use Rattle.ul_comparison.specs.Formulas.{Formula}
use Rattle.ul_marker.specs.Reading.{marker_in}
use Rattle.ul_marker.specs.Words.{Front}
use Rattle.ul_marker.specs.declared.fault.MarkerFault.{MarkerFault}
use Rattle.ul_marker.specs.declared.fault.MarkerFault.TheVariants.{NoReading, NoMemory}
use Rattle.ul_marker.specs.declared.words.Token.{Token}

-- the answer of a reader that may lack memory: what it read is what the text spells, and it finds no
-- reading only where there is none
abbrev pub Reads : {X Y : Type 0} → (X → Y) → Result X MarkerFault → Option Y → Type 0
Reads view (Ok x) reading = reading ≡ Some (view x)
Reads view (Err NoReading) reading = reading ≡ None
Reads view (Err NoMemory) reading = Unit {0}

-- the answer of a reader of a marker's tokens, which finds no reading only where they are no marker's
abbrev pub ReadsTokens : {Z : Type 0} → Result (Vec Token Z) MarkerFault → Option (List Token) → Type 0
ReadsTokens (Ok found) tokens = tokens ≡ Some found.items
ReadsTokens (Err NoReading) tokens = marker_in tokens ≡ None
ReadsTokens (Err NoMemory) tokens = Unit {0}

-- a token and the text after it, which stands behind a reference
abbrev pub front_view : Token × Bor (List ℕ) → Token × List ℕ
front_view p = (p.0, p.1.now)

-- a token and the text after it, where there is one
abbrev pub optional_front : Option (Token × Bor (List ℕ)) → Front
optional_front None = None
optional_front (Some p) = Some (p.0, p.1.now)

-- bytes, which stand behind a reference, where there are any
abbrev pub optional_bytes : Option (Bor (List ℕ)) → Option (List ℕ)
optional_bytes None = None
optional_bytes (Some bytes) = Some bytes.now

-- tokens, which stand behind a reference
abbrev pub optional_tokens : Option (Bor (List Token)) → Option (List Token)
optional_tokens None = None
optional_tokens (Some tokens) = Some tokens.now

-- a list of versions
abbrev pub versions_view : {Z : Type 0} → Vec Fields Z → List Fields
versions_view v = v.items

-- versions before those of a part
abbrev pub added_versions : List Fields → Option (List Fields) → Option (List Fields)
added_versions vs part = part >>= λ us. Some (vs ++ us)

-- versions before the one of a piece, which an empty piece hasn't
abbrev pub added_piece : List Fields → List ℕ → Option (List Fields)
added_piece vs piece = added_versions vs (versions_of (piece ∷ []))

-- formulas before those of a part
abbrev pub added_formulas : List Formula → Option (List Formula) → Option (List Formula)
added_formulas fs part = part >>= λ gs. Some (fs ++ gs)
