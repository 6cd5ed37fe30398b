-- What holds of the parts of all formulas.
use Rattle.std.specs.Prelude.{◌≡◌, ℕ, true, false, List, Some}
use Rattle.ul_base.specs.Names.{name_of}
use Rattle.ul_comparison.specs.Atoms.{is_literal}
use Rattle.ul_comparison.specs.Formulas.{Formula}
use Rattle.ul_marker.specs.Parts.{asks_extra}
use Rattle.ul_comparison.specs.Truth.{marker_holds}
use Rattle.ul_comparison.specs.Worlds.{WorldFields}

-- a formula without a comparison with `extra` has one truth at every extra
abbrev pub TruthIsPlain : Type 0
TruthIsPlain = (f : Formula) (w : WorldFields) (x y : List ℕ) → asks_extra f ≡ false → marker_holds f w x ≡ marker_holds f w y

-- a normal form of a name can stand in a literal
abbrev pub NamesAreLiterals : Type 0
NamesAreLiterals = (text name : List ℕ) → name_of text ≡ Some name → is_literal name ≡ true
