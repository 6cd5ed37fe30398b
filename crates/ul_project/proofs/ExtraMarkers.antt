-- The marker `extra == 'NAME'` is one that a text can spell.
use Rattle.std.proofs.Common.{◌≡◌, ℕ, List, Bool, true, Some, String, Global, string_bytes, rules, sym, subst}
use Rattle.ul_base.specs.Names.{name_of}
use Rattle.ul_comparison.specs.Formulas.{IsExtraLiteral, IsFormula, extra}
use Rattle.ul_marker.specs.Views.{marker_view}
use Rattle.ul_marker.specs.declared.marker.Marker.{Extra, the_lemmas}
use Rattle.ul_marker.proofs.ForCallers.{names_are_literals}

name_valid : (name : List ℕ) → name_of name ≡ Some name → IsExtraLiteral name
name_valid name named = (names_are_literals name name named, λ n e. cc)

-- a name in its normal form stands beside `extra`
pub extra_valid : (name literal : List ℕ) → name_of name ≡ Some name → literal ≡ name → IsExtraLiteral literal
extra_valid name literal named e = subst IsExtraLiteral (sym e) (name_valid name named)

marker_extra : (literal : String Global) (equal : Bool) → marker_view (Extra literal equal) ≡ extra (string_bytes literal) equal
marker_extra literal equal = search (rules, the_lemmas)

-- the marker of a name in its normal form
pub marker_valid : (name : List ℕ) (literal : String Global) → name_of name ≡ Some name → string_bytes literal ≡ name → IsFormula (marker_view (Extra literal true))
marker_valid name literal named e = subst IsFormula (sym (marker_extra literal true)) (extra_valid name (string_bytes literal) named e)
