-- Markers that are joined, and those of extras, are such as a text can spell, and so are requirements with them.
use Rattle.std.proofs.Common.{ℕ, List, [], Option, Some, None}
use Rattle.std.specs.List.Sorted.{IsStrictlySortedBy}
use Rattle.ul_base.specs.Names.{IsNormalName, name_cmp}
use Rattle.ul_comparison.specs.Formulas.{Formula, IsExtraLiteral}
use Rattle.ul_marker.proofs.ForCallers.{names_are_literals}
use Rattle.ul_requirement.specs.Fields.{IsRequirement, MayBeFormula}
use Rattle.ul_project.specs.Extras.{extra_marker, joined_markers}
use Rattle.laws_given.proofs.ForCallers.{IsOfBounds, IsOfExtras}

-- two markers joined by `and`
pub joined_formula : (a b : Option Formula) → MayBeFormula a → MayBeFormula b → MayBeFormula (joined_markers a b)
joined_formula None b h k = k
joined_formula (Some a) None h k = h
joined_formula (Some a) (Some b) h k = (h, (k, tt))

-- a name in its normal form stands beside `extra`
name_valid : (name : List ℕ) → IsNormalName name → IsExtraLiteral name
name_valid name named = (names_are_literals name name named, λ n e. cc)

-- a requirement of an extra
pub of_extra_is : IsOfExtras IsRequirement
of_extra_is name q named is = record {
  extras = is.extras;
  marker = joined_formula q.marker (extra_marker name) is.marker (name_valid name named);
}

-- no names are in order
pub none_rise : IsStrictlySortedBy name_cmp []
unfolding IsStrictlySortedBy
none_rise = tt

-- what constraints and overrides make of requirements
pub of_bounds_is : IsOfBounds IsRequirement IsRequirement
of_bounds_is = record {
  overridden = λ q o h k. record { extras = h.extras; marker = joined_formula q.marker o.marker h.marker k.marker };
  constrained = λ q c h k. record { extras = none_rise; marker = joined_formula q.marker c.marker h.marker k.marker };
}
