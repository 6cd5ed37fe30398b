-- Each requirement of the catalog that files give has extras in order and a marker that a text can spell.
use Rattle.std.proofs.Common.{◌≡◌, ℕ, List, Option, Some, None, subst}
use Rattle.std.specs.Prelude.{IfSome}
use Rattle.std.specs.List.Sorted.{IsStrictlySortedBy}
use Rattle.ul_base.specs.Names.{name_cmp}
use Rattle.ul_version.specs.Ascii.{is_blank, is_white, text_between}
use Rattle.ul_version.proofs.ForCallers.{bind_some, inside}
use Rattle.ul_comparison.specs.Formulas.{Formula, IsFormula, formulas_of}
use Rattle.ul_marker.specs.ReadingLaws.{ReadIsFormula}
use Rattle.ul_requirement.specs.Fields.{IsRequirement, MayBeFormula}
use Rattle.ul_requirement.specs.Reading.{extras_in, name_set, names_in}
use Rattle.ul_groups.proofs.ForCallers.{negated_formulas}
use Rattle.laws_given.proofs.ForCallers.{AreRead, IsOfConditions, IsOfFiles, as_formulas, document_formula, front_has, read_from, requirement_with, rest_has, set_rises}
use Rattle.laws_existence.proofs.Markers.{none_rise, of_bounds_is, of_extra_is}

-- names in order
abbrev AreRising : List (List ℕ) → Type 0
AreRising xs = IsStrictlySortedBy name_cmp xs

extras_rise : (text : List ℕ) (xs : List (List ℕ)) → extras_in text ≡ Some xs → AreRising xs
unfolding extras_in
extras_rise text xs e =
    let ns = bind_some (names_in (text_between is_blank text)) _ xs e in
    subst AreRising (inside (name_set ns.0) xs ns.2) (set_rises (λ name. name) ns.0)

may_be : (m : Option Formula) → IfSome m IsFormula → MayBeFormula m
may_be None h = tt
may_be (Some f) h = h

-- a requirement that is read is one
read_requirement_is : ReadIsFormula → AreRead IsRequirement
read_requirement_is reads text q e =
    let read = read_from text q e in
    let front = front_has AreRising none_rise extras_rise (text_between is_white text) read.front read.in_front in
    subst IsRequirement {x = requirement_with read.front read.tail} read.is (record {
      extras = front.1;
      marker = may_be read.tail.1
          (rest_has IsFormula (document_formula reads) read.front.rest read.tail read.behind);
    })

-- the constraints that sources are
of_conditions_is : IsOfConditions IsRequirement IsFormula
of_conditions_is = record {
  each = λ name clauses marker h. record { extras = none_rise; marker = may_be marker h };
  none = λ conditions h. negated_formulas (formulas_of conditions) (as_formulas conditions h);
}

-- and so is what is made of those that are read
pub requirements_are : ReadIsFormula → IsOfFiles IsRequirement IsFormula
requirements_are reads = record {
  read = read_requirement_is reads;
  extra = of_extra_is;
  bounds = of_bounds_is;
  markers = document_formula reads;
  conditions = of_conditions_is;
}
