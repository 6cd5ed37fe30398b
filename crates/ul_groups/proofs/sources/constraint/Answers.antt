use Rattle.std.proofs.Common.{◌∙◌, ap, subst, sym}
use Rattle.std.specs.Prelude.{option_map}
use Rattle.ul_marker.specs.Views.{marker_view}
use Rattle.ul_requirement.specs.Fields.{MayBeFormula}
use Rattle.ul_groups.proofs.AdjustedLists.{no_extras}
use Rattle.ul_groups.proofs.sources.constraint.Goals as goal

pub invariant_of-result : goal.invariant_of-result
invariant_of-result c = record {
  extras = no_extras c.new.result.items c.new.ensures.items;
  marker = subst (λ m. MayBeFormula (option_map marker_view m))
      (sym (ap (λ k. k.0) c.in_ok-kept.ensures.0 ∙ c.in_ok-marker.ensures.0)) c.requires;
}
