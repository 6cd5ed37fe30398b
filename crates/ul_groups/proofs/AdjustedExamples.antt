-- The worked examples of adjusted requirements, by computation.
use Rattle.std.proofs.Common.{refl}
use Rattle.ul_groups.specs.Vectors.{AdjustedRequirements}

pub adjusted_requirements : AdjustedRequirements
adjusted_requirements = record {
  replacement = refl;
  followers = refl;
  constrained_after = refl;
  nothing_on_it = refl;
  nothing_asked = refl;
  one_constraint_each = refl;
  sources_after_constraints = refl;
  sources_after_overrides = refl;
}
