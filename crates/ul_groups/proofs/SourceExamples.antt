-- The worked examples of the constraints that sources are, by computation.
use Rattle.std.proofs.Common.{refl}
use Rattle.ul_index.specs.Catalogs.{releases_of}
use Rattle.ul_groups.specs.SourceVectors.{SourceConstraints}

pub source_constraints : SourceConstraints
unfolding releases_of
source_constraints = record {
  everywhere = refl;
  under_a_condition = refl;
  two_conditions = refl;
  no_rest = refl;
  no_such_label = refl;
  no_such_name = refl;
  names_in_order = refl;
}
