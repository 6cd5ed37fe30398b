-- The worked truths, by computation.
use Rattle.std.proofs.Common.{refl}
use Rattle.ul_base.specs.Names.{is_name, normal_form}
use Rattle.ul_version.specs.Order.{padded_release, release_cmp, has_release_front, version_cmp}
use Rattle.ul_specifier.specs.Meaning.{meets_clause}
use Rattle.ul_comparison.specs.Atoms.{is_normal_name}
use Rattle.ul_comparison.specs.TruthVectors.{Truths}

pub truths : Truths
unfolding is_name normal_form is_normal_name padded_release release_cmp has_release_front version_cmp meets_clause
truths = record {
  extra_equal = refl;
  extra_other = refl;
  extra_unequal = refl;
  empty_literal = refl;
  literal_that_is_no_name = refl;
  unequal_to_no_name = refl;
  version_of_two_numbers = refl;
  version_of_three_numbers = refl;
  front_of_three_numbers = refl;
  versions_as_numbers = refl;
  version_of_list = refl;
  patch_of_no_list = refl;
  empty_list = refl;
  outside_empty_list = refl;
  text_equal = refl;
  text_in_other_case = refl;
  last_text_unequal = refl;
  opaque_that_holds = refl;
  opaque_that_fails = refl;
  opaque_that_is_negated = refl;
  opaque_of_other_kind = refl;
  opaque_of_a_version = refl;
  normal_beside_extras = refl;
  capital_beside_extras = refl;
  dot_beside_extras = refl;
  two_hyphens_beside_extras = refl;
  nothing_beside_extras = refl;
  all_of_two = refl;
  all_of_none = refl;
  any_of_two = refl;
  any_of_none = refl;
}
