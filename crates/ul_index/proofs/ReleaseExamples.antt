-- The worked examples of releases, by computation.
use Rattle.std.proofs.Common.{refl}
use Rattle.ul_base.specs.Names.{is_name, normal_form, name_of}
use Rattle.ul_version.specs.Order.{padded_release, release_cmp, has_release_front, version_cmp}
use Rattle.ul_version.specs.Reading.{after_word, digits, after_digits, value_after, number, required_number, marked_digits, epoch, points, release, pre, post, dev, segment, segments, local, fields_of, version_of, after_white, before_white}
use Rattle.ul_specifier.specs.Meaning.{meets_clause}
use Rattle.ul_specifier.specs.Reading.{operator, star_clause, plain_clause, clause_after, clause_of, clauses_of, clause_with, specifiers_of}
use Rattle.ul_marker.specs.Comparisons.{comparison_of, containment, extra_literal, sign_formula, versions_of, within}
use Rattle.ul_marker.specs.Reading.{atom_at, before_close, chain_at, chain_with, each, inner_tokens, marker_of, part_at, pieces_from}
use Rattle.ul_marker.specs.Words.{front_literal, front_sign, front_token, front_word, tokens_in, tokens_of, word_token}
use Rattle.ul_requirement.specs.Reading.{names_of, extras_in, extras_front, front_of, specifiers_in, marker_in, tail_of, reading_of}
use Rattle.ul_index.specs.Catalogs.{releases_of, prereleases_of, release_of, requirements, is_fit}
use Rattle.ul_index.specs.Eligible.{passing, eligible}
use Rattle.ul_index.specs.Preference.{preference}
use Rattle.ul_index.specs.Usable.{release_of_entry}
use Rattle.ul_index.specs.Vectors.{EligibleReleases, PrereleaseModes, Preferences, LowerBounds, UsableEntries}

pub eligible_releases : EligibleReleases
unfolding is_name normal_form name_of after_word digits after_digits value_after number required_number marked_digits epoch points release pre post dev segment segments local fields_of version_of after_white before_white operator star_clause plain_clause clause_after clause_of clauses_of clause_with specifiers_of comparison_of containment extra_literal sign_formula versions_of within atom_at before_close chain_at chain_with each inner_tokens marker_of part_at pieces_from front_literal front_sign front_token front_word tokens_in tokens_of word_token names_of extras_in extras_front front_of specifiers_in marker_in tail_of reading_of padded_release release_cmp has_release_front version_cmp meets_clause releases_of prereleases_of release_of requirements is_fit passing eligible preference release_of_entry
eligible_releases = record {
  increasing = refl;
  pre_alone = refl;
  pre_beside_final = refl;
  pre_named = refl;
  pre_excluded = refl;
  pre_named_elsewhere = refl;
  dev_is_pre = refl;
  withdrawn_final_counts = refl;
  withdrawn_passed = refl;
  withdrawn_pinned = refl;
  withdrawn_front = refl;
  pinned_by_any_marker = refl;
  both_reasons = refl;
}

pub prerelease_modes : PrereleaseModes
unfolding is_name normal_form name_of after_word digits after_digits value_after number required_number marked_digits epoch points release pre post dev segment segments local fields_of version_of after_white before_white operator star_clause plain_clause clause_after clause_of clauses_of clause_with specifiers_of comparison_of containment extra_literal sign_formula versions_of within atom_at before_close chain_at chain_with each inner_tokens marker_of part_at pieces_from front_literal front_sign front_token front_word tokens_in tokens_of word_token names_of extras_in extras_front front_of specifiers_in marker_in tail_of reading_of padded_release release_cmp has_release_front version_cmp meets_clause releases_of prereleases_of release_of requirements is_fit passing eligible preference release_of_entry
prerelease_modes = record {
  disallow_alone = refl;
  disallow_named = refl;
  allow_alone = refl;
  allow_beside_final = refl;
  allow_withdrawn = refl;
  necessary_alone = refl;
  necessary_beside_final = refl;
  necessary_named = refl;
  explicit_alone = refl;
  explicit_named = refl;
  explicit_excluded = refl;
  either_alone = refl;
  either_beside_final = refl;
  either_named = refl;
  own_disallow = refl;
  own_explicit = refl;
}

pub preferences : Preferences
unfolding is_name normal_form name_of after_word digits after_digits value_after number required_number marked_digits epoch points release pre post dev segment segments local fields_of version_of after_white before_white operator star_clause plain_clause clause_after clause_of clauses_of clause_with specifiers_of comparison_of containment extra_literal sign_formula versions_of within atom_at before_close chain_at chain_with each inner_tokens marker_of part_at pieces_from front_literal front_sign front_token front_word tokens_in tokens_of word_token names_of extras_in extras_front front_of specifiers_in marker_in tail_of reading_of padded_release release_cmp has_release_front version_cmp meets_clause releases_of prereleases_of release_of requirements is_fit passing eligible preference release_of_entry
preferences = record {
  newest = refl;
  oldest = refl;
  oldest_of_direct = refl;
  newest_of_others = refl;
  kept_newest_first = refl;
}

pub lower_bounds : LowerBounds
unfolding is_name normal_form name_of after_word digits after_digits value_after number required_number marked_digits epoch points release pre post dev segment segments local fields_of version_of after_white before_white operator star_clause plain_clause clause_after clause_of clauses_of clause_with specifiers_of comparison_of containment extra_literal sign_formula versions_of within atom_at before_close chain_at chain_with each inner_tokens marker_of part_at pieces_from front_literal front_sign front_token front_word tokens_in tokens_of word_token names_of extras_in extras_front front_of specifiers_in marker_in tail_of reading_of padded_release release_cmp has_release_front version_cmp meets_clause releases_of prereleases_of release_of requirements is_fit passing eligible preference release_of_entry
lower_bounds = record {
  below = refl;
  at = refl;
  upper_is_nothing = refl;
  front_from_below = refl;
  front_to_above = refl;
  compatible_to_above = refl;
  none = refl;
}

pub usable_entries : UsableEntries
unfolding is_name normal_form name_of after_word digits after_digits value_after number required_number marked_digits epoch points release pre post dev segment segments local fields_of version_of after_white before_white operator star_clause plain_clause clause_after clause_of clauses_of clause_with specifiers_of comparison_of containment extra_literal sign_formula versions_of within atom_at before_close chain_at chain_with each inner_tokens marker_of part_at pieces_from front_literal front_sign front_token front_word tokens_in tokens_of word_token names_of extras_in extras_front front_of specifiers_in marker_in tail_of reading_of padded_release release_cmp has_release_front version_cmp meets_clause releases_of prereleases_of release_of requirements is_fit passing eligible preference release_of_entry
usable_entries = record {
  no_requirement = refl;
  address = refl;
  no_version = refl;
  earlier_equal = refl;
  earlier_unusable = refl;
}
