-- The worked examples of readings, by computation.
use Rattle.std.proofs.Common.{refl}
use Rattle.ul_base.specs.Names.{is_name, normal_form, name_of}
use Rattle.ul_version.specs.Reading.{after_white, before_white, after_word, digits, after_digits, value_after, number, required_number, marked_digits, epoch, points, release, pre, post, dev, segment, segments, local, fields_of, version_of}
use Rattle.ul_specifier.specs.Reading.{operator, star_clause, plain_clause, clause_after, clause_with}
use Rattle.ul_comparison.specs.Atoms.{is_normal_name}
use Rattle.ul_marker.specs.Comparisons.{comparison_of, containment, extra_literal, sign_formula, versions_of, within}
use Rattle.ul_marker.specs.Reading.{atom_at, before_close, chain_at, chain_with, each, inner_tokens, locked_marker_of, marker_of, part_at, pieces_from, printed_marker_of}
use Rattle.ul_marker.specs.ReadingVectors.{LockedReadings, NoReadings, Readings}
use Rattle.ul_marker.specs.Words.{front_literal, front_sign, front_token, front_word, tokens_in, tokens_of, word_token}

pub readings : Readings
unfolding is_name normal_form name_of after_white before_white after_word digits after_digits value_after number required_number marked_digits epoch points release pre post dev segment segments local fields_of version_of operator star_clause plain_clause clause_after clause_with comparison_of containment extra_literal sign_formula versions_of within atom_at before_close chain_at chain_with each inner_tokens marker_of part_at pieces_from front_literal front_sign front_token front_word tokens_in tokens_of word_token
readings = record {
  windows = refl;
  full_version = refl;
  version_blanks = refl;
  mirrored_version = refl;
  mirrored_text = refl;
  old_name = refl;
  old_implementation = refl;
  within = refl;
  not_contained = refl;
  list = refl;
  empty_list = refl;
  below = refl;
  at_most = refl;
  same = refl;
  normal_extra = refl;
  extra_no_name = refl;
  quotes = refl;
  quote_ends = refl;
  and_first = refl;
  parentheses = refl;
}

pub locked_readings : LockedReadings
unfolding is_name normal_form name_of after_white before_white after_word digits after_digits value_after number required_number marked_digits epoch points release pre post dev segment segments local fields_of version_of operator star_clause plain_clause clause_after clause_with comparison_of containment extra_literal sign_formula versions_of within atom_at before_close chain_at chain_with each inner_tokens locked_marker_of printed_marker_of is_normal_name part_at pieces_from front_literal front_sign front_token front_word tokens_in tokens_of word_token
locked_readings = record {
  chosen = refl;
  not_chosen = refl;
  beside_others = refl;
  no_normal_name = refl;
  no_name = refl;
  extras_on_the_left = refl;
  extras_equal = refl;
  mirrored_extras = refl;
  extra_in_a_lock = refl;
  extra_beside = refl;
  both_printed = refl;
}

pub no_readings : NoReadings
unfolding is_name normal_form name_of after_white before_white after_word digits after_digits value_after number required_number marked_digits epoch points release pre post dev segment segments local fields_of version_of operator star_clause plain_clause clause_after clause_with comparison_of containment extra_literal sign_formula versions_of within atom_at before_close chain_at chain_with each inner_tokens marker_of part_at pieces_from front_literal front_sign front_token front_word tokens_in tokens_of word_token
no_readings = record {
  empty = refl;
  no_marker = refl;
  two_variables = refl;
  two_literals = refl;
  compatible_text = refl;
  mirrored_compatible = refl;
  extra_within = refl;
  in_extra = refl;
  in_extras = refl;
  not_in_extras = refl;
  extra_order = refl;
  joined_words = refl;
  no_version = refl;
  no_listed_version = refl;
  inner_line = refl;
  upper_case = refl;
  unknown_word = refl;
  backslash = refl;
  open_literal = refl;
  arbitrary = refl;
  open_parenthesis = refl;
  closed_parenthesis = refl;
  last_and = refl;
  not_alone = refl;
}
