-- The worked examples, by computation.
use Rattle.std.proofs.Common.{refl}
use Rattle.ul_version.specs.Order.{padded_release, release_cmp, has_release_front, version_cmp}
use Rattle.ul_version.specs.Reading.{after_white, before_white, after_word, digits, after_digits, value_after, number, required_number, marked_digits, epoch, points, release, pre, post, dev, segment, segments, local, fields_of, version_of}
use Rattle.ul_specifier.specs.Meaning.{meets_clause}
use Rattle.ul_specifier.specs.Reading.{operator, star_clause, plain_clause, clause_after, clause_with, clause_of, clauses_of, specifiers_of}
use Rattle.ul_specifier.specs.Vectors.{Exclusions, Meetings, NoReadings, Readings, Summaries, is_met, is_other, lower_of, names_pre_in, pins_in}

pub meetings : Meetings
unfolding after_white before_white after_word digits after_digits value_after number required_number marked_digits epoch points release pre post dev segment segments local fields_of version_of operator star_clause plain_clause clause_after clause_with clause_of clauses_of specifiers_of padded_release release_cmp has_release_front version_cmp meets_clause is_met lower_of names_pre_in pins_in
meetings = record {
  local_of_equal = refl;
  local_of_unequal = refl;
  local_of_at_most = refl;
  other_local = refl;
  post_of_more = refl;
  padded_post_of_more = refl;
  next_of_more = refl;
  post_of_post = refl;
  local_of_more = refl;
  pre_of_less = refl;
  pre_of_pre = refl;
  compatible = refl;
  compatible_next = refl;
  compatible_patch = refl;
  front_of_pre = refl;
  front_of_longer = refl;
  front_of_shorter = refl;
  every_clause = refl;
  no_clause = refl;
}

pub readings : Readings
unfolding after_white before_white after_word digits after_digits value_after number required_number marked_digits epoch points release pre post dev segment segments local fields_of version_of operator star_clause plain_clause clause_after clause_with clause_of clauses_of specifiers_of
readings = record {
  empty = refl;
  two = refl;
  star = refl;
  dropped_star = refl;
  local = refl;
  one = refl;
  one_dropped = refl;
}

pub no_readings : NoReadings
unfolding after_white before_white after_word digits after_digits value_after number required_number marked_digits epoch points release pre post dev segment segments local fields_of version_of operator star_clause plain_clause clause_after clause_with clause_of clauses_of specifiers_of
no_readings = record {
  three_signs = refl;
  one_number = refl;
  local_of_bound = refl;
  local_of_compatible = refl;
  star_of_more = refl;
  star_of_at_most = refl;
  star_of_compatible = refl;
  star_of_pre = refl;
  star_of_dropped_pre = refl;
  star_of_local = refl;
  comma = refl;
  two_commas = refl;
  first_comma = refl;
  no_operator = refl;
  no_version = refl;
  inner_space = refl;
  inner_line = refl;
  line_before_version = refl;
  operator_twice = refl;
  short_compatible = refl;
}

pub summaries : Summaries
unfolding after_white before_white after_word digits after_digits value_after number required_number marked_digits epoch points release pre post dev segment segments local fields_of version_of operator star_clause plain_clause clause_after clause_with clause_of clauses_of specifiers_of padded_release release_cmp has_release_front version_cmp meets_clause is_met lower_of names_pre_in pins_in
summaries = record {
  bounds = refl;
  no_bounds = refl;
  pre = refl;
  dev = refl;
  not_pre = refl;
  pin = refl;
  local_not_pinned = refl;
  front_not_pinned = refl;
}

pub exclusions : Exclusions
unfolding after_white before_white after_word digits after_digits value_after number required_number marked_digits epoch points release pre post dev segment segments local fields_of version_of operator star_clause plain_clause clause_after clause_with padded_release release_cmp has_release_front version_cmp meets_clause is_other
exclusions = record {
  itself = refl;
  local_of_it = refl;
  post_of_it = refl;
  local_itself = refl;
  without_its_local = refl;
  other_local = refl;
  no_bound = refl;
  no_pre_release = refl;
  no_pin = refl;
  no_text = refl;
  no_star = refl;
}
