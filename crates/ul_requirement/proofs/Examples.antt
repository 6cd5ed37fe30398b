-- The worked examples, by computation.
use Rattle.std.proofs.Common.{refl}
use Rattle.ul_base.specs.Names.{is_name, normal_form, name_of}
use Rattle.ul_version.specs.Reading.{after_white, before_white, after_word, digits, after_digits, value_after, number, required_number, marked_digits, epoch, points, release, pre, post, dev, segment, segments, local, fields_of, version_of}
use Rattle.ul_specifier.specs.Reading.{operator, star_clause, plain_clause, clause_after, clause_of, clauses_of, clause_with, specifiers_of}
use Rattle.ul_marker.specs.Comparisons.{comparison_of, containment, extra_literal, sign_formula, versions_of, within}
use Rattle.ul_marker.specs.Reading.{atom_at, before_close, chain_at, chain_with, each, inner_tokens, marker_of, part_at, pieces_from}
use Rattle.ul_marker.specs.Words.{front_literal, front_sign, front_token, front_word, tokens_in, tokens_of, word_token}
use Rattle.ul_requirement.specs.Reading.{names_of, extras_in, extras_front, front_of, specifiers_in, marker_in, tail_of, marker_behind, url_marker, reading_of}
use Rattle.ul_requirement.specs.Vectors.{Addresses, MayBeTrue, NoAddresses, NoReadings, Readings, Truths}

pub readings : Readings
unfolding is_name normal_form name_of after_white before_white after_word digits after_digits value_after number required_number marked_digits epoch points release pre post dev segment segments local fields_of version_of operator star_clause plain_clause clause_after clause_of clauses_of clause_with specifiers_of comparison_of containment extra_literal sign_formula versions_of within atom_at before_close chain_at chain_with each inner_tokens marker_of part_at pieces_from front_literal front_sign front_token front_word tokens_in tokens_of word_token names_of extras_in extras_front front_of specifiers_in marker_in tail_of reading_of
readings = record {
  name = refl;
  whole = refl;
  tight = refl;
  extras_in_order = refl;
  no_extras = refl;
  parentheses = refl;
  empty_parentheses = refl;
  last_comma = refl;
  marker_alone = refl;
}

pub addresses : Addresses
unfolding is_name normal_form name_of after_white before_white after_word digits after_digits value_after number required_number marked_digits epoch points release pre post dev segment segments local fields_of version_of operator star_clause plain_clause clause_after clause_of clauses_of clause_with specifiers_of comparison_of containment extra_literal sign_formula versions_of within atom_at before_close chain_at chain_with each inner_tokens marker_of part_at pieces_from front_literal front_sign front_token front_word tokens_in tokens_of word_token names_of extras_in extras_front front_of specifiers_in marker_in tail_of marker_behind url_marker reading_of
addresses = record {
  plain = refl;
  extras = refl;
  marked = refl;
  semicolon_in_url = refl;
  semicolon_behind_tab = refl;
}

pub no_addresses : NoAddresses
unfolding is_name normal_form name_of after_white before_white after_word digits after_digits value_after number required_number marked_digits epoch points release pre post dev segment segments local fields_of version_of operator star_clause plain_clause clause_after clause_of clauses_of clause_with specifiers_of comparison_of containment extra_literal sign_formula versions_of within atom_at before_close chain_at chain_with each inner_tokens marker_of part_at pieces_from front_literal front_sign front_token front_word tokens_in tokens_of word_token names_of extras_in extras_front front_of specifiers_in marker_in tail_of marker_behind url_marker reading_of
no_addresses = record {
  nothing_behind = refl;
  blank_behind = refl;
  line_behind = refl;
  two_urls = refl;
  no_marker = refl;
  line_before_marker = refl;
}

pub no_readings : NoReadings
unfolding is_name normal_form name_of after_white before_white after_word digits after_digits value_after number required_number marked_digits epoch points release pre post dev segment segments local fields_of version_of operator star_clause plain_clause clause_after clause_of clauses_of clause_with specifiers_of comparison_of containment extra_literal sign_formula versions_of within atom_at before_close chain_at chain_with each inner_tokens marker_of part_at pieces_from front_literal front_sign front_token front_word tokens_in tokens_of word_token names_of extras_in extras_front front_of specifiers_in marker_in tail_of reading_of
no_readings = record {
  empty = refl;
  no_name = refl;
  dash_first = refl;
  dot_last = refl;
  two_names = refl;
  no_version = refl;
  comma = refl;
  open_extras = refl;
  comma_alone = refl;
  comma_last = refl;
  extra_no_name = refl;
  open_parenthesis = refl;
  closed_parenthesis = refl;
  behind_parentheses = refl;
  nested_parentheses = refl;
  no_marker = refl;
  inner_line = refl;
  line_in_parentheses = refl;
  line_before_marker = refl;
}

pub truths : Truths
unfolding is_name
truths = record {
  at_base = refl;
  own_extra = refl;
  other_extra = refl;
  base_by_world = refl;
  of_the_base_already = refl;
  of_the_extra_alone = refl;
  without_marker = refl;
  without_marker_at_extra = refl;
  aims = refl;
}

pub may_be_true : MayBeTrue
may_be_true = record {
  named = refl;
  other_named = refl;
  negated = refl;
  other_negated = refl;
  empty_literal = refl;
  empty_literal_negated = refl;
  named_within = refl;
  of_the_base_alone = refl;
  without_marker = refl;
  at_base = refl;
}
