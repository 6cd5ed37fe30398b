-- The worked examples, by computation.
use Rattle.std.proofs.Common.{refl}
use Rattle.ul_base.specs.Names.{is_name, normal_form, name_of}
use Rattle.ul_version.specs.Order.{padded_release, release_cmp, version_cmp}
use Rattle.ul_version.specs.Reading.{after_white, before_white, after_word, digits, after_digits, value_after, number, required_number, marked_digits, epoch, points, release, pre, post, dev, segment, segments, local, fields_of, version_of}
use Rattle.ul_specifier.specs.Meaning.{meets_clause}
use Rattle.ul_specifier.specs.Reading.{operator, star_clause, plain_clause, clause_after, clause_of, clauses_of, clause_with, specifiers_of}
use Rattle.ul_comparison.specs.Atoms.{is_normal_name}
use Rattle.ul_marker.specs.Comparisons.{comparison_of, containment, extra_literal, sign_formula, versions_of, within}
use Rattle.ul_marker.specs.Reading.{atom_at, before_close, chain_at, chain_with, each, inner_tokens, marker_of, part_at, pieces_from}
use Rattle.ul_marker.specs.Words.{front_literal, front_sign, front_token, front_word, tokens_in, tokens_of, word_token}
use Rattle.ul_requirement.specs.Reading.{names_of, extras_in, extras_front, front_of, specifiers_in, marker_in, tail_of, reading_of}
use Rattle.laws_exports.specs.Examples.{ReadingExamples, PinExamples}

pub reading_examples : ReadingExamples
unfolding is_name normal_form name_of after_white before_white after_word digits after_digits value_after number required_number marked_digits epoch points release pre post dev segment segments local fields_of version_of operator star_clause plain_clause clause_after clause_of clauses_of clause_with specifiers_of is_normal_name comparison_of containment extra_literal sign_formula versions_of within atom_at before_close chain_at chain_with each inner_tokens marker_of part_at pieces_from front_literal front_sign front_token front_word tokens_in tokens_of word_token names_of extras_in extras_front front_of specifiers_in marker_in tail_of reading_of
reading_examples = record { below = refl; everywhere = refl; extra = refl; extras_compared = refl }

pub pin_examples : PinExamples
unfolding padded_release release_cmp version_cmp meets_clause
pin_examples = record { zeros = refl; local = refl; own_local = refl; without_local = refl; next = refl; post = refl }
