-- The worked examples of loading, by computation.
use Rattle.std.proofs.Common.{refl}
use Rattle.ul_base.specs.Names.{is_name, normal_form, name_of}
use Rattle.ul_version.specs.Order.{padded_release, release_cmp, has_release_front, version_cmp}
use Rattle.ul_version.specs.Reading.{after_word, digits, after_digits, value_after, number, required_number, marked_digits, epoch, points, release, pre, post, dev, segment, segments, local, fields_of, version_of, after_white, before_white}
use Rattle.ul_specifier.specs.Reading.{operator, star_clause, plain_clause, clause_after, clause_of, clauses_of, clause_with, specifiers_of}
use Rattle.ul_marker.specs.Comparisons.{comparison_of, containment, extra_literal, sign_formula, versions_of, within}
use Rattle.ul_marker.specs.Reading.{atom_at, before_close, chain_at, chain_with, each, inner_tokens, marker_of, part_at, pieces_from}
use Rattle.ul_marker.specs.Words.{front_literal, front_sign, front_token, front_word, tokens_in, tokens_of, word_token}
use Rattle.ul_requirement.specs.Reading.{names_of, extras_in, extras_front, front_of, specifiers_in, marker_in, tail_of, reading_of}
use Rattle.ul_index.specs.Usable.{release_of_entry}
use Rattle.std.specs.Str.{is_utf8, chars}
use Rattle.serde_json.proofs.OnLiterals.{serde_json_on_literals}
use Rattle.ul_index.specs.Documents.{document_of, package_in, releases_of_items, entries_from, entry_at, files_at, ordered_files, files_from, file_of}
use Rattle.ul_index.specs.Json.{json_of}
use Rattle.ul_load.specs.Loading.{package_at}
use Rattle.ul_load.specs.Vectors.{ConditionExamples, LoadingExamples}

pub loading_examples : LoadingExamples
unfolding is_name normal_form name_of after_word digits after_digits value_after number required_number marked_digits epoch points release pre post dev segment segments local fields_of version_of after_white before_white operator star_clause plain_clause clause_after clause_of clauses_of clause_with specifiers_of comparison_of containment extra_literal sign_formula versions_of within atom_at before_close chain_at chain_with each inner_tokens marker_of part_at pieces_from front_literal front_sign front_token front_word tokens_in tokens_of word_token names_of extras_in extras_front front_of specifiers_in marker_in tail_of reading_of padded_release release_cmp has_release_front version_cmp release_of_entry is_utf8 chars serde_json_on_literals json_of document_of package_in releases_of_items entries_from entry_at files_at ordered_files files_from file_of package_at
loading_examples = record {
  absent = refl;
  few_turns = refl;
  turns = refl;
  itself = refl;
  met_in_documents = refl;
  unusable_asks_nothing = refl;
  refused_document = refl;
}

pub condition_examples : ConditionExamples
unfolding is_name normal_form name_of after_word digits after_digits value_after number required_number marked_digits epoch points release pre post dev segment segments local fields_of version_of after_white before_white operator star_clause plain_clause clause_after clause_of clauses_of clause_with specifiers_of comparison_of containment extra_literal sign_formula versions_of within atom_at before_close chain_at chain_with each inner_tokens marker_of part_at pieces_from front_literal front_sign front_token front_word tokens_in tokens_of word_token names_of extras_in extras_front front_of specifiers_in marker_in tail_of reading_of padded_release release_cmp has_release_front version_cmp
condition_examples = record {
  no_condition = refl;
  one_condition = refl;
  two_conditions = refl;
  equal_conditions = refl;
  required_too = refl;
  required_other = refl;
  not_opaque = refl;
}
