-- The worked examples of project files, by computation.
use Rattle.std.proofs.Common.{refl}
use Rattle.std.specs.Str.{is_utf8, chars}
use Rattle.toml.proofs.OnLiterals.{toml_on_literals}
use Rattle.ul_base.specs.Names.{is_name, normal_form, name_of}
use Rattle.ul_version.specs.Order.{padded_release, release_cmp, has_release_front, version_cmp}
use Rattle.ul_version.specs.Reading.{after_word, digits, after_digits, value_after, number, required_number, marked_digits, epoch, points, release, pre, post, dev, segment, segments, local, fields_of, version_of, after_white, before_white}
use Rattle.ul_specifier.specs.Meaning.{meets_clause}
use Rattle.ul_specifier.specs.Reading.{operator, star_clause, plain_clause, clause_after, clause_of, clauses_of, clause_with, specifiers_of}
use Rattle.ul_marker.specs.Comparisons.{comparison_of, containment, extra_literal, sign_formula, versions_of, within}
use Rattle.ul_marker.specs.Reading.{atom_at, before_close, chain_at, chain_with, each, inner_tokens, marker_of, part_at, pieces_from}
use Rattle.ul_marker.specs.Words.{front_literal, front_sign, front_token, front_word, tokens_in, tokens_of, word_token}
use Rattle.ul_requirement.specs.Reading.{names_of, extras_in, extras_front, front_of, specifiers_in, marker_in, tail_of, marker_behind, url_marker, reading_of}
use Rattle.ul_project.specs.DevDependencies.{dev_dependencies_at}
use Rattle.ul_project.specs.Extras.{extras_at}
use Rattle.ul_project.specs.GroupLists.{group_entries_at, group_entry_at, group_lists_at}
use Rattle.ul_project.specs.Head.{dynamic_at, head_in, name_at, python_at, version_at}
use Rattle.ul_project.specs.Lists.{lists_in}
use Rattle.ul_project.specs.ProjectFile.{file_in, file_of, required_in}
use Rattle.ul_project.specs.Profiles.{profile_at, profile_of}
use Rattle.ul_project.specs.Requirements.{bound_at, bounds_at, requirement_at, requirements_at}
use Rattle.ul_project.specs.Results.{each_from}
use Rattle.ul_project.specs.Settings.{choices_in, environment_at, environments_at, listed_in, mode_at, prereleases_at, said_in, settings_in, sources_in, strategy_at, strictly_silent, uv_at}
use Rattle.ul_project.specs.Sources.{all_supported, asks_at, condition_at, label_at, said_sources, source_at, source_in, sources_of}
use Rattle.ul_project.specs.Toml.{toml_of}
use Rattle.ul_project.specs.Vectors.{FirstFaults, LaterFaults, SaidFiles, SupportedWorlds, WideFaults, WideFiles}

pub said_files : SaidFiles
unfolding is_name normal_form name_of after_word digits after_digits value_after number required_number marked_digits epoch points release pre post dev segment segments local fields_of version_of after_white before_white operator star_clause plain_clause clause_after clause_of clauses_of clause_with specifiers_of comparison_of containment extra_literal sign_formula versions_of within atom_at before_close chain_at chain_with each inner_tokens marker_of part_at pieces_from front_literal front_sign front_token front_word tokens_in tokens_of word_token names_of extras_in extras_front front_of specifiers_in marker_in tail_of marker_behind url_marker reading_of is_utf8 chars toml_on_literals extras_at group_entries_at group_entry_at group_lists_at dev_dependencies_at dynamic_at head_in name_at python_at version_at lists_in file_in file_of required_in profile_at profile_of bound_at bounds_at requirement_at requirements_at each_from choices_in environment_at environments_at listed_in mode_at prereleases_at settings_in strategy_at strictly_silent said_in sources_in label_at condition_at asks_at source_in source_at sources_of said_sources all_supported uv_at toml_of
said_files = record {
  smallest = refl;
  extras_in_order = refl;
  groups_in_order = refl;
  settings = refl;
}

pub first_faults : FirstFaults
unfolding is_name normal_form name_of after_word digits after_digits value_after number required_number marked_digits epoch points release pre post dev segment segments local fields_of version_of after_white before_white operator star_clause plain_clause clause_after clause_of clauses_of clause_with specifiers_of comparison_of containment extra_literal sign_formula versions_of within atom_at before_close chain_at chain_with each inner_tokens marker_of part_at pieces_from front_literal front_sign front_token front_word tokens_in tokens_of word_token names_of extras_in extras_front front_of specifiers_in marker_in tail_of marker_behind url_marker reading_of is_utf8 chars toml_on_literals extras_at group_entries_at group_entry_at group_lists_at dev_dependencies_at dynamic_at head_in name_at python_at version_at lists_in file_in file_of required_in profile_at profile_of bound_at bounds_at requirement_at requirements_at each_from choices_in environment_at environments_at listed_in mode_at prereleases_at settings_in strategy_at strictly_silent said_in sources_in label_at condition_at asks_at source_in source_at sources_of said_sources all_supported uv_at toml_of
first_faults = record {
  no_toml = refl;
  project_first = refl;
  name_first = refl;
  version_first = refl;
  dynamic_first = refl;
  python_first = refl;
  address_first = refl;
  dependencies_first = refl;
  extra_keys_first = refl;
  raw_keys_in_order = refl;
  extras_first = refl;
}

pub later_faults : LaterFaults
unfolding is_name normal_form name_of after_word digits after_digits value_after number required_number marked_digits epoch points release pre post dev segment segments local fields_of version_of after_white before_white operator star_clause plain_clause clause_after clause_of clauses_of clause_with specifiers_of comparison_of containment extra_literal sign_formula versions_of within atom_at before_close chain_at chain_with each inner_tokens marker_of part_at pieces_from front_literal front_sign front_token front_word tokens_in tokens_of word_token names_of extras_in extras_front front_of specifiers_in marker_in tail_of marker_behind url_marker reading_of is_utf8 chars toml_on_literals extras_at group_entries_at group_entry_at group_lists_at dev_dependencies_at dynamic_at head_in name_at python_at version_at lists_in file_in file_of required_in profile_at profile_of bound_at bounds_at requirement_at requirements_at each_from choices_in environment_at environments_at listed_in mode_at prereleases_at settings_in strategy_at strictly_silent said_in sources_in label_at condition_at asks_at source_in source_at sources_of said_sources all_supported uv_at toml_of
later_faults = record {
  group_keys_first = refl;
  groups_first = refl;
  tool_first = refl;
  sources_first = refl;
  keys_first = refl;
  constraints_first = refl;
  overrides_first = refl;
  environments_first = refl;
  mode_first = refl;
  prerelease_first = refl;
}

pub wide_files : WideFiles
unfolding is_name normal_form name_of after_word digits after_digits value_after number required_number marked_digits epoch points release pre post dev segment segments local fields_of version_of after_white before_white operator star_clause plain_clause clause_after clause_of clauses_of clause_with specifiers_of comparison_of containment extra_literal sign_formula versions_of within atom_at before_close chain_at chain_with each inner_tokens marker_of part_at pieces_from front_literal front_sign front_token front_word tokens_in tokens_of word_token names_of extras_in extras_front front_of specifiers_in marker_in tail_of marker_behind url_marker reading_of is_utf8 chars toml_on_literals extras_at group_entries_at group_entry_at group_lists_at dev_dependencies_at dynamic_at head_in name_at python_at version_at lists_in file_in file_of required_in profile_at profile_of bound_at bounds_at requirement_at requirements_at each_from choices_in environment_at environments_at listed_in mode_at prereleases_at settings_in strategy_at strictly_silent said_in sources_in label_at condition_at asks_at source_in source_at sources_of said_sources all_supported uv_at toml_of
wide_files = record {
  sources = refl;
  addresses = refl;
  dev_alone = refl;
  dev_behind = refl;
}

pub wide_faults : WideFaults
unfolding is_name normal_form name_of after_word digits after_digits value_after number required_number marked_digits epoch points release pre post dev segment segments local fields_of version_of after_white before_white operator star_clause plain_clause clause_after clause_of clauses_of clause_with specifiers_of comparison_of containment extra_literal sign_formula versions_of within atom_at before_close chain_at chain_with each inner_tokens marker_of part_at pieces_from front_literal front_sign front_token front_word tokens_in tokens_of word_token names_of extras_in extras_front front_of specifiers_in marker_in tail_of marker_behind url_marker reading_of is_utf8 chars toml_on_literals extras_at group_entries_at group_entry_at group_lists_at dev_dependencies_at dynamic_at head_in name_at python_at version_at lists_in file_in file_of required_in profile_at profile_of bound_at bounds_at requirement_at requirements_at each_from choices_in environment_at environments_at listed_in mode_at prereleases_at settings_in strategy_at strictly_silent said_in sources_in label_at condition_at asks_at source_in source_at sources_of said_sources all_supported uv_at toml_of
wide_faults = record {
  source_keys_first = refl;
  no_source = refl;
  index_direct = refl;
  source_of_extra = refl;
  own_source_first = refl;
  conflicts_before_asked = refl;
  source_asks = refl;
  address_first = refl;
  uv_first = refl;
  unilock_first = refl;
  profile_first = refl;
  conflicts_first = refl;
  dev_first = refl;
  dev_taken = refl;
  dev_text_first = refl;
  prerelease_first = refl;
}

pub supported_worlds : SupportedWorlds
unfolding meets_clause padded_release release_cmp has_release_front version_cmp
supported_worlds = record {
  everywhere = refl;
  too_old = refl;
  at_least = refl;
  in_one = refl;
  in_none = refl;
  old_in_one = refl;
}
