use lib.Utf8.{encode}
use Rattle.std.proofs.Common.{refl}
use Rattle.std.specs.Str.{chars, is_utf8}
use Rattle.ul_base.specs.Names.{is_name, normal_form}
use Rattle.ul_comparison.specs.Atoms.{is_normal_name}
use Rattle.ul_lines.specs.Lines.{lines_of}
use Rattle.ul_lines.specs.Pieces.{cut_end}
use Rattle.ul_marker.specs.Comparisons.{comparison_of, containment, extra_literal, sign_formula, versions_of, within}
use Rattle.ul_marker.specs.Reading.{atom_at, before_close, chain_at, chain_with, each, inner_tokens, locked_marker_of, part_at, pieces_from}
use Rattle.ul_marker.specs.Words.{front_literal, front_sign, front_token, front_word, tokens_in, tokens_of, word_token}
use Rattle.ul_specifier.specs.Reading.{operator}
use Rattle.ul_canonical.specs.Lines.{formula_of_text, formulas_from}
use Rattle.ul_canonical.proofs.laws.line_examples.Goals as goal

pub returns : goal.returns
unfolding encode chars is_utf8 is_name normal_form is_normal_name lines_of cut_end comparison_of containment extra_literal sign_formula versions_of within atom_at before_close chain_at chain_with each inner_tokens locked_marker_of part_at pieces_from front_literal front_sign front_token front_word tokens_in tokens_of word_token operator formula_of_text formulas_from
returns c = record {
  always = refl;
  nowhere = refl;
  marker = refl;
  extra = refl;
  extras = refl;
  blank_star = refl;
  not_ended = refl;
  nothing = refl;
  two = refl;
  second = refl;
  last = refl;
}
