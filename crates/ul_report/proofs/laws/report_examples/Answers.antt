use Rattle.std.proofs.Common.{refl}
use Rattle.std.specs.Fmt.{digits}
use Rattle.ul_version.specs.Texts.{version_text}
use Rattle.ul_comparison.specs.Printed.{comparison_text, atom_text}
use Rattle.ul_marker_text.specs.MarkerText.{marker_text}
use Rattle.ul_report.specs.Texts.{text_part, truth_part, python_part, world_text, lines_text, node_text, placed_text, term_text, step_text, step_line}
use Rattle.ul_report.proofs.laws.report_examples.Goals as goal

pub returns-clause-refusals : goal.returns-clause-refusals
unfolding digits comparison_text atom_text marker_text text_part truth_part python_part world_text lines_text
returns-clause-refusals c = record { platform = refl; whole = refl; opaque_comparison = refl }

pub returns-clause-steps : goal.returns-clause-steps
unfolding digits version_text node_text placed_text term_text step_text step_line
returns-clause-steps c = record { nothing = refl; need = refl; no_versions = refl; python = refl; base = refl; terms = refl; left_out = refl; no_terms = refl; three = refl }
