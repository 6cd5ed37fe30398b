use Rattle.std.proofs.Common.{refl}
use Rattle.std.specs.Fmt.{digits}
use Rattle.ul_comparison.specs.Printed.{comparison_text, atom_text, interpreter_text}
use Rattle.ul_marker_text.specs.MarkerText.{marker_text}
use Rattle.ul_marker_text.proofs.laws.text_examples.Goals as goal

pub returns : goal.returns
unfolding marker_text comparison_text atom_text interpreter_text digits
returns c = record { everywhere = refl; lower_bound = refl; interval = refl; gap = refl; points = refl; opaque_that_fails = refl; chosen_extra = refl; paths_in_order = refl }
