use Rattle.std.proofs.Common.{List, map, subst, sym}
use Rattle.ul_lines.specs.Lines.{lines_of}
use Rattle.ul_marker.specs.Views.{marker_view}
use Rattle.ul_marker.specs.declared.marker.Marker.{Marker}
use Rattle.ul_canonical.specs.Lines.{ArePlain}
use Rattle.ul_canonical.proofs.Plain.{all_plain}
use Rattle.ul_canonical.proofs.answers.canonical.Goals as goal

pub text_of-text-requires : goal.text_of-text-requires
text_of-text-requires g c = subst (λ (ms : List Marker). ArePlain (map marker_view ms)) (sym c.as_slice-2.ensures.value) (all_plain 1 (lines_of c.args.bytes.now) (map marker_view c.in-Ok.markers.items) c.in-Ok.ensures)
