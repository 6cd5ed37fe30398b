use Rattle.std.proofs.Common.{drop}
use Rattle.ul_marker.specs.Views.{markers_view}
use Rattle.ul_region.proofs.ExtraFacts.{AreLeft}
use Rattle.ul_region.proofs.extra_index.+named.Given as goal

abbrev pub invariant-add_parts-loop-part : goal.invariant-add_parts-loop-part
invariant-add_parts-loop-part l = AreLeft (markers_view l.parts) (markers_view (drop l.part-index l.parts)) l.place l.initial.index l.index
