use Rattle.std.proofs.Common.{◌≡◌, drop, map}
use Rattle.toml.specs.View.{items_view}
use Rattle.ul_comparison.specs.Formulas.{AreFormulas}
use Rattle.ul_marker.specs.Views.{marker_view, markers_view}
use Rattle.ul_project.specs.Results.{each_from}
use Rattle.ul_project.specs.Settings.{environment_at}
use Rattle.ul_project.specs.Toml.{items_list}
use Rattle.ul_project.proofs.EachRead.{behind}
use Rattle.ul_project.proofs.settings.environments.Given as goal

abbrev pub invariant-loop-item : goal.invariant-loop-item
invariant-loop-item l = record {
  number : l.number ≡ l.item-index;
  left : each_from environment_at 0 (items_list (items_view l.items)) ≡ behind (map marker_view l.list.items) (each_from environment_at l.number (items_list (items_view (drop l.item-index l.items))));
  valid : AreFormulas (markers_view l.list.items);
}
