use Rattle.std.proofs.Common.{sym, ap, ◌∙◌}
use Rattle.std.specs.Prelude.{option_map}
use Rattle.ul_tree.specs.Views.{tree_view}
use Rattle.ul_report_read.proofs.LineLaws.{read_is_region}
use Rattle.ul_report_read.proofs.lines.region_of.Goals as goal

pub of-requires : goal.of-requires
of-requires c = read_is_region c.args.bytes.now (tree_view c.in-Some.tree) (sym c.in_ok-read_marker.ensures ∙ ap (option_map tree_view) c.in-Some.is)
