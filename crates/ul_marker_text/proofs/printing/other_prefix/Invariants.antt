use Rattle.std.proofs.Common.{◌≡◌, string_bytes}
use Rattle.ul_nodes.specs.Apply.{keys}
use Rattle.ul_nodes.specs.Keys.{level_view, branches_of, branches_from}
use Rattle.ul_tree.specs.Views.{tree_view}
use Rattle.ul_marker_text.specs.Printing.{others_joined}
use Rattle.ul_marker_text.proofs.printing.other_prefix.Given as goal

abbrev pub invariant-loop-index : goal.invariant-loop-index
invariant-loop-index l =
    others_joined (level_view l.level) (string_bytes l.next) (keys (branches_from l.index (branches_of (tree_view l.tree)))) ≡ others_joined (level_view l.level) l.prefix (keys (branches_of (tree_view l.tree)))
