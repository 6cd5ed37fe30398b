use Rattle.std.proofs.Common.{ap, sym, ◌∙◌, arith}
use Rattle.std.specs.Option.{option_map}
use Rattle.ul_nodes.specs.Keys.{level_view, branches_of}
use Rattle.ul_nodes.proofs.ForCallers.{from_end}
use Rattle.ul_tree.specs.SimplifyViews.{tops_of}
use Rattle.ul_tree.specs.Views.{tree_view}
use Rattle.ul_tree.proofs.simplify.first_part_level.Goals as goal

pub returns : goal.returns
returns c =
    let n = from_end (branches_of (tree_view c.args.tree.now)) c.loop-index.index (omega (arith, c.branch_count-index-end.ensures)) in
    sym (ap (λ z. tops_of z (option_map level_view c.loop-index.first)) n) ∙ c.loop-index.invariant
