use Rattle.std.proofs.Common.{sym}
use Rattle.std.proofs.lemmas.Result.{IfOk-weaker}
use Rattle.ul_nodes.specs.Keys.{level_view}
use Rattle.ul_marker_text.specs.Nodes.{parts_view}
use Rattle.ul_marker_text.specs.StepViews.{above_view}
use Rattle.ul_marker_text.proofs.NodeCode.{first_flat, interval_fits}
use Rattle.ul_marker_text.proofs.NodeFacts.{keeps_given, node_pieces, node_points}
use Rattle.ul_marker_text.proofs.nodes.node_of.Goals as goal

pub pieces_node-requires : goal.pieces_node-requires
pieces_node-requires c = interval_fits c.args.parts.items (level_view c.args.level) (sym c.if-has_interval.ensures) c.requires.level c.requires.parts

pub points_node-requires-clause-level : goal.points_node-requires-clause-level
points_node-requires-clause-level c = first_flat c.args.parts.items (level_view c.args.level) (sym c.if-has_interval.ensures) c.requires.level

pub returns-then-has_interval : goal.returns-then-has_interval
returns-then-has_interval c =
    let same = sym (node_pieces (parts_view c.args.parts.items) (sym c.if-has_interval.ensures)) in
    IfOk-weaker c.pieces_node.result _ _ (λ tree kept. keeps_given (above_view c.args.above) _ _ _ same kept) c.pieces_node.ensures

pub returns : goal.returns
returns c =
    let same = sym (node_points (parts_view c.args.parts.items) (level_view c.args.level) (sym c.if-has_interval.ensures) c.requires.level) in
    IfOk-weaker c.points_node.result _ _ (λ tree kept. keeps_given (above_view c.args.above) _ _ _ same kept) c.points_node.ensures
