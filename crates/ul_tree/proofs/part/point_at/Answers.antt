use Rattle.std.proofs.Common.{ap, sym, ◌∙◌, suc, string_bytes}
use Rattle.ul_nodes.specs.Plain.{branch}
use Rattle.ul_tree.specs.Views.{tree_view, points_view}
use Rattle.ul_nodes.specs.Keys.{branches_from}
use Rattle.ul_tree.proofs.Shapes.{points_from}
use Rattle.ul_tree.proofs.part.point_at.Goals as goal

pub returns-clause-found : goal.returns-clause-found
returns-clause-found c =
    let rest = branches_from (suc c.args.index) (points_view c.args.points.now) in
    points_from c.args.points.now c.args.index c.index-points-index.result c.requires
    ∙ ap (λ p. branch (string_bytes p.0) (tree_view p.1) rest) (sym c.index-points-index.is)
    ∙ ap (λ k. branch k (tree_view c.index-points-index.result.1) rest) (sym c.as_str.ensures.value)
