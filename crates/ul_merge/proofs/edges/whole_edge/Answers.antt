use Rattle.std.proofs.Common.{Some, ap, sym, ◌∙◌}
use Rattle.ul_merge.specs.Over.{edge_by}
use Rattle.ul_merge.proofs.edges.whole_edge.Goals as goal

pub returns-in_ok-edge-in-Some : goal.returns-in_ok-edge-in-Some
returns-in_ok-edge-in-Some c =
    let edge = c.in_ok-edge-in-Some.ensures in
    (λ i. Some (record { target = edge.target i; version = edge.version i; marker = edge.marker i })) ∙ sym (ap (edge_by c.args.target.now c.args.version.now) c.in-Some.is)
