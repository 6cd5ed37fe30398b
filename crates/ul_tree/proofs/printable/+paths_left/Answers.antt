use Rattle.std.proofs.Common.{ap, sym, arith, subst}
use Rattle.ul_nodes.specs.Plain.{Plain}
use Rattle.ul_nodes.specs.Reduced.{IsReduced}
use Rattle.ul_nodes.specs.Keys.{branches_of}
use Rattle.ul_nodes.proofs.ForCallers.{rest_reduced, part_reduced, from_end}
use Rattle.ul_tree.specs.Paths.{paths_in, levels_in}
use Rattle.ul_tree.proofs.printable.+paths_left.Goals as goal

pub paths_left-requires : goal.paths_left-requires
paths_left-requires g t c =
    let a = g.Kind.Nodes.tree c.args.node.now in
    let d = c.decreases in
    λ k h. (omega (arith, d, c.in_ok-below.ensures), (h.0, (h.1, subst (λ (z : Plain). IsReduced z) (sym c.rest_of.ensures.part) (rest_reduced a c.requires))))

pub paths_left-requires-in-loop-index : goal.paths_left-requires-in-loop-index
paths_left-requires-in-loop-index g t c =
    let a = g.Kind.Nodes.tree c.args.node.now in
    let d = c.decreases in
    λ k h. (omega (arith, d, c.in_ok-below.ensures), (h.0, (h.1, part_reduced a _ _ _ c.loop-index.index c.requires c.branch_at.ensures.found)))

pub returns : goal.returns
returns g t c =
    let bs = branches_of (g.Kind.Nodes.tree c.args.node.now) in
    let past = from_end bs c.loop-index.index (omega (arith, c.branch_count-index-end.ensures)) in
    let p = ap paths_in past in
    let l = ap levels_in past in
    let paths = c.loop-index.invariant.paths in
    let within = c.loop-index.invariant.within in
    let b = c.in_ok-below.ensures in
    let w = within (omega (arith, l)) in
    (omega (arith, paths, p), omega (arith, w, b))
