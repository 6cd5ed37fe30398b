use Rattle.ul_conflict.proofs.Satisfying.{skip_apart, fact_at, term_size, part_yes, part_held, part_none}
use Rattle.ul_conflict.proofs.satisfier.takes_part.Goals as goal

pub relation-relation-requires-clause-sizes : goal.relation-relation-requires-clause-sizes
relation-relation-requires-clause-sizes c = (term_size c.args.problem.now c.args.terms.now c.node-node.result c.index.result.now c.in-Some.term.now c.before-in-Some.result.now c.args.trail.now.sizes _ c.requires.fits c.in-Some.ensures c.node-node.ensures c.requires.right.sizes
    (c.before-in-Some.ensures c.index.result.now (fact_at c.args.trail.now.facts c.facts.result.now.items c.args.place c.index.result.now c.facts.ensures c.requires.place c.index.ensures))).0

pub relation-relation-requires-clause-nodes : goal.relation-relation-requires-clause-nodes
relation-relation-requires-clause-nodes c = (term_size c.args.problem.now c.args.terms.now c.node-node.result c.index.result.now c.in-Some.term.now c.before-in-Some.result.now c.args.trail.now.sizes _ c.requires.fits c.in-Some.ensures c.node-node.ensures c.requires.right.sizes
    (c.before-in-Some.ensures c.index.result.now (fact_at c.args.trail.now.facts c.facts.result.now.items c.args.place c.index.result.now c.facts.ensures c.requires.place c.index.ensures))).1

pub returns-in-None : goal.returns-in-None
returns-in-None c = part_none c.args.trail.now.facts c.args.terms.now c.args.skip c.args.place c.node-node.result c.index.result.now (fact_at c.args.trail.now.facts c.facts.result.now.items c.args.place c.index.result.now c.facts.ensures c.requires.place c.index.ensures) c.node-node.ensures c.in-None.ensures

pub returns-in-Holds : goal.returns-in-Holds
returns-in-Holds c =
    let f = fact_at c.args.trail.now.facts c.facts.result.now.items c.args.place c.index.result.now c.facts.ensures c.requires.place c.index.ensures in
    part_held c.args.problem.now c.args.trail.now.facts c.args.terms.now c.args.skip c.args.place c.node-node.result _ c.index.result.now c.in-Some.term.now c.before-in-Some.result.now c.relation-relation.result f c.node-node.ensures c.requires.fits c.in-Some.ensures
    (c.before-in-Some.ensures c.index.result.now f) c.relation-relation.ensures c.in-Holds.is

pub returns-in_default : goal.returns-in_default
returns-in_default c =
    let f = fact_at c.args.trail.now.facts c.facts.result.now.items c.args.place c.index.result.now c.facts.ensures c.requires.place c.index.ensures in
    part_yes c.args.problem.now c.args.trail.now.facts c.args.terms.now c.args.skip c.args.place c.node-node.result _ c.index.result.now c.in-Some.term.now c.before-in-Some.result.now c.relation-relation.result f c.node-node.ensures
    (skip_apart c.args.skip c.node-node.result c.if-eq.ensures) c.requires.fits c.in-Some.ensures (c.before-in-Some.ensures c.index.result.now f) c.relation-relation.ensures c.in_default.not-Holds
