use Rattle.ul_conflict.proofs.HeldPlaces.{term_node, places_held}
use Rattle.ul_conflict.proofs.held.shortest.Goals as goal

pub watched-row-requires-clause-node : goal.watched-row-requires-clause-node
watched-row-requires-clause-node c = term_node c.args.problem.now c.args.trail.now c.args.terms.now c.loop-term.term-index c.node.result c.term-item.result c.requires.right c.requires.fits c.loop-term-test.true c.term-item.is c.node.ensures

pub shorter-best-requires-clause-row : goal.shorter-best-requires-clause-row
shorter-best-requires-clause-row c = places_held c.args.problem.now c.args.trail.now c.node.result c.watched-row.result.now.items c.requires.right c.watched-row.ensures
