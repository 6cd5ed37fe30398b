use Rattle.std.proofs.Common.{◌-◌}
use Rattle.ul_conflict.proofs.Turning.{jump_here, jumped, cause_of, cause_fits, cause_terms, cut_here, IsJump}
use Rattle.ul_conflict.proofs.Rooting.{closed_none, closed_root}
use Rattle.ul_conflict.proofs.analysis.advance.Goals as goal

pub returns-then-at-eq0 : goal.returns-then-at-eq0
returns-then-at-eq0 c = (c.requires.state, closed_none c.args.problem.now c.args.trail.now _ _ _ c.args.place c.satisfier-at.result c.terms.result.now c.roots.ensures.whole c.requires.right c.requires.state c.satisfier-at.ensures c.terms.ensures.value c.if-at-eq0.true)

pub returns-then-level-fact : goal.returns-then-level-fact
returns-then-level-fact c = jumped c.args.problem.now c.args.trail.now _ _ _ c.args.place c.satisfier-at.result c.satisfier-before.result _ c.level_before-level.result c.index-fact.result.now c.roots.ensures.whole c.requires.right
    (jump_here c.args.problem.now c.args.trail.now _ _ _ c.args.place c.satisfier-at.result c.satisfier-before.result c.level_before-level.result c.node-node.result c.index-fact.result.now c.facts.result.now.items c.facts-2.result.now.items c.deref.result.now c.terms.result.now c.terms-2.result.now
    c.requires.state c.satisfier-at.ensures c.terms.ensures.value c.if-at-eq0.false c.facts.ensures c.index-fact.ensures c.node-node.ensures c.satisfier-before.ensures c.terms-2.ensures.value c.deref.ensures.value c.facts-2.ensures c.level_before-level.ensures)
    c.if-level-fact.true

jump-of : (c : goal.After-cut-arg-1) → IsJump c.args.problem.now c.args.trail.now c.args.resolved.now.terms c.args.resolved.now.number c.args.resolved.now.learned.items c.args.place c.satisfier-at.result c.satisfier-before.result (c.satisfier-at.result - 1) c.level_before-level.result c.index-fact.result.now
jump-of c = jump_here c.args.problem.now c.args.trail.now _ _ _ c.args.place c.satisfier-at.result c.satisfier-before.result c.level_before-level.result c.node-node.result c.index-fact.result.now c.facts.result.now.items c.facts-2.result.now.items c.deref.result.now c.terms.result.now c.terms-2.result.now
    c.requires.state c.satisfier-at.ensures c.terms.ensures.value c.if-at-eq0.false c.facts.ensures c.index-fact.ensures c.node-node.ensures c.satisfier-before.ensures c.terms-2.ensures.value c.deref.ensures.value c.facts-2.ensures c.level_before-level.ensures

pub cut-requires-clause-cause : goal.cut-requires-clause-cause
cut-requires-clause-cause c = let j = jump-of c in (cause_terms c.args.problem.now c.args.trail.now _ c.index-fact.result.now c.in-Some.cause (cause_of c.args.problem.now c.args.trail.now _ c.index-fact.result.now c.in-Some.cause c.requires.right j.fact c.in-Some.is)).0

pub cut-requires-clause-step : goal.cut-requires-clause-step
cut-requires-clause-step c = let j = jump-of c in (cause_terms c.args.problem.now c.args.trail.now _ c.index-fact.result.now c.in-Some.cause (cause_of c.args.problem.now c.args.trail.now _ c.index-fact.result.now c.in-Some.cause c.requires.right j.fact c.in-Some.is)).1

pub cut-requires-clause-fits : goal.cut-requires-clause-fits
cut-requires-clause-fits c = let j = jump-of c in cause_fits c.args.problem.now c.args.trail.now _ c.index-fact.result.now c.in-Some.cause c.roots.ensures.whole (cause_of c.args.problem.now c.args.trail.now _ c.index-fact.result.now c.in-Some.cause c.requires.right j.fact c.in-Some.is)

pub returns-in-None : goal.returns-in-None
returns-in-None c = (
  c.requires.state,
  closed_root c.args.problem.now c.args.trail.now _ _ _ c.args.place c.satisfier-at.result c.satisfier-before.result _ c.level_before-level.result c.index-fact.result.now c.roots.ensures.whole c.requires.right
      (jump_here c.args.problem.now c.args.trail.now _ _ _ c.args.place c.satisfier-at.result c.satisfier-before.result c.level_before-level.result c.node-node.result c.index-fact.result.now c.facts.result.now.items c.facts-2.result.now.items c.deref.result.now c.terms.result.now c.terms-2.result.now
      c.requires.state c.satisfier-at.ensures c.terms.ensures.value c.if-at-eq0.false c.facts.ensures c.index-fact.ensures c.node-node.ensures c.satisfier-before.ensures c.terms-2.ensures.value c.deref.ensures.value c.facts-2.ensures c.level_before-level.ensures)
      c.in-None.is c.if-level-fact.false,
)

pub returns-in_ok-cut-in-Some : goal.returns-in_ok-cut-in-Some
returns-in_ok-cut-in-Some c = cut_here c.args.problem.now c.args.trail.now c.args.resolved.now c.cut.new.resolved c.args.place c.satisfier-at.result c.satisfier-before.result c.level_before-level.result c.node-node.result c.in-Some.cause c.index-fact.result.now c.roots.ensures.whole c.requires.right
    (jump_here c.args.problem.now c.args.trail.now _ _ _ c.args.place c.satisfier-at.result c.satisfier-before.result c.level_before-level.result c.node-node.result c.index-fact.result.now c.facts.result.now.items c.facts-2.result.now.items c.deref.result.now c.terms.result.now c.terms-2.result.now
    c.requires.state c.satisfier-at.ensures c.terms.ensures.value c.if-at-eq0.false c.facts.ensures c.index-fact.ensures c.node-node.ensures c.satisfier-before.ensures c.terms-2.ensures.value c.deref.ensures.value c.facts-2.ensures c.level_before-level.ensures)
    c.in-Some.is c.node-node.ensures c.in_ok-cut-in-Some.ensures
