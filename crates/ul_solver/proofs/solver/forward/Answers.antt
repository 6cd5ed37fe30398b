use Rattle.std.proofs.Common.{ℕ, subst, sym, ◌<◌, ◌∙◌}
use Rattle.ul_trail.specs.Facts.{picks_of}
use Rattle.ul_solver.proofs.Opening.{picks_held}
use Rattle.ul_solver.proofs.Starting.{next_within}
use Rattle.ul_solver.proofs.solver.forward.Goals as goal

pub choose-requires-clause-held : goal.choose-requires-clause-held
choose-requires-clause-held c = picks_held c.args.problem.now c.args.trail.now c.args.opened.now.versions.items c.args.opened.now.looked c.requires.state c.requires.opened.are c.requires.opened.looked c.requires.looked

pub index-requires : goal.index-requires
index-requires c = subst (λ (k : ℕ). c.args.node < k) (sym (c.args.opened.now.versions.ok.0 ∙ c.requires.opened.are.count)) (next_within c.args.problem.now (picks_of c.args.trail.now.facts) c.args.node c.roots.ensures.whole c.requires.next)

pub widen-requires-clause-node : goal.widen-requires-clause-node
widen-requires-clause-node c = next_within c.args.problem.now (picks_of c.args.trail.now.facts) c.args.node c.roots.ensures.whole c.requires.next
