use Rattle.std.proofs.Common.{◌≡◌, ℕ, List, Option, Some, None, length, ◌<◌, ap, subst, sym, ◌∙◌, arith}
use Rattle.ul_problem.specs.declared.term.Term.{Term}
use Rattle.ul_trail.specs.Certain.{IsCertainAt, IsOnlyOption}
use Rattle.ul_trail.specs.Propagation.{IsAlive}
use Rattle.ul_trail.specs.Track.{Track}
use Rattle.ul_trail.proofs.Certain.{IsReadAt, read_at, certain_some, certain_none}
use Rattle.ul_trail.proofs.trail.Trail.certain.Goals as goal
use Rattle.ul_trail.proofs.trail.Trail.certain.Goals.{After-only_option}

read : (c : After-only_option) → IsReadAt c.args.problem.now c.self.inside.standing.facts.items c.args.place c.node-node.result c.index-2.result.now
read c =
    let k = c.self.invariant (ap (λ (t : Track). t.whole) c.self.view_is ∙ c.requires.right.whole) in
    read_at c.args.problem.now _ _ _ c.self.inside.standing.facts.items c.args.place c.node-node.result c.index.result.now c.index-2.result.now k.standing
    (ap (λ (t : Track). t.sizes) c.self.view_is ∙ c.requires.right.sizes) (subst (λ (t : Track). c.args.place < length t.facts) (sym c.self.view_is) c.requires.place)
    c.index.ensures c.node-node.ensures c.index-2.ensures

pub returns-in-Some : goal.returns-in-Some
returns-in-Some c = subst (λ (t : Track). IsCertainAt c.args.problem.now t.facts c.args.place (Some (c.node-node.result, c.in-Some.version))) c.self.view_is
    (certain_some _ _ _ _ c.index-2.result.now _ (read c.before) (subst (λ (o : Option ℕ). IsOnlyOption c.index-2.result.now o) c.in-Some.is c.only_option.ensures))

pub returns-in-None : goal.returns-in-None
returns-in-None c = subst (λ (t : Track). IsCertainAt c.args.problem.now t.facts c.args.place None) c.self.view_is
    (certain_none _ _ _ c.node-node.result c.index-2.result.now (read c.before)
    (subst (λ (t : Track). IsAlive t.facts) (sym c.self.view_is) c.requires.right.alive)
    (subst (λ (o : Option ℕ). IsOnlyOption c.index-2.result.now o) c.in-None.is c.only_option.ensures))
