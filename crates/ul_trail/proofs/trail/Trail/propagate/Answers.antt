use Rattle.std.proofs.Common.{◌≡◌, true, length, arith, subst, sym}
use Rattle.ul_trail.specs.Facts.{level_of}
use Rattle.ul_trail.specs.Propagation.{IsTrailOf}
use Rattle.ul_trail.specs.HeldSteps.{steps_in}
use Rattle.ul_trail.specs.Kept.{IsKept, turns_of}
use Rattle.ul_trail.proofs.Following.{facts_sound}
use Rattle.ul_trail.proofs.Propagating.{IsGrownFrom, grown_from, kept_grown, spread_progress}
use Rattle.ul_trail.proofs.trail.Trail.propagate.Goals as goal

right-of : (c : goal.After-self-2-1) → IsTrailOf c.args.problem.now (record { steps = steps_in c.self.inside.held c.self.inside.watching.terms.items; terms = c.self.inside.watching.terms.items; facts = c.self.inside.standing.facts.items; sizes = c.self.inside.standing.sizes.items; width = length c.self.inside.watching.rows.items; queue = c.self.inside.queue.items; turns = turns_of c.self.inside.marks.items; whole = c.self.inside.whole })
right-of c = subst (IsTrailOf c.args.problem.now) (sym c.self.view_is) c.requires.right

kept-of : (c : goal.After-self-2-1) → IsKept c.self.inside
kept-of c = let w = right-of c in c.self.invariant w.whole

level-is : (c : goal.After-self-2-1) → level_of c.self.inside.standing.facts.items ≡ c.len-level.result
level-is c = let k = kept-of c in let e = k.level in omega arith

pub invariant_of-self-2 : goal.invariant_of-self-2
invariant_of-self-2 c = λ h. kept_grown c.self.inside c.spread.new.standing c.spread.new.cursor true c.len-level.result (kept-of c) c.in_ok-progress.ensures.standing c.in_ok-progress.ensures.sizes c.in_ok-progress.ensures.grown (level-is c) c.in_ok-progress.ensures.seen c.in_ok-progress.ensures.checked c.in_ok-progress.ensures.settled

grown-of : (c : goal.After-self-2-1) → IsGrownFrom c.args.problem.now c.args.self.now (record { steps = steps_in c.self.inside.held c.self.inside.watching.terms.items; terms = c.self.inside.watching.terms.items; facts = c.spread.new.standing.facts.items; sizes = c.spread.new.standing.sizes.items; width = length c.self.inside.watching.rows.items; queue = c.self.inside.queue.items; turns = turns_of c.self.inside.marks.items; whole = true })
grown-of c = grown_from c.args.problem.now _ c.args.self.now c.len-level.result c.spread.new.standing.facts.items c.spread.new.standing.sizes.items c.self.view_is c.requires.right (level-is c) c.in_ok-progress.ensures.sizes c.in_ok-progress.ensures.grown

pub returns : goal.returns
returns c =
    let w = right-of c in
    let g = grown-of c in
    record {
      kept = g.kept;
      steps = g.steps;
      grown = g.grown;
      sound = facts_sound c.args.problem.now (steps_in c.self.inside.held c.self.inside.watching.terms.items) c.spread.new.standing.facts.items g.kept.follow;
      progress = spread_progress c.args.problem.now (record { steps = steps_in c.self.inside.held c.self.inside.watching.terms.items; terms = c.self.inside.watching.terms.items; facts = c.spread.new.standing.facts.items; sizes = c.spread.new.standing.sizes.items; width = length c.self.inside.watching.rows.items; queue = c.self.inside.queue.items; turns = turns_of c.self.inside.marks.items; whole = true }) c.in_ok-progress.progress w.said c.in_ok-progress.ensures.progress;
    }
