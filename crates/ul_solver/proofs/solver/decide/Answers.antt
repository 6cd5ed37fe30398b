use Rattle.std.proofs.Common.{◌∙◌}
use Rattle.ul_trail.specs.Counts.{sizes_of}
use Rattle.ul_solver.proofs.Moving.{decided_opened, facts_fall}
use Rattle.ul_solver.proofs.Room.{room}
use Rattle.ul_solver.proofs.States.{forward_kept}
use Rattle.ul_solver.proofs.solver.decide.Goals as goal

pub returns : goal.returns
returns c =
    let e = c.in_ok-progress.ensures in
    let r = c.requires in
    let k = forward_kept c.args.problem.now c.args.trail.now c.decide.new.self c.propagate.new.self c.args.node c.args.version
    r.state r.quiet (room c.args.problem.now c.args.trail.now c.args.node c.args.version r.state r.next r.there) r.next r.there r.first
    c.in_ok-decide.ensures.steps c.in_ok-decide.ensures.facts e.kept e.steps e.grown in
    record {
      state = k.state;
      opened = decided_opened c.args.problem.now c.args.trail.now c.propagate.new.self c.args.opened.now k.more r.opened r.looked (e.steps ∙ c.in_ok-decide.ensures.steps) k.facts k.top k.same;
      progress = e.progress;
      falls = facts_fall (sizes_of c.args.problem.now) c.args.opened.now.versions.items c.args.trail.now.facts c.propagate.new.self.facts k.falls;
    }
