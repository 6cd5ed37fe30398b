use Rattle.std.proofs.Common.{List, length, ap, refl, ◌∙◌}
use Rattle.ul_trail.specs.Counts.{sizes_of}
use Rattle.ul_trail.specs.declared.fact.Fact.{Fact}
use Rattle.ul_solver.proofs.Moving.{back_opened, facts_fall}
use Rattle.ul_solver.proofs.States.{backward_kept}
use Rattle.ul_solver.proofs.solver.backward.Goals as goal

pub returns : goal.returns
returns c =
    let e = c.in_ok-progress.ensures in
    let b = c.in_ok-back.ensures in
    let k = backward_kept c.args.problem.now c.args.trail.now c.back.new.self c.propagate.new.self c.args.level c.args.learned.items
    c.requires.state c.requires.jump b.steps b.facts e.kept e.steps e.grown c.in_ok-progress.progress e.progress in
    record {
      state = k.state;
      opened = back_opened c.args.problem.now c.args.trail.now c.propagate.new.self c.args.opened.now _ c.args.level c.args.learned.items c.requires.state c.requires.opened c.requires.jump.lower
          k.steps k.grown k.top k.same refl c.mark_learned.ensures (c.len-opened.ensures ∙ (c.facts.result.now.ok.0 ∙ ap (λ (l : List Fact). length l) (c.facts.ensures ∙ b.facts)));
      progress = e.progress;
      falls = facts_fall (sizes_of c.args.problem.now) c.args.opened.now.versions.items c.args.trail.now.facts c.propagate.new.self.facts k.falls;
    }
