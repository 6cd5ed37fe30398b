use Rattle.std.proofs.Common.{◌≡◌, suc, ◌<◌, arith, sym, subst, length, List}
use Rattle.ul_problem.specs.declared.step.Step.{Step}
use Rattle.ul_conflict.specs.Resolved.{IsResolved}
use Rattle.ul_conflict.proofs.Turning.{started}
use Rattle.ul_conflict.proofs.analysis.start.Goals as goal

pub returns : goal.returns
returns c =
    let l = c.count-count.ensures.value in
    let s : c.args.conflict < length c.args.trail.now.steps = c.requires.step in
    let n : c.min.result ≡ suc c.args.conflict = omega arith in
    subst (λ (x : List Step). IsResolved c.args.problem.now c.args.trail.now c.in_ok-terms.terms c.min.result x (length c.args.trail.now.facts)) (sym c.new.ensures.items)
    (started c.args.problem.now c.args.trail.now c.args.conflict c.min.result c.in_ok-terms.terms c.terms.result.now c.roots.ensures.whole c.requires.right c.requires.conflict n c.terms.ensures c.in_ok-terms.ensures)
