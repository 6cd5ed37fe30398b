use Rattle.ul_inputs.specs.Resolutions.{view}
use Rattle.ul_commands.proofs.Accepted.{names_here, none_here}
use Rattle.ul_commands.proofs.OfQuestions.{problem_here, shared_project}
use Rattle.ul_commands.proofs.Replies.{lines_of}
use Rattle.ul_commands.proofs.resolving.lines_at.Goals as goal

pub problem_at-requires-clause-project : goal.problem_at-requires-clause-project
problem_at-requires-clause-project g c = shared_project (view c.args.resolution.now) c.args.algebra.now c.args.prepared.now c.requires.resolution c.requires.shared

pub problem_at-requires-clause-prepared : goal.problem_at-requires-clause-prepared
problem_at-requires-clause-prepared g c = c.requires.shared.prepared

pub lines_by-lines-requires-clause-none : goal.lines_by-lines-requires-clause-none
lines_by-lines-requires-clause-none g c =
    none_here c.equal_problems.ensures (view c.args.resolution.now) c.args.region.now c.args.derivation.now c.in_ok-problem.problem
    c.requires.accepted
    (problem_here (view c.args.resolution.now) c.args.algebra.now c.args.prepared.now c.args.region.now c.in_ok-problem.problem c.requires.shared c.in_ok-problem.ensures.problem)
    c.accepted_law.ensures

pub lines_by-lines-requires-clause-names : goal.lines_by-lines-requires-clause-names
lines_by-lines-requires-clause-names g c =
    names_here c.equal_problems.ensures (view c.args.resolution.now) c.args.region.now c.args.derivation.now c.in_ok-problem.problem
    c.requires.accepted
    (problem_here (view c.args.resolution.now) c.args.algebra.now c.args.prepared.now c.args.region.now c.in_ok-problem.problem c.requires.shared c.in_ok-problem.ensures.problem)
    c.right_steps_have_names.ensures

pub returns-clause-lines : goal.returns-clause-lines
returns-clause-lines g c =
    lines_of c.args.wanted c.equal_problems.ensures (view c.args.resolution.now) c.args.region.now c.args.derivation.now c.in_ok-problem.problem
    c.requires.accepted
    (problem_here (view c.args.resolution.now) c.args.algebra.now c.args.prepared.now c.args.region.now c.in_ok-problem.problem c.requires.shared c.in_ok-problem.ensures.problem)
    c.lines_by-lines.result c.lines_by-lines.ensures
