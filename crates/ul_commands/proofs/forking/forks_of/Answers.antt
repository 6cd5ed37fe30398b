use Rattle.std.proofs.Common.{◌∙◌, ap, subst}
use Rattle.ul_nodes.specs.Plain.{Plain}
use Rattle.ul_generations.specs.Answers.{Fails}
use Rattle.ul_project.specs.Fields.{ProjectFields}
use Rattle.ul_forks.specs.Forked as forks
use Rattle.ul_forks.specs.Outcome.{IsOutcome}
use Rattle.ul_forks.specs.Questions as questions
use Rattle.ul_inputs.specs.Resolutions.{view}
use Rattle.ul_commands.proofs.OfQuestions.{fault_refused, forks_are, is_question, rounds_are, shared_of}
use Rattle.ul_commands.proofs.forking.forks_of.Goals as goal

pub fork_all-requires-clause-question : goal.fork_all-requires-clause-question
fork_all-requires-clause-question g c κs within = is_question (view c.args.resolution.now) c.args.question.now c.requires.resolution c.requires.question

pub returns-in-Ok-clause-forks : goal.returns-in-Ok-clause-forks
returns-in-Ok-clause-forks g c =
    forks_are (view c.args.resolution.now) c.args.question.now c.requires.resolution c.requires.question c.args.workers
    c.in-Ok.forks.answer c.in-Ok.forks.rounds.items
    (subst (λ (t : Plain). forks.IsForked (questions.view c.args.question.now) t c.args.workers c.in-Ok.forks.answer c.in-Ok.forks.rounds.items)
    (ap (λ (p : ProjectFields). p.region) c.project.view_is) c.in-Ok.ensures.answer) c.in-Ok.forks.algebra c.in-Ok.ensures.regions

pub returns-in-Ok-clause-rounds : goal.returns-in-Ok-clause-rounds
returns-in-Ok-clause-rounds g c =
    rounds_are (view c.args.resolution.now) c.args.question.now c.requires.resolution c.requires.question c.args.workers
    c.in-Ok.forks.answer c.in-Ok.forks.rounds.items
    (subst (λ (t : Plain). forks.IsForked (questions.view c.args.question.now) t c.args.workers c.in-Ok.forks.answer c.in-Ok.forks.rounds.items)
    (ap (λ (p : ProjectFields). p.region) c.project.view_is) c.in-Ok.ensures.answer)

pub returns-in-Ok-clause-own : goal.returns-in-Ok-clause-own
returns-in-Ok-clause-own g c = c.in-Ok.ensures.knows.table ∙ c.requires.own

pub returns-in-Ok-clause-shared : goal.returns-in-Ok-clause-shared
returns-in-Ok-clause-shared g c =
    shared_of (view c.args.resolution.now) c.args.question.now c.requires.resolution c.requires.question
    c.in-Ok.forks.algebra c.in-Ok.forks.prepared c.in-Ok.ensures.shared

pub returns-in-Err-clause-refused : goal.returns-in-Err-clause-refused
returns-in-Err-clause-refused g c =
    fault_refused (view c.args.resolution.now) c.args.question.now c.requires.resolution c.requires.question
    c.in-Err.fault c.fork_refusal.result
    (subst (λ (t : Plain). Fails (IsOutcome (questions.view c.args.question.now)) t c.in-Err.fault)
    (ap (λ (p : ProjectFields). p.region) c.project.view_is) c.in-Err.ensures.fault) c.fork_refusal.ensures
