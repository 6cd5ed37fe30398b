use Rattle.std.proofs.Common.{subst, sym}
use Rattle.std.proofs.lemmas.Result.{err_from_is_err_and}
use Rattle.ul_interner.specs.Known.{Knows}
use Rattle.ul_interner.proofs.ForCallers.{knows_then}
use Rattle.ul_algebra.specs.Spelled.{tree_of}
use Rattle.ul_generations.specs.Answers.{Fails}
use Rattle.ul_prepared.proofs.ForCallers.{prepared_still}
use Rattle.ul_region.specs.Truths.{IsRegion, PassView, region_at}
use Rattle.ul_region.proofs.ForCallers.{truth_still}
use Rattle.ul_forks.specs.Forked.{IsForked}
use Rattle.ul_forks.specs.Judge.{IsReady}
use Rattle.ul_forks.specs.Outcome.{IsOutcome, Question}
use Rattle.ul_forks.specs.Questions.{IsReadyFor}
use Rattle.ul_forks.proofs.Asking.{ready_then, ready_with, same_question, shared_by}
use Rattle.ul_forks.proofs.fork.forks_from.Goals as goal

pub forks_by-requires-clause-region : goal.forks_by-requires-clause-region
forks_by-requires-clause-region g c κs within = subst (λ (h : PassView). IsRegion h c.args.region) (sym c.end-pass.ensures)
    (truth_still c.args.algebra c.of.new.algebra c.args.region (region_at c.args.region) c.of.ensures.knows c.requires.region)

pub forks_by-requires-clause-ready : goal.forks_by-requires-clause-ready
forks_by-requires-clause-ready g c κs within =
    let ready = shared_by c.of.new.algebra c.args.question.now c.in_ok-prepared.prepared c.in_ok-prepared.ensures.prepared c.in_ok-prepared.ensures.catalog c.in_ok-prepared.ensures.starts c.in_ok-prepared.ensures.wish in
    subst (λ (h : PassView). IsReady h c.in_ok-prepared.prepared c.args.question.now.extras.now) (sym c.end-pass.ensures)
    (ready_with c.of.new.algebra c.args.question.now c.in_ok-prepared.prepared c.requires.question ready)

pub returns-clause-answer : goal.returns-clause-answer
returns-clause-answer g c =
    let ready = shared_by c.of.new.algebra c.args.question.now c.in_ok-prepared.prepared c.in_ok-prepared.ensures.prepared c.in_ok-prepared.ensures.catalog c.in_ok-prepared.ensures.starts c.in_ok-prepared.ensures.wish in
    subst (λ (q : Question). IsForked q (tree_of c.args.region) c.args.workers c.in_ok-answer.answer c.in_ok-answer.rounds.items)
    (same_question c.of.new.algebra c.args.question.now c.in_ok-prepared.prepared ready) c.in_ok-answer.ensures.answer

pub returns-in_err-answer-clause-fault : goal.returns-in_err-answer-clause-fault
returns-in_err-answer-clause-fault g c =
    let ready = shared_by c.of.new.algebra c.args.question.now c.in_ok-prepared.prepared c.in_ok-prepared.ensures.prepared c.in_ok-prepared.ensures.catalog c.in_ok-prepared.ensures.starts c.in_ok-prepared.ensures.wish in
    let p = err_from_is_err_and c.from_residual-in_err-answer.result c.from_residual-in_err-answer.ensures.1 in
    rw (p.1, p.2) (subst (λ (q : Question). Fails (IsOutcome q) (tree_of c.args.region) c.in_err-answer.field-0.0)
    (same_question c.of.new.algebra c.args.question.now c.in_ok-prepared.prepared ready) c.in_err-answer.ensures.fault)

pub returns-clause-knows : goal.returns-clause-knows
returns-clause-knows g c = subst (λ (h : PassView). Knows c.args.algebra h) (sym c.begin-algebra.ensures)
    (knows_then _ _ _ c.of.ensures.knows (subst (λ (h : PassView). Knows h c.forks_by.new.pass) c.end-pass.ensures c.in_ok-answer.ensures.knows))

pub returns-clause-shared : goal.returns-clause-shared
returns-clause-shared g c =
    let ready = shared_by c.of.new.algebra c.args.question.now c.in_ok-prepared.prepared c.in_ok-prepared.ensures.prepared c.in_ok-prepared.ensures.catalog c.in_ok-prepared.ensures.starts c.in_ok-prepared.ensures.wish in
    subst (λ (h : PassView). IsReadyFor h c.args.question.now c.in_ok-prepared.prepared) (sym c.begin-algebra.ensures)
    (ready_then c.of.new.algebra c.forks_by.new.pass c.args.question.now c.in_ok-prepared.prepared
    (subst (λ (h : PassView). Knows h c.forks_by.new.pass) c.end-pass.ensures c.in_ok-answer.ensures.knows) ready)
