use Rattle.std.proofs.Common.{arith, length, refl, sym, ◌∙◌}
use Rattle.std.proofs.lemmas.Option.{slice_get_within}
use Rattle.ul_trail.proofs.Decided.{found_here, passed_all, passed_next}
use Rattle.ul_trail.proofs.asking.first_undecided.Goals as goal

pub returns-then-not-is_decided-clause-found : goal.returns-then-not-is_decided-clause-found
returns-then-not-is_decided-clause-found c = λ n e. found_here c.args.queue.now c.args.picks.now c.loop-place.place _ n c.loop-place-test.true refl (sym c.is_decided.ensures ∙ c.if-not-is_decided.true) e

pub loop-place-preserved : goal.loop-place-preserved
loop-place-preserved c = passed_next c.args.queue.now c.args.picks.now c.loop-place.place _ c.loop-place-test.true refl (sym c.is_decided.ensures ∙ c.if-not-is_decided.false) c.loop-place.invariant

pub returns-clause-passed : goal.returns-clause-passed
returns-clause-passed c = passed_all c.args.queue.now c.args.picks.now c.loop-place.place (length c.args.queue.now) c.loop-place-test.false c.loop-place.invariant

pub returns-clause-found : goal.returns-clause-found
returns-clause-found c = λ n e. absurd (let within = slice_get_within c.args.queue.now _ n e in omega arith)
