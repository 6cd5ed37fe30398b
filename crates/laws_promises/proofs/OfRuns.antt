-- What a call of `run` gives.
use Rattle.std.proofs.Common.{◌≡◌, ◌≢◌, ◌∙◌, ℕ, List, false, true≢false, nat_eq, eq-eqb, Option, refl, sym}
use Rattle.ul_commands.specs.Asked.{lock}
use Rattle.ul_program.specs.Headline.{FilesSeen, Headline, SinkSeen}
use Rattle.ul_program.specs.Words.{question}
use Rattle.laws_promises.specs.Promises.{LocksAreRight}
use Rattle.laws_promises.specs.Runs.{RunsGiveAnswers, RunsOfLockAreRight}

pub runs_give_answers : RunsGiveAnswers
runs_give_answers words files_before files_now sink_before sink_now status h no_fault own =
    let text = h.text own in
    (text.0, record { given = text.2; answer = text.1.answer no_fault })

-- numbers that the test tells apart differ
differ : (k n : ℕ) → nat_eq k n ≡ false → k ≢ n
differ k n apart same = true≢false (sym (eq-eqb k n same) ∙ apart)

pub runs_of_lock_are_right : RunsGiveAnswers → LocksAreRight → RunsOfLockAreRight
runs_of_lock_are_right runs right words files_before files_now sink_before sink_now project folder workers old q h =
    let gives = runs words files_before files_now sink_before sink_now 0 h (differ 0 5 refl) (differ 0 6 refl, differ 0 7 refl) in
    (gives.0, gives.1.given, λ m agrees. right words m gives.0 project folder workers old q (gives.1.answer m agrees))
