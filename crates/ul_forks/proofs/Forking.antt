-- The fork answer of a diagram is that of its tree.
use Rattle.std.proofs.Common.{ℕ, List, Result, Ok, Err, IfOk, IfErr}
use Rattle.ul_algebra.specs.Spelled.{tree_of}
use Rattle.ul_region.specs.Truths.{DiagramMark}
use Rattle.ul_generations.specs.Answers.{Answers, Fails, answer_of}
use Rattle.ul_generations.specs.Generations.{IsForkAnswer, too_many}
use Rattle.ul_generations.specs.declared.answers.ForkFault.{ForkFault}
use Rattle.ul_generations.specs.declared.answers.ForkFault.TheVariants.{TooManyForks, NoMemory}
use Rattle.ul_generations.specs.declared.answers.Forked.TheVariants.{Leaves, Refused}
use Rattle.ul_forks.specs.Forked.{ForkedMarks, HasAccepted, IsForked}
use Rattle.ul_forks.specs.Judged.{IsJudged, JudgedLaws}
use Rattle.ul_forks.specs.Outcome.{Question, IsOutcome}

module _ (laws : JudgedLaws) (q : Question) (region : DiagramMark) where
  accepted_is : (counts : List ℕ) (forked : ForkedMarks) → IsForkAnswer (IsJudged q) region counts (answer_of forked) → HasAccepted q forked
  accepted_is counts (Leaves leaves) h = tt
  accepted_is counts (Refused path r steps) h = laws.accepted q region counts (record { path = path; region = r; refusal = steps }) h

  -- the answer
  pub forked_is : (workers : ℕ) (forked : ForkedMarks) (rounds : List (ℕ × ℕ)) → Answers (IsJudged q) region workers forked rounds → IsForked q (tree_of region) workers forked rounds
  forked_is workers forked rounds h = record {
    counts = h.0;
    answer = laws.answers q region h.0 (answer_of forked) h.1;
    accepted = accepted_is h.0 forked h.1;
    generations = h.2;
  }

  -- the fault
  pub fails_is : (e : ForkFault) → Fails (IsJudged q) region e → Fails (IsOutcome q) (tree_of region) e
  fails_is (TooManyForks n) h = (h.0, laws.answers q region h.0 (too_many n) h.1)
  fails_is NoMemory h = tt

-- ---- of results

pub ok_weaker : {A E : Type 0} (P Q : A → Type 0) (r : Result A E) → ((a : A) → P a → Q a) → IfOk r P → IfOk r Q
ok_weaker P Q (Ok a) f h = f a h
ok_weaker P Q (Err e) f h = tt

pub err_weaker : {A E : Type 0} (P Q : E → Type 0) (r : Result A E) → ((e : E) → P e → Q e) → IfErr r P → IfErr r Q
err_weaker P Q (Ok a) f h = tt
err_weaker P Q (Err e) f h = f e h
