-- What `check` and `verify` answer to what files give.
use Rattle.std.proofs.Common.{◌⊎◌, ℕ, Result, Ok, refl, inl, inr}
use Rattle.ul_tree.specs.Regions.{NoExtra, region_of}
use Rattle.ul_problem.specs.Plain.{Plain as Problem}
use Rattle.ul_lock.specs.Region.{IsRegion}
use Rattle.ul_lock.specs.WellFormed.{IsWellFormed}
use Rattle.ul_lock.specs.declared.parts.Lock.{Lock}
use Rattle.ul_forks.specs.Outcome.{starts_of}
use Rattle.ul_report_judge.specs.Faults.{AcceptsNames, IsFirstBad}
use Rattle.ul_report_read.specs.declared.proof.Proof.{Proof}
use Rattle.ul_verified.specs.Verified.{IsRoot, IsVerified}
use Rattle.ul_inputs.specs.Refused.{Refused}
use Rattle.ul_inputs.specs.Resolutions.{ResolutionFields}
use Rattle.ul_answers.specs.Answer as answers
use Rattle.ul_answers.specs.Answer.{Answer, accepted, rejected, rejected_package, rejected_root, rejected_supported}
use Rattle.ul_commands.specs.Checking.{IsCheckAnswer}
use Rattle.ul_commands.specs.Questions.{IsProblemIn, question_of}
use Rattle.ul_commands.specs.Verifying.{IsVerifyAnswer}
use Rattle.laws_problems.specs.Exists.{ProblemExists}
use Rattle.laws_refutations.specs.Exists.{StepsAreJudged}
use Rattle.laws_verdicts.specs.Exists.{HasWrong, IsForOthers, VerdictExists}
use Rattle.laws_existence.proofs.Forks.{IsKnown}

-- what they rest on: each region has a problem, steps are judged, and so are locks
pub record CheckLaws : Type 0 where
  pub problems : ProblemExists
  pub steps : StepsAreJudged
  pub verdicts : VerdictExists
  pub no_extra : NoExtra

-- ---- `check`

judged : (r : ResolutionFields) (x : Proof) (p : Problem) → IsProblemIn r x.region p
    → AcceptsNames p x.steps ⊎ ((k : ℕ) × IsFirstBad p x.steps k)
    → (a : Result Answer Refused) × IsCheckAnswer r x a
judged r x p of_region (inl accepts) =
    (Ok accepted, inl (record { problem = p; of_region = of_region; accepts = accepts; is = refl }))
judged r x p of_region (inr bad) =
    (Ok (rejected bad.0), inr (record { problem = p; of_region = of_region; step = bad.0; first = bad.1; is = refl }))

-- `check` answers
pub check_answered : CheckLaws → (r : ResolutionFields) (x : Proof) → IsKnown r → IsRegion x.region
    → (a : Result Answer Refused) × IsCheckAnswer r x a
check_answered laws r x known region =
    let tree = laws.no_extra.back x.region region.reduced region.no_extra in
    let found =
    laws.problems r.catalog (starts_of (question_of r)) r.wish (region_of x.region) known.asked (x.region, tree) in
    judged r x found.0 found.1 (laws.steps found.0 x.steps found.1.well_formed)

-- ---- `verify`

verdict : (r : ResolutionFields) (l : Lock)
    → IsVerified r.catalog r.project l
    ⊎ ((IsRoot r.project l → ⊥) ⊎ (IsForOthers r.project l ⊎ HasWrong r.catalog r.project l))
    → (a : Result Answer Refused) × IsVerifyAnswer r l a
verdict r l (inl verified) = (Ok answers.verified, inl (record { verified = verified; is = refl }))
verdict r l (inr (inl other)) = (Ok rejected_root, inr (inl (record { other = other; is = refl })))
verdict r l (inr (inr (inl others))) =
    (Ok rejected_supported, inr (inr (inl (record { root = others.0; others = others.1; is = refl }))))
verdict r l (inr (inr (inr wrong))) = (
  Ok (rejected_package wrong.0 wrong.1),
  inr (inr (inr (record { name = wrong.0; version = wrong.1; wrong = wrong.2; is = refl }))),
)

-- `verify` answers
pub verify_answered : CheckLaws → (r : ResolutionFields) (l : Lock) → IsKnown r → IsWellFormed l
    → (a : Result Answer Refused) × IsVerifyAnswer r l a
verify_answered laws r l known well =
    verdict r l (laws.verdicts r.catalog r.project l known.asked.requirements known.resolution.project well)
