-- Each list of steps by names is accepted or has a first bad step: the steps are tried one after another.
use Rattle.std.proofs.Common.{◌≡◌, ℕ, ◌+◌, ◌⊎◌, inl, inr, List, [], ◌∷◌, ◌++◌, Option, Some, None, length, refl, sym, ◌∙◌, subst, append_assoc}
use Rattle.std.proofs.lemmas.List.{append-nil}
use Rattle.ul_problem.specs.Plain.{Plain}
use Rattle.ul_problem.specs.Steps.{AreRightAfter, ClosesWith, IsRight}
use Rattle.ul_problem.specs.declared.step.Step.{Step}
use Rattle.ul_report.specs.declared.text_steps.TextStep.{TextStep}
use Rattle.ul_report_judge.specs.Faults.{AcceptsNames, IsBad, IsBadNext, IsFirstBad}
use Rattle.ul_report_judge.specs.Names.{HaveSteps, step_of_names}
use Rattle.ul_report_judge.proofs.Judged.{one_more}
use Rattle.laws_trees.specs.Decided.{Decided}
use Rattle.laws_refutations.proofs.Deciding.{closes_decided, right_decided}
use Rattle.laws_refutations.proofs.Growing.{right_more}
use Rattle.laws_refutations.specs.Exists.{StepsAreJudged}

-- what is said of all the steps
abbrev AreJudged : Plain → List TextStep → Type 0
AreJudged p texts = AcceptsNames p texts ⊎ ((k : ℕ) × IsFirstBad p texts k)

-- behind right steps, what follows is bad
bad_behind : (p : Plain) (texts front rest : List TextStep) (earlier : List Step) → texts ≡ front ++ rest
    → HaveSteps p front earlier → AreRightAfter p [] earlier → IsBadNext p earlier rest → AreJudged p texts
bad_behind p texts front rest earlier whole named right bad = inr (
  length front + 1,
  record {
    front = front;
    rest = rest;
    whole = whole;
    count = refl;
    earlier = earlier;
    named = named;
    right = right;
    bad = bad;
  },
)

at_end : (p : Plain) (texts front : List TextStep) (earlier : List Step) → texts ≡ front ++ []
    → HaveSteps p front earlier → AreRightAfter p [] earlier → Decided (ClosesWith p earlier) → AreJudged p texts
at_end p texts front earlier whole named right (inl c) =
    let all = subst (λ (l : List TextStep). HaveSteps p l earlier) (sym (whole ∙ append-nil front)) named in
    inl (earlier, all, (right, c))
at_end p texts front earlier whole named right (inr z) = bad_behind p texts front [] earlier whole named right z

at_next : (p : Plain) (texts front ts : List TextStep) (t : TextStep) (earlier : List Step) (o : Option Step)
    → texts ≡ front ++ t ∷ ts → HaveSteps p front earlier → AreRightAfter p [] earlier → step_of_names p t ≡ o
    → ((s : Step) → step_of_names p t ≡ Some s → IsRight p earlier s → AreJudged p texts) → AreJudged p texts
at_next p texts front ts t earlier None whole named right e go =
    bad_behind p texts front (t ∷ ts) earlier whole named right (subst (IsBad p earlier) (sym e) tt)
at_next p texts front ts t earlier (Some s) whole named right e go = elim (right_decided p earlier s right) [
  | inl r ↦ go s e r
  | inr z ↦ bad_behind p texts front (t ∷ ts) earlier whole named right (subst (IsBad p earlier) (sym e) z)
]

judged_from : (p : Plain) (texts front rest : List TextStep) (earlier : List Step) → texts ≡ front ++ rest
    → HaveSteps p front earlier → AreRightAfter p [] earlier → AreJudged p texts
judged_from p texts front [] earlier whole named right =
    at_end p texts front earlier whole named right (closes_decided p earlier)
judged_from p texts front (t ∷ ts) earlier whole named right =
    at_next p texts front ts t earlier (step_of_names p t) whole named right refl
    (λ s e r. judged_from p texts (front ++ t ∷ []) ts (earlier ++ s ∷ [])
    (whole ∙ sym (append_assoc front (t ∷ []) ts)) (one_more p front earlier t s named e)
    (right_more p earlier s right r))

-- each list of steps by names is judged
pub steps_are_judged : StepsAreJudged
steps_are_judged p texts wf = judged_from p texts [] texts [] refl refl tt
