-- The steps that are named in front, one by one.
use Rattle.std.proofs.Common.{◌≡◌, ℕ, ◌+◌, ◌<◌, ◌≤◌, List, [], ◌∷◌, ◌++◌, take, drop, length, get_or, Some, None, arith, sym, ap, subst, ◌∙◌}
use Rattle.std.proofs.lemmas.List.{drop_more, length-drop, length-take, take_more}
use Rattle.ul_problem.specs.Plain.{Plain}
use Rattle.ul_problem.specs.declared.step.Step.{Step}
use Rattle.ul_report.specs.declared.text_steps.TextStep.{TextStep}
use Rattle.ul_report_judge.specs.Front.{IsFrontOf, IsUnknownNext}
use Rattle.ul_report_judge.specs.Names.{HaveSteps, step_of_names}
use Rattle.ul_report_judge.proofs.Judged.{as_many, one_more}

-- with one step more
pub front_next : (p : Plain) (texts : List TextStep) (steps : List Step) (i : ℕ) (t : TextStep) (s : Step) → i < length texts → t ≡ get_or texts i t → step_of_names p t ≡ Some s
    → HaveSteps p (take i texts) steps → HaveSteps p (take (i + 1) texts) (steps ++ s ∷ [])
front_next p texts steps i t s l e q h =
    let cut : take (i + 1) texts ≡ take i texts ++ t ∷ [] = take_more texts i t l ∙ ap (λ (x : TextStep). take i texts ++ x ∷ []) (sym e) in
    subst (λ (z : List TextStep). HaveSteps p z (steps ++ s ∷ [])) (sym cut) (one_more p (take i texts) steps t s h q)

same_count : (p : Plain) (texts : List TextStep) (steps : List Step) (i : ℕ) → i ≤ length texts → HaveSteps p (take i texts) steps → length steps ≡ i
same_count p texts steps i l h = sym (as_many p (take i texts) steps h) ∙ omega (arith, length-take i texts)

is_front : (p : Plain) (texts : List TextStep) (steps : List Step) (i : ℕ) → length steps ≡ i → HaveSteps p (take i texts) steps → IsUnknownNext p (drop i texts) → IsFrontOf p texts steps
is_front p texts steps i e h u = record {
  named = subst (λ (n : ℕ). HaveSteps p (take n texts) steps) (sym e) h;
  ended = subst (λ (n : ℕ). IsUnknownNext p (drop n texts)) (sym e) u;
}

-- where a step names what the problem hasn't
pub front_stopped : (p : Plain) (texts : List TextStep) (steps : List Step) (i : ℕ) (t : TextStep) → i < length texts → t ≡ get_or texts i t → step_of_names p t ≡ None
    → HaveSteps p (take i texts) steps → IsFrontOf p texts steps
front_stopped p texts steps i t l e q h =
    let cut : drop i texts ≡ t ∷ drop (i + 1) texts = drop_more texts i t l ∙ ap (λ (x : TextStep). x ∷ drop (i + 1) texts) (sym e) in
    is_front p texts steps i (same_count p texts steps i (omega arith) h) h (subst (λ (z : List TextStep). IsUnknownNext p z) (sym cut) q)

none_left : (p : Plain) (rest : List TextStep) → length rest ≡ 0 → IsUnknownNext p rest
none_left p [] e = tt
none_left p (t ∷ ts) e = absurd (omega arith)

-- where all are named
pub front_ended : (p : Plain) (texts : List TextStep) (steps : List Step) (i : ℕ) → length texts ≡ i → HaveSteps p (take i texts) steps → IsFrontOf p texts steps
front_ended p texts steps i e h =
    is_front p texts steps i (same_count p texts steps i (omega (arith, e)) h) h (none_left p (drop i texts) (omega (arith, length-drop i texts, e)))
