-- Problems that differ in their orders of preference alone accept the same steps, by places and by names.
use Rattle.std.proofs.Common.{◌≡◌, ◌∙◌, ◌<◌, ℕ, List, [], ◌∷◌, ◌++◌, Bool, length, map, Option, option_and_then, option_map, Contains, refl, sym, ap, subst, subst₂}
use Rattle.ul_base.specs.declared.node.Node.{Node}
use Rattle.ul_version.specs.Fields.{Fields}
use Rattle.ul_problem.specs.Plain.{Plain, barred_of, base_of, needs_of, node_at, size_of}
use Rattle.ul_problem.specs.Terms.{node_of}
use Rattle.ul_problem.specs.Steps.{Accepts, AreRightAfter, AreRootTerms, AreTermsOf, ClosesWith, HasNeed, HasTermOn, IsResolvent, IsRight, IsRootTerm, base_or, pair_of, says}
use Rattle.ul_problem.specs.declared.problem.Need.{Need}
use Rattle.ul_problem.specs.declared.term.Term.{Term}
use Rattle.ul_problem.specs.declared.term.Term.TheVariants.{In, NotIn}
use Rattle.ul_problem.specs.declared.step.Step.{Step}
use Rattle.ul_problem.specs.declared.step.Step.TheVariants.{Need as NeedStep, Python, Base, Cut}
use Rattle.ul_report.specs.Naming.{versions_in}
use Rattle.ul_report.specs.declared.text_steps.TextTerm.{TextTerm}
use Rattle.ul_report.specs.declared.text_steps.TextTerm.TheVariants.{In as TextIn, NotIn as TextNotIn}
use Rattle.ul_report.specs.declared.text_steps.TextStep.{TextStep}
use Rattle.ul_report.specs.declared.text_steps.TextStep.TheVariants.{Need as TextNeed, Python as TextPython, Base as TextBase, Cut as TextCut}
use Rattle.ul_report_judge.specs.Faults.{AcceptsNames}
use Rattle.ul_report_judge.specs.Names.{base_of as base_step, need_of, onto_terms, place_of_node, placed_of_names, python_of, set_of_names, step_of_names, term_of_names, terms_of_names, with_place}

-- all but the orders of preference is the same
pub record AreAlike (p q : Plain) : Type 0 where
  pub roots : p.roots ≡ q.roots
  pub count : length p.nodes ≡ length q.nodes
  pub sizes : (n : ℕ) → size_of p n ≡ size_of q n
  pub bases : (n : ℕ) → base_of p n ≡ base_of q n
  pub barred : (n : ℕ) → barred_of p n ≡ barred_of q n
  pub needs : (n v : ℕ) → needs_of p n v ≡ needs_of q n v
  pub versions : (n : ℕ) → versions_in (node_at p n) ≡ versions_in (node_at q n)
  pub places : (node : Node) → place_of_node p node ≡ place_of_node q node

module _ (p q : Plain) (a : AreAlike p q) where
  -- ---- by places

  -- the places of nodes are the same
  within_both : (n : ℕ) → n < length p.nodes → n < length q.nodes
  within_both n h = subst (λ k. n < k) a.count h

  -- a step says the same in both
  says_both : (s : Step) → says p s ≡ says q s
  says_both (NeedStep n s m w) = refl
  says_both (Python n s) = refl
  says_both (Base n s) = ap (λ (o : Option ℕ). pair_of (In n s) (NotIn (base_or o n) s)) (a.bases n)
  says_both (Cut i j m ts) = refl

  -- terms of the one are terms of the other
  terms_both : (ts : List Term) → AreTermsOf p ts → AreTermsOf q ts
  terms_both [] h = tt
  terms_both (t ∷ ts) h = ((within_both (node_of t) h.0.0, h.0.1 ∙ a.sizes (node_of t)), terms_both ts h.1)

  -- a step that is right for the one is right for the other
  right_both : (earlier : List Step) (s : Step) → IsRight p earlier s → IsRight q earlier s
  right_both earlier (NeedStep n s m w) h = (
    within_both n h.0,
    within_both m h.1,
    h.2 ∙ a.sizes n,
    h.3 ∙ a.sizes m,
    λ v among. subst (λ (needs : List Need). HasNeed needs m w) (a.needs n v) (h.4 v among),
  )
  right_both earlier (Python n s) h =
      (within_both n h.0, h.1 ∙ a.sizes n, λ v among. rw (← a.barred n) (h.2 v among))
  right_both earlier (Base n s) h = (within_both n h.0, h.1 ∙ a.sizes n, ((h.2).0, sym (a.bases n) ∙ (h.2).1))
  right_both earlier (Cut i j m ts) (of, (left, right, el, er, tl, tr, is)) = (
    terms_both ts of,
    (
      left,
      right,
      el,
      er,
      subst (HasTermOn m) (says_both left) tl,
      subst (HasTermOn m) (says_both right) tr,
      subst₂ (λ (ls rs : List Term). IsResolvent m ls rs ts) (says_both left) (says_both right) is,
    ),
  )

  -- so is each of a list of steps
  rights_both : (earlier steps : List Step) → AreRightAfter p earlier steps → AreRightAfter q earlier steps
  rights_both earlier [] h = tt
  rights_both earlier (s ∷ ss) h = (right_both earlier s h.0, rights_both (earlier ++ s ∷ []) ss h.1)

  -- positive terms on roots of the one are such of the other
  root_both : (t : Term) → IsRootTerm p t → IsRootTerm q t
  root_both (In n s) h =
      (subst (λ rs. Contains rs n) a.roots h.0, (within_both n (h.1).0, (h.1).1 ∙ a.sizes n), h.2)
  root_both (NotIn n s) h = absurd h

  roots_both : (ts : List Term) → AreRootTerms p ts → AreRootTerms q ts
  roots_both [] h = tt
  roots_both (t ∷ ts) h = (root_both t h.0, roots_both ts h.1)

  -- a last step that forbids the roots of the one forbids those of the other
  closes_both : (steps : List Step) → ClosesWith p steps → ClosesWith q steps
  closes_both [] h = absurd h
  closes_both (s ∷ []) h = subst (AreRootTerms q) (says_both s) (roots_both (says p s) h)
  closes_both (s ∷ t ∷ ss) h = closes_both (t ∷ ss) h

  -- steps that the one accepts the other accepts
  accepts_both : (steps : List Step) → Accepts p steps → Accepts q steps
  accepts_both steps h = (rights_both [] steps h.0, closes_both steps h.1)

  -- ---- by names

  -- a node and versions that are named have one place and one set in both
  placed_both : (node : Node) (vs : List Fields) → placed_of_names p node vs ≡ placed_of_names q node vs
  placed_both node vs = λ i.
      option_and_then (λ (n : ℕ). option_map (with_place n) (set_of_names (a.versions n i) vs)) (a.places node i)

  -- a term by names is one term of both
  term_both : (t : TextTerm) → term_of_names p t ≡ term_of_names q t
  term_both (TextIn node vs) = ap (option_map (λ (x : ℕ × List Bool). In x.0 x.1)) (placed_both node vs)
  term_both (TextNotIn node vs) = ap (option_map (λ (x : ℕ × List Bool). NotIn x.0 x.1)) (placed_both node vs)

  -- so are terms in their order
  named_terms_both : (ts : List TextTerm) → terms_of_names p ts ≡ terms_of_names q ts
  named_terms_both [] = refl
  named_terms_both (t ∷ ts) = λ i. option_and_then (onto_terms (named_terms_both ts i)) (term_both t i)

  -- a step by names is one step of both
  step_both : (t : TextStep) → step_of_names p t ≡ step_of_names q t
  step_both (TextNeed node vs target ws) = λ i.
      option_and_then (λ (x : ℕ × List Bool). option_map (need_of x) (placed_both target ws i)) (placed_both node vs i)
  step_both (TextPython node vs) = ap (option_map python_of) (placed_both node vs)
  step_both (TextBase node vs) = ap (option_map base_step) (placed_both node vs)
  step_both (TextCut left right node ts) = λ i.
      option_and_then (λ (n : ℕ). option_map (Cut left right n) (named_terms_both ts i)) (a.places node i)

  -- so are steps in their order
  steps_both : (ts : List TextStep) → map (step_of_names p) ts ≡ map (step_of_names q) ts
  steps_both [] = refl
  steps_both (t ∷ ts) = λ i. step_both t i ∷ steps_both ts i

  -- steps by names that the one accepts the other accepts
  pub names_both : (ts : List TextStep) → AcceptsNames p ts → AcceptsNames q ts
  names_both ts (steps, named, accepted) = (steps, sym (steps_both ts) ∙ named, accepts_both steps accepted)
