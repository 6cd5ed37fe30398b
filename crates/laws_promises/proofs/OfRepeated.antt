-- Two runs print the same.
use Rattle.std.proofs.Common.{◌≡◌, ◌≢◌, ◌∙◌, ◌⊎◌, ℕ, List, [], Bool, true, false, cond, Result, Ok, Err, refl, sym, ap, subst, inl, inr}
use Rattle.std.specs.Prelude.{codes}
use Rattle.ul_tree.specs.Paths.{is_printable}
use Rattle.ul_nodes.specs.Plain.{Plain}
use Rattle.ul_forks.specs.Headline.{ForkLaws}
use Rattle.ul_inputs.specs.Refused.{Refused, limit}
use Rattle.ul_answers.specs.Answer as answers
use Rattle.ul_answers.specs.Printed.{printed, refusal_output, refused_output}
use Rattle.ul_commands.specs.Asked.{why}
use Rattle.laws_commands.specs.Answers.{AnswersAreEqual, AnswersAreOne, SameAnswer, without_steps}
use Rattle.laws_commands.specs.Reasons.{reason_text}
use Rattle.ul_program.specs.Words.{question}
use Rattle.laws_promises.specs.Promises.{WorkersChangeNothing}
use Rattle.laws_promises.specs.Repeated.{ReasonsPrintTheSame, RunsPrintTheSame}
use Rattle.laws_promises.proofs.OfAnswers.{asked_answer}
use Rattle.laws_promises.proofs.OfReasons.{printed_reason}

abbrev Found : Type 0
Found = Result answers.Answer Refused

pub runs_print_the_same : AnswersAreEqual → WorkersChangeNothing → RunsPrintTheSame
runs_print_the_same equal workers words others n m s t b c q other is there =
    let first = asked_answer words m s b (question words) refl is in
    let second = asked_answer words m t c (question words) refl ((workers words others n m t c q).1 there) in
    let same = equal (question words) m first.answer second.answer other first.gives second.gives in
    let one = ap printed same in (
      first.prints.0 ∙ (ap (λ (o : ℕ × List ℕ). o.0) one ∙ sym second.prints.0),
      first.prints.1 ∙ (ap (λ (o : ℕ × List ℕ). o.1) one ∙ sym second.prints.1),
    )

-- ---- `why`

-- a fork with the lines of a derivation
record IsDerived (a : Found) : Type 0 where
  path : List Bool
  region : Plain
  steps : List ℕ
  is : a ≡ Ok (answers.derived path region steps)

-- an answer is such a fork, or has no steps
kind : (a : Found) → (without_steps a ≡ a) ⊎ IsDerived a
kind (Err e) = inl refl
kind (Ok answers.usage) = inl refl
kind (Ok (answers.locked l n)) = inl refl
kind (Ok (answers.counted l n)) = inl refl
kind (Ok answers.unwritten) = inl refl
kind (Ok answers.untold) = inl refl
kind (Ok (answers.no_selection p t x)) = inl refl
kind (Ok (answers.derived p t x)) = inr (record { path = p; region = t; steps = x; is = refl })
kind (Ok answers.none_refused) = inl refl
kind (Ok (answers.environment x)) = inl refl
kind (Ok (answers.exported rows)) = inl refl
kind (Ok (answers.canonical x)) = inl refl
kind (Ok answers.outside) = inl refl
kind (Ok (answers.no_extra x)) = inl refl
kind (Ok answers.accepted) = inl refl
kind (Ok (answers.rejected n)) = inl refl
kind (Ok answers.verified) = inl refl
kind (Ok answers.rejected_root) = inl refl
kind (Ok answers.rejected_supported) = inl refl
kind (Ok (answers.rejected_package x v)) = inl refl

same_path : (p q : List Bool) (t u : Plain) (xs ys : List ℕ)
    → (let a : Found = Ok (answers.derived p t xs) in a) ≡ Ok (answers.derived q u ys) → p ≡ q
same_path p q t u xs ys e = cc

same_region : (p q : List Bool) (t u : Plain) (xs ys : List ℕ)
    → (let a : Found = Ok (answers.derived p t xs) in a) ≡ Ok (answers.derived q u ys) → t ≡ u
same_region p q t u xs ys e = cc

-- two outputs have one status, and the same text unless that is 1
abbrev AreAlike : ℕ × List ℕ → ℕ × List ℕ → Type 0
AreAlike o p = (o.0 ≡ p.0) × (o.0 ≢ 1 → o.1 ≡ p.1)

-- two texts of one region
refusals_alike : (region : Plain) (x y : List ℕ) → AreAlike (refusal_output region x) (refusal_output region y)
refusals_alike region x y = by_printable (is_printable region)
  where
    by_printable : (b : Bool) → AreAlike (cond b (1, x) (refused_output (limit (codes "marker-paths") 4096)))
        (cond b (1, y) (refused_output (limit (codes "marker-paths") 4096)))
    by_printable true = (refl, λ no. absurd (no refl))
    by_printable false = (refl, λ no. refl)

both_derived : (a b : Found) (d : IsDerived a) (e : IsDerived b) → SameAnswer a b → AreAlike (printed a) (printed b)
both_derived a b d e same =
    let one : (let x : Found = Ok (answers.derived d.path d.region []) in x) ≡ Ok (answers.derived e.path e.region []) =
    sym (ap without_steps d.is) ∙ (same ∙ ap without_steps e.is) in
    let path = same_path d.path e.path d.region e.region [] [] one in
    let region = same_region d.path e.path d.region e.region [] [] one in
    let here : AreAlike (printed (Ok (answers.derived d.path d.region d.steps))) (printed (Ok (answers.derived e.path e.region e.steps))) =
    subst (λ (t : Plain). AreAlike (printed (Ok (answers.derived d.path d.region d.steps))) (printed (Ok (answers.derived e.path t e.steps))))
    region (refusals_alike d.region (reason_text d.path d.region d.steps) (reason_text e.path d.region e.steps)) in
    subst (λ (x : Found). AreAlike (printed x) (printed b)) (sym d.is)
    (subst (λ (x : Found). AreAlike (printed (Ok (answers.derived d.path d.region d.steps))) (printed x)) (sym e.is) here)

-- answers that are the same but for steps
outputs_alike : (a b : Found) → (without_steps a ≡ a) ⊎ IsDerived a → (without_steps b ≡ b) ⊎ IsDerived b → SameAnswer a b
    → AreAlike (printed a) (printed b)
outputs_alike a b (inl g) (inl h) same =
    let one = ap printed (sym g ∙ (same ∙ h)) in (ap (λ (o : ℕ × List ℕ). o.0) one, λ no. ap (λ (o : ℕ × List ℕ). o.1) one)
outputs_alike a b (inl g) (inr e) same =
    both_derived a b (record { path = e.path; region = e.region; steps = []; is = sym g ∙ (same ∙ ap without_steps e.is) }) e same
outputs_alike a b (inr d) (inl h) same =
    both_derived a b d (record { path = d.path; region = d.region; steps = []; is = sym h ∙ (sym same ∙ ap without_steps d.is) }) same
outputs_alike a b (inr d) (inr e) same = both_derived a b d e same

pub reasons_print_the_same : ForkLaws → AnswersAreOne → ReasonsPrintTheSame
reasons_print_the_same laws ones words others project folder old j k m s t b c q v is there =
    let first = asked_answer words m s b (why project folder j old) q is in
    let second = asked_answer others m t c (why project folder k old) v there in
    let same = ones (why project folder j old) m first.answer second.answer first.gives second.gives in
    let alike = outputs_alike first.answer second.answer (kind first.answer) (kind second.answer) same in
    let status : s ≡ t = first.prints.0 ∙ (alike.0 ∙ sym second.prints.0) in
    record {
      status = status;
      bytes = λ no. first.prints.1 ∙ (alike.1 (λ e. no (first.prints.0 ∙ e)) ∙ sym second.prints.1);
      fork = λ one.
          let x = printed_reason laws project folder old j m first.answer b first.gives (sym one ∙ first.prints.0) first.prints.1 in
          let y = printed_reason laws project folder old k m second.answer c second.gives (sym one ∙ (status ∙ second.prints.0)) second.prints.1 in
          let both : (let z : Found = Ok (answers.derived x.path x.region []) in z) ≡ Ok (answers.derived y.path y.region []) =
          sym (ap without_steps x.is) ∙ (same ∙ ap without_steps y.is) in
          let path = same_path x.path y.path x.region y.region [] [] both in
          let region = same_region x.path y.path x.region y.region [] [] both in
          record {
            path = x.path;
            region = x.region;
            steps = x.steps;
            others = y.steps;
            first = x.text;
            second = y.text ∙ (λ i. reason_text (sym path i) (sym region i) y.steps);
          };
    }
