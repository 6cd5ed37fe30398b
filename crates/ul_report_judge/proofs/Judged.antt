-- What an answer on the steps that are named in front says of all steps by names.
use Rattle.std.proofs.Common.{◌≡◌, ℕ, zero, suc, ◌+◌, ◌-◌, ◌<◌, ◌≤◌, List, [], ◌∷◌, ◌++◌, map, take, drop, length, Option, Some, slice_get, arith, refl, sym, ap, subst, ◌∙◌, inl, inr, append_assoc}
use Rattle.std.proofs.lemmas.Bool.{cases_order}
use Rattle.std.proofs.lemmas.List.{append-nil, length-append, length-map, length-take, take_all, take-append-drop}
use Rattle.std.proofs.lemmas.Option.{none-some, same_Some}
use Rattle.ul_problem.specs.Plain.{Plain}
use Rattle.ul_problem.specs.Steps.{Accepts, AreRightAfter, ClosesWith, IsRight}
use Rattle.ul_problem.specs.declared.step.Step.{Step}
use Rattle.ul_derivation.specs.Faults as lower
use Rattle.ul_report.specs.declared.text_steps.TextStep.{TextStep}
use Rattle.ul_report_judge.specs.Names.{HaveSteps, step_of_names}
use Rattle.std.proofs.Common.{Result, Ok, Err}
use Rattle.ul_derivation.specs.Headline.{IsJudged}
use Rattle.ul_derivation.specs.declared.accept.AcceptFault.{AcceptFault}
use Rattle.ul_derivation.specs.declared.accept.AcceptFault.TheVariants.{StepFault, NoMemory}
use Rattle.ul_report_judge.specs.Faults.{AcceptsNames, IsBad, IsBadNext, IsFault, IsFirstBad}
use Rattle.ul_report_judge.specs.Headline.{IsJudgedByNames}
use Rattle.ul_report_judge.specs.Front.{IsFrontOf, IsUnknownNext, answer_of}
use Rattle.std.proofs.Common.{Bool, true, false, cond, eqb, eq-eqb}
use borrow.Author.Tests.{eqb-true}

head_is : {A : Type 0} (x y : A) (xs ys : List A) → x ∷ xs ≡ y ∷ ys → x ≡ y
head_is x y xs ys e = cc

tail_is : {A : Type 0} (x y : A) (xs ys : List A) → x ∷ xs ≡ y ∷ ys → xs ≡ ys
tail_is x y xs ys e = cc

no_more : {A : Type 0} (x : A) (xs : List A) → [] ≡ x ∷ xs → ⊥
no_more x xs e = cc

no_fewer : {A : Type 0} (x : A) (xs : List A) → x ∷ xs ≡ [] → ⊥
no_fewer x xs e = cc

-- as many names as steps
pub as_many : (p : Plain) (texts : List TextStep) (steps : List Step) → HaveSteps p texts steps → length texts ≡ length steps
as_many p texts steps h = sym (length-map texts (step_of_names p)) ∙ (ap length h ∙ length-map steps (λ s. Some s))

-- one more name, one more step
pub one_more : (p : Plain) (texts : List TextStep) (steps : List Step) (t : TextStep) (s : Step) → HaveSteps p texts steps → step_of_names p t ≡ Some s → HaveSteps p (texts ++ t ∷ []) (steps ++ s ∷ [])
one_more p [] [] t s h e = ap (λ (o : Option Step). o ∷ []) e
one_more p [] (x ∷ xs) t s h e = absurd (no_more _ _ h)
one_more p (u ∷ us) [] t s h e = absurd (no_fewer _ _ h)
one_more p (u ∷ us) (x ∷ xs) t s h e =
    let q : step_of_names p u ≡ Some x = head_is _ _ _ _ h in
    let r = one_more p us xs t s (tail_is _ _ _ _ h) e in
    ap (λ (o : Option Step). o ∷ map (step_of_names p) (us ++ t ∷ [])) q ∙ ap (λ (os : List (Option Step)). Some x ∷ os) r

-- the name of a step, and the names before it
pub record IsNamedAt (p : Plain) (texts : List TextStep) (steps : List Step) (i : ℕ) (s : Step) : Type 0 where
  pub text : TextStep
  pub rest : List TextStep
  pub at : drop i texts ≡ text ∷ rest
  pub is : step_of_names p text ≡ Some s
  pub earlier : HaveSteps p (take i texts) (take i steps)
  pub count : length (take i texts) ≡ i

named_at : (p : Plain) (texts : List TextStep) (steps : List Step) (i : ℕ) (s : Step) → HaveSteps p (take (length steps) texts) steps → slice_get steps i ≡ Some s → IsNamedAt p texts steps i s
named_at p texts [] i s h e = absurd (none-some s e)
named_at p [] (x ∷ xs) i s h e = absurd (no_more _ _ h)
named_at p (t ∷ ts) (x ∷ xs) zero s h e = record { text = t; rest = ts; at = refl; is = head_is _ _ _ _ h ∙ e; earlier = refl; count = refl }
named_at p (t ∷ ts) (x ∷ xs) (suc i) s h e =
    let q : step_of_names p t ≡ Some x = head_is _ _ _ _ h in
    let r = named_at p ts xs i s (tail_is _ _ _ _ h) e in
    record {
      text = r.text;
      rest = r.rest;
      at = r.at;
      is = r.is;
      earlier = ap (λ (o : Option Step). o ∷ map (step_of_names p) (take i ts)) q ∙ ap (λ (os : List (Option Step)). Some x ∷ os) r.earlier;
      count = ap suc r.count;
    }

-- behind what was named, a step that isn't known is bad, and so is the end where the steps don't close
stops : (p : Plain) (earlier : List Step) (rest : List TextStep) → IsUnknownNext p rest → (ClosesWith p earlier → ⊥) → IsBadNext p earlier rest
stops p earlier [] u c = c
stops p earlier (t ∷ ts) u c = subst (λ (o : Option Step). IsBad p earlier o) (sym u) tt

unknown : (p : Plain) (earlier : List Step) (rest : List TextStep) → IsUnknownNext p rest → 0 < length rest → IsBadNext p earlier rest
unknown p earlier [] u l = absurd (omega arith)
unknown p earlier (t ∷ ts) u l = subst (λ (o : Option Step). IsBad p earlier o) (sym u) tt

bad_there : (p : Plain) (earlier : List Step) (rest more : List TextStep) (t : TextStep) (s : Step) → rest ≡ t ∷ more → step_of_names p t ≡ Some s → (IsRight p earlier s → ⊥) → IsBadNext p earlier rest
bad_there p earlier rest more t s e q b = subst (λ (l : List TextStep). IsBadNext p earlier l) (sym e) (subst (λ (o : Option Step). IsBad p earlier o) (sym q) b)

-- how many are named in front
pub front_count : (p : Plain) (texts : List TextStep) (steps : List Step) → IsFrontOf p texts steps → length (take (length steps) texts) ≡ length steps
front_count p texts steps f = as_many p (take (length steps) texts) steps f.named

pub front_within : (p : Plain) (texts : List TextStep) (steps : List Step) → IsFrontOf p texts steps → length steps ≤ length texts
front_within p texts steps f = omega (arith, front_count p texts steps f, length-take (length steps) texts)

-- the first bad step in front is the first bad one
pub front_bad : (p : Plain) (texts : List TextStep) (steps : List Step) (k : ℕ) → IsFrontOf p texts steps → lower.IsFirstBad p steps k → IsFirstBad p texts k
front_bad p texts steps k f b = elim b.bad [
  | inl x ↦ (let n = named_at p texts steps (k - 1) x.0 f.named x.1 in record {
    front = take (k - 1) texts;
    rest = drop (k - 1) texts;
    whole = sym (take-append-drop (k - 1) texts);
    count = omega (arith, n.count, b.is_number);
    earlier = take (k - 1) steps;
    named = n.earlier;
    right = b.before;
    bad = bad_there p (take (k - 1) steps) (drop (k - 1) texts) n.rest n.text x.0 n.at n.is x.2;
  })
  | inr x ↦ record {
    front = take (length steps) texts;
    rest = drop (length steps) texts;
    whole = sym (take-append-drop (length steps) texts);
    count = x.0 ∙ ap (λ (m : ℕ). m + 1) (sym (front_count p texts steps f));
    earlier = steps;
    named = f.named;
    right = subst (AreRightAfter p []) (take_all (k - 1) steps (omega (arith, x.0))) b.before;
    bad = stops p steps (drop (length steps) texts) f.ended x.1;
  }
]

-- where all in front are right and more follow, the next is bad
pub next_bad : (p : Plain) (texts : List TextStep) (steps : List Step) → IsFrontOf p texts steps → AreRightAfter p [] steps → length steps < length texts → IsFirstBad p texts (length steps + 1)
next_bad p texts steps f r l = record {
  front = take (length steps) texts;
  rest = drop (length steps) texts;
  whole = sym (take-append-drop (length steps) texts);
  count = ap (λ (m : ℕ). m + 1) (sym (front_count p texts steps f));
  earlier = steps;
  named = f.named;
  right = r;
  bad = unknown p steps (drop (length steps) texts) f.ended (omega (arith, ap length (take-append-drop (length steps) texts), length-append (take (length steps) texts) (drop (length steps) texts), front_count p texts steps f));
}

-- where all are in front, they are accepted
pub front_accepted : (p : Plain) (texts : List TextStep) (steps : List Step) → IsFrontOf p texts steps → Accepts p steps → length steps ≡ length texts → AcceptsNames p texts
front_accepted p texts steps f a e =
    (steps, subst (λ (l : List TextStep). HaveSteps p l steps) (take_all (length steps) texts (omega (arith, e))) f.named, a)

-- ---- a first bad step is one

not_before : (p : Plain) (earlier : List Step) (fa ra fb rb : List TextStep) (ea eb : List Step) → fa ++ ra ≡ fb ++ rb → length fa < length fb → HaveSteps p fa ea → HaveSteps p fb eb
    → AreRightAfter p earlier eb → IsBadNext p (earlier ++ ea) ra → ⊥
not_before p earlier fa ra [] rb ea eb e l a b r bad = absurd (omega arith)
not_before p earlier fa ra (t ∷ ts) rb ea [] e l a b r bad = absurd (no_fewer _ _ b)
not_before p earlier [] ra (t ∷ ts) rb [] (s ∷ ss) e l a b r bad =
    let q : step_of_names p t ≡ Some s = head_is _ _ _ _ b in
    let c : IsBad p (earlier ++ []) (step_of_names p t) = subst (λ (x : List TextStep). IsBadNext p (earlier ++ []) x) e bad in
    let d : IsRight p (earlier ++ []) s → ⊥ = subst (λ (o : Option Step). IsBad p (earlier ++ []) o) q c in
    d (subst (λ (x : List Step). IsRight p x s) (sym (append-nil earlier)) r.0)
not_before p earlier [] ra (t ∷ ts) rb (x ∷ xs) (s ∷ ss) e l a b r bad = absurd (no_more _ _ a)
not_before p earlier (u ∷ us) ra (t ∷ ts) rb [] (s ∷ ss) e l a b r bad = absurd (no_fewer _ _ a)
not_before p earlier (u ∷ us) ra (t ∷ ts) rb (x ∷ xs) (s ∷ ss) e l a b r bad =
    let same : x ≡ s = same_Some x s (sym (head_is _ _ _ _ a) ∙ (ap (step_of_names p) (head_is _ _ _ _ e) ∙ head_is _ _ _ _ b)) in
    not_before p (earlier ++ s ∷ []) us ra ts rb xs ss (tail_is _ _ _ _ e) (omega arith) (tail_is _ _ _ _ a) (tail_is _ _ _ _ b) r.1
    (subst (λ (y : List Step). IsBadNext p y ra) (ap (λ (y : Step). earlier ++ y ∷ xs) same ∙ sym (append_assoc earlier (s ∷ []) xs)) bad)

earlier_first : (p : Plain) (texts : List TextStep) (j k : ℕ) → IsFirstBad p texts j → IsFirstBad p texts k → j < k → ⊥
earlier_first p texts j k a b l =
    not_before p [] a.front a.rest b.front b.rest a.earlier b.earlier (sym a.whole ∙ b.whole) (omega (arith, a.count, b.count)) a.named b.named b.right a.bad

pub fault_is_one : (p : Plain) (texts : List TextStep) (j k : ℕ) → IsFirstBad p texts j → IsFirstBad p texts k → j ≡ k
fault_is_one p texts j k a b = elim (cases_order j k) [
  | inl e ↦ e
  | inr (inl h) ↦ absurd (earlier_first p texts j k a b h)
  | inr (inr h) ↦ absurd (earlier_first p texts k j b a h)
]

-- one list of names names one list of steps
one_list : (p : Plain) (texts : List TextStep) (xs ys : List Step) → HaveSteps p texts xs → HaveSteps p texts ys → xs ≡ ys
one_list p [] [] [] a b = refl
one_list p [] [] (y ∷ ys) a b = absurd (no_more _ _ b)
one_list p [] (x ∷ xs) ys a b = absurd (no_more _ _ a)
one_list p (t ∷ ts) [] ys a b = absurd (no_fewer _ _ a)
one_list p (t ∷ ts) (x ∷ xs) [] a b = absurd (no_fewer _ _ b)
one_list p (t ∷ ts) (x ∷ xs) (y ∷ ys) a b =
    let e : x ≡ y = same_Some x y (sym (head_is _ _ _ _ a) ∙ head_is _ _ _ _ b) in
    let f = one_list p ts xs ys (tail_is _ _ _ _ a) (tail_is _ _ _ _ b) in
    ap (λ (z : Step). z ∷ xs) e ∙ ap (λ (zs : List Step). y ∷ zs) f

at_end : (p : Plain) (texts front rest : List TextStep) (earlier steps : List Step) → texts ≡ front ++ rest → HaveSteps p front earlier → IsBadNext p earlier rest → HaveSteps p texts steps → Accepts p steps → ⊥
at_end p texts front [] earlier steps w n bad h a =
    let all : texts ≡ front = w ∙ append-nil front in
    bad (subst (ClosesWith p) (sym (one_list p front earlier steps n (subst (λ (l : List TextStep). HaveSteps p l steps) all h))) a.1)
at_end p texts front (t ∷ ts) earlier steps w n bad h a =
    not_before p [] front (t ∷ ts) texts [] earlier steps (sym w ∙ sym (append-nil texts)) (omega (arith, ap length w, length-append front (t ∷ ts))) n h a.0 bad

pub fault_refuses : (p : Plain) (texts : List TextStep) (k : ℕ) → IsFirstBad p texts k → AcceptsNames p texts → ⊥
fault_refuses p texts k b a = at_end p texts b.front b.rest b.earlier a.0 b.whole b.named b.bad a.1 a.2

-- ---- what `judge` answers

-- all are named, and accepted
pub judged_ok : (p : Plain) (texts all : List TextStep) (steps named : List Step) → texts ≡ all → named ≡ steps → IsFrontOf p texts steps → IsJudged p named (Ok tt) → length steps ≡ length texts → IsJudgedByNames p all (Ok tt)
judged_ok p texts all steps named e f front j l = record {
  accepted = subst (AcceptsNames p) e (front_accepted p texts steps front (subst (Accepts p) f j.accepts) l);
  none = j.none;
  fault = tt;
}

-- those in front are accepted, and the next isn't known
pub judged_next : (p : Plain) (texts all : List TextStep) (steps named : List Step) (k : ℕ) → texts ≡ all → named ≡ steps → IsFrontOf p texts steps → IsJudged p named (Ok tt) → (length steps ≡ length texts → ⊥) → k ≡ length steps + 1 → IsJudgedByNames p all (Err (StepFault k))
judged_next p texts all steps named k e f front j l q = record {
  accepted = tt;
  none = tt;
  fault = subst (λ (ts : List TextStep). IsFirstBad p ts k) e
      (subst (λ (n : ℕ). IsFirstBad p texts n) (sym q) (next_bad p texts steps front (subst (Accepts p) f j.accepts).0 (below (front_within p texts steps front) l)));
}
  where
    below : length steps ≤ length texts → (length steps ≡ length texts → ⊥) → length steps < length texts
    below a b = elim (cases_order (length steps) (length texts)) [
      | inl same ↦ absurd (b same)
      | inr (inl less) ↦ less
      | inr (inr more) ↦ absurd (omega arith)
    ]

fault_is : (p : Plain) (texts all : List TextStep) (steps named : List Step) (fault : AcceptFault) → texts ≡ all → named ≡ steps → IsFrontOf p texts steps → lower.IsFault p named fault → IsFault p all fault
fault_is p texts all steps named (StepFault k) e f front b =
    subst (λ (ts : List TextStep). IsFirstBad p ts k) e (front_bad p texts steps k front (subst (λ (ss : List Step). lower.IsFirstBad p ss k) f b))
fault_is p texts all steps named NoMemory e f front b = tt

-- those in front have a fault
pub judged_fault : (p : Plain) (texts all : List TextStep) (steps named : List Step) (fault : AcceptFault) → texts ≡ all → named ≡ steps → IsFrontOf p texts steps → IsJudged p named (Err fault) → IsJudgedByNames p all (Err fault)
judged_fault p texts all steps named fault e f front j = record { accepted = tt; none = tt; fault = fault_is p texts all steps named fault e f front j.fault }

-- all of it
pub judged_all : (p : Plain) (texts all : List TextStep) (steps named : List Step) (count : ℕ) (judged answer : Result (Unit {0}) AcceptFault) → texts ≡ all → named ≡ steps → IsFrontOf p texts steps → IsJudged p named judged
    → count ≡ length steps → answer ≡ answer_of count texts judged → IsJudgedByNames p all answer
judged_all p texts all steps named count (Err fault) answer e f front j c is = subst (IsJudgedByNames p all) (sym is) (judged_fault p texts all steps named fault e f front j)
judged_all p texts all steps named count (Ok x) answer e f front j c is = subst (IsJudgedByNames p all) (sym is) (whole (eqb count (length texts)) refl)
  where
    whole : (b : Bool) → eqb count (length texts) ≡ b → IsJudgedByNames p all (cond b (Ok tt) (Err (StepFault (count + 1))))
    whole true q = judged_ok p texts all steps named e f front j (sym c ∙ eqb-true count (length texts) q)
    whole false q = judged_next p texts all steps named (count + 1) e f front j
        (λ same. let h : eqb count (length texts) ≡ true = eq-eqb count (length texts) (c ∙ same) in let k : true ≡ false = sym h ∙ q in cc) (ap (λ (n : ℕ). n + 1) c)
