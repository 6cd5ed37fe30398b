-- A turn of conflict analysis.
use Rattle.std.proofs.Common.{◌≡◌, ℕ, zero, suc, ◌+◌, ◌-◌, List, [], ◌∷◌, ◌++◌, true, Option, Some, None, refl, ap, ◌∙◌, sym, subst, ◌<◌, ◌≤◌, ◌⊎◌, inl, inr, arith, slice_get, get_or, length, take, append_assoc, add-one, length-append}
use Rattle.std.proofs.lemmas.Bool.{true≢false}
use Rattle.std.proofs.lemmas.List.{append-nil}
use Rattle.std.proofs.lemmas.Option.{none-some, same_Some, slice_get_within}
use Rattle.ul_problem.specs.Plain.{Plain}
use Rattle.ul_problem.specs.Serving.{Forbids}
use Rattle.ul_problem.specs.Problems.{IsWellFormed}
use Rattle.ul_problem.specs.Terms.{node_of, allows, term_on, negation}
use Rattle.ul_problem.specs.Steps.{AreTermsOf, IsIncompat, IsResolvent, IsStepWithin, says, step_of, IsRight, AreRightAfter, AreRootTerms, ClosesWith}
use Rattle.ul_problem.specs.declared.term.Term.{Term}
use Rattle.ul_problem.specs.declared.step.Step.{Step}
use Rattle.ul_problem.specs.declared.step.Step.TheVariants.{Need as NeedStep, Python, Base, Cut}
use Rattle.ul_problem.proofs.ForCallers.{term_one, resolvent_whole, says_whole, says_fits, all_within, cut_sound, said_place, said_of, said_length}
use Rattle.ul_trail.specs.Track.{Track}
use Rattle.ul_trail.specs.declared.fact.Fact.{Fact}
use Rattle.ul_trail.specs.Facts.{is_open, AreHeld, AreHeldBut, up_to}
use Rattle.ul_trail.specs.Propagation.{IsDerived, AreDerivedAfter, IsTrailOf, IsConflict}
use Rattle.ul_trail.proofs.ForCallers.{take_next, take_whole, get_more, get_last, last_cases, append_within, right_join, cut_held, but_on, negation_node}
use Rattle.ul_conflict.specs.Satisfiers.{IsHeldApart, IsSatisfier}
use Rattle.ul_conflict.specs.Needed.{ClosesAt}
use Rattle.ul_conflict.specs.Headline.{IsBackjump}
use Rattle.ul_conflict.specs.Resolved.{IsResolved, IsLevelBefore, IsCut, IsSaid, IsNumbered, LeadsBack}
use Rattle.ul_conflict.specs.declared.analysis.Resolvent.{Resolvent}
use Rattle.ul_conflict.proofs.Satisfying.{take_held, fact_at}
use Rattle.ul_conflict.proofs.Unrooted.{unrooted}
use Rattle.ul_conflict.proofs.Deriving.{held_apart, apart_held, apart_but, apart_before, held_on, but_higher, level_at, up_within, up_is_take, up_held, held_up}

-- a fact is derived from those before it
pub derived_at : (p : Plain) (steps : List Step) (earlier facts : List Fact) (i : ℕ) (f : Fact) → AreDerivedAfter p steps earlier facts → slice_get facts i ≡ Some f → IsDerived p steps (earlier ++ take i facts) f.term f.cause
derived_at p steps earlier [] i f h e = absurd (none-some f e)
derived_at p steps earlier (x ∷ xs) zero f h e = subst (λ (l : List Fact). IsDerived p steps l f.term f.cause) (sym (append-nil earlier)) (subst (λ (y : Fact). IsDerived p steps earlier y.term y.cause) (same_Some x f e) h.0)
derived_at p steps earlier (x ∷ xs) (suc i) f h e = subst (λ (l : List Fact). IsDerived p steps l f.term f.cause) (append_assoc earlier (x ∷ []) (take i xs)) (derived_at p steps (earlier ++ x ∷ []) xs i f h.1 e)

-- the step that gave a fact
pub record IsCauseOf (p : Plain) (t : Track) (i : ℕ) (f : Fact) (c : ℕ) : Type 0 where
  pub step : Step
  pub term : Term
  pub at : slice_get t.steps c ≡ Some step
  pub is : f.term ≡ negation term
  pub but : AreHeldBut (take i t.facts) term (says p step)
  pub within : IsStepWithin p step
  pub said : slice_get t.terms c ≡ Some (says p step)

pub cause_of : (p : Plain) (t : Track) (i : ℕ) (f : Fact) (c : ℕ) → IsTrailOf p t → slice_get t.facts i ≡ Some f → f.cause ≡ Some c → IsCauseOf p t i f c
cause_of p t i f c w e g =
    let d = subst (λ (o : Option ℕ). IsDerived p t.steps (take i t.facts) f.term o) g (derived_at p t.steps [] t.facts i f w.follow.derived e) in
    record {
      step = d.0;
      term = d.1;
      at = d.2;
      is = d.3;
      but = d.4;
      within = all_within p t.steps w.follow.right c d.0 d.2;
      said = subst (λ (x : List (List Term)). slice_get x c ≡ Some (says p d.0)) (sym w.said) (said_of p t.steps c d.0 d.2);
    }

pub cause_fits : (p : Plain) (t : Track) (i : ℕ) (f : Fact) (c : ℕ) → IsWellFormed p → IsCauseOf p t i f c → (ts : List Term) → slice_get t.terms c ≡ Some ts → AreTermsOf p ts
cause_fits p t i f c wf h ts e = subst (AreTermsOf p) (same_Some (says p h.step) ts (sym h.said ∙ e)) (says_fits p h.step wf h.within)

pub cause_terms : (p : Plain) (t : Track) (i : ℕ) (f : Fact) (c : ℕ) → IsCauseOf p t i f c → (c < length t.terms) × (c < length t.steps)
cause_terms p t i f c h = (slice_get_within t.terms c (says p h.step) h.said, slice_get_within t.steps c h.step h.at)

-- what holds the resolvent
pub held_at_satisfier : (p : Plain) (t : Track) (terms : List Term) (number : ℕ) (learned : List Step) (place at : ℕ) → IsResolved p t terms number learned place → IsSatisfier t.facts terms None place at → AreHeld (take at t.facts) terms
held_at_satisfier p t terms number learned place at s h = apart_held (take at t.facts) terms s.whole.0 (h.held (held_apart (take place t.facts) terms s.held))

pub right_last : (p : Plain) (earlier xs : List Step) (s : Step) → AreRightAfter p earlier xs → IsRight p (earlier ++ xs) s → AreRightAfter p earlier (xs ++ s ∷ [])
right_last p earlier [] s h i = (subst (λ (l : List Step). IsRight p l s) (append-nil earlier) i, tt)
right_last p earlier (x ∷ xs) s h i = (h.0, right_last p (earlier ++ x ∷ []) xs s h.1 (subst (λ (l : List Step). IsRight p l s) (sym (append_assoc earlier (x ∷ []) xs)) i))

pub cut_resolved : (p : Plain) (t : Track) (terms ts right : List Term) (number number' : ℕ) (learned learned' : List Step) (place at i c : ℕ) (f : Fact) → IsTrailOf p t → IsResolved p t terms number learned place → IsSatisfier t.facts terms None place at
    → at ≡ suc i → slice_get t.facts i ≡ Some f → (h : IsCauseOf p t i f c) → right ≡ says p h.step → IsResolvent (node_of f.term) terms right ts → AreTermsOf p ts → learned' ≡ learned ++ Cut number (c + 1) (node_of f.term) ts ∷ [] → number' ≡ length t.steps + length learned + 1
    → IsResolved p t ts number' learned' i
cut_resolved p t terms ts right number number' learned learned' place at i c f w s sat ea ef h er res fits el en =
    let part = sat.part i ea in
    let same : part.fact ≡ f = same_Some part.fact f (sym part.is ∙ ef) in
    let m : ℕ = node_of f.term in
    let nu : m ≡ node_of h.term = ap node_of h.is ∙ negation_node h.term in
    let onm : term_on m terms ≡ Some part.term = subst (λ (y : Fact). term_on (node_of y.term) terms ≡ Some part.term) same part.on in
    let res' : IsResolvent m terms (says p h.step) ts = subst (λ (z : List Term). IsResolvent m terms z ts) er res in
    let orr = says_whole p h.step h.within in
    let all : AreHeld (take i t.facts ++ f ∷ []) terms = subst (λ (l : List Fact). AreHeld l terms) (ap (λ (k : ℕ). take k t.facts) (ea ∙ sym (add-one i)) ∙ take_next t.facts f i ef) (held_at_satisfier p t terms number learned place at s sat) in
    let low : i ≤ place = (let a = sat.within in omega arith) in
    let cutstep : Step = Cut number (c + 1) m ts in
    let onright : term_on m (says p h.step) ≡ Some h.term = subst (λ (k : ℕ). term_on k (says p h.step) ≡ Some h.term) (sym nu) (but_on (take i t.facts) h.term (says p h.step) orr.0 h.but) in
    let more = get_more t.steps learned h.step c h.at in
    let placed : step_of (t.steps ++ learned) (c + 1) ≡ Some h.step = subst (λ (k : ℕ). step_of (t.steps ++ learned) k ≡ Some h.step) (sym (add-one c)) more in
    let rightcut : IsRight p (t.steps ++ learned) cutstep = (fits, (s.step, h.step, s.is, placed, (part.term, subst (λ (z : List Term). term_on m z ≡ Some part.term) (sym s.said) onm), (h.term, onright), subst (λ (z : List Term). IsResolvent m z (says p h.step) ts) (sym s.said) res')) in
    let forb : Forbids p ts = cut_sound p m terms (says p h.step) ts s.whole.0 orr.0 s.forbids (w.follow.forbidden c h.step h.at) res' in
    let lens : length (t.steps ++ learned) ≡ length t.steps + length learned = length-append t.steps learned in
    let lens' : length (learned ++ cutstep ∷ []) ≡ length learned + 1 = length-append learned (cutstep ∷ []) in
    let lens'' : length learned' ≡ length (learned ++ cutstep ∷ []) = ap (λ (l : List Step). length l) el in
    let nn : number' ≡ suc (length (t.steps ++ learned)) = omega arith in
    record {
      whole = resolvent_whole m terms (says p h.step) ts s.whole orr res';
      fits = fits;
      step = cutstep;
      is = subst (λ (l : List Step). step_of (t.steps ++ l) number' ≡ Some cutstep) (sym el) (subst (λ (k : ℕ). step_of (t.steps ++ (learned ++ cutstep ∷ [])) k ≡ Some cutstep) (sym nn)
          (subst (λ (l : List Step). slice_get l (length (t.steps ++ learned)) ≡ Some cutstep) (append_assoc t.steps learned (cutstep ∷ [])) (get_last (t.steps ++ learned) cutstep)));
      said = refl;
      last = inr (omega arith);
      forbids = forb;
      within = let a = slice_get_within t.facts i f ef in omega arith;
      held = cut_held (take i t.facts) f terms (says p h.step) ts part.term h.term s.whole.0 orr.0 h.is h.but all (subst (λ (k : ℕ). term_on k terms ≡ Some part.term) nu onm) (subst (λ (k : ℕ). IsResolvent k terms (says p h.step) ts) nu res');
      right = subst (AreRightAfter p t.steps) (sym el) (right_last p t.steps learned cutstep s.right rightcut);
      forbidden = λ k x e. elim (last_cases learned cutstep x k (subst (λ (l : List Step). slice_get l k ≡ Some x) el e)) [
        | inl y ↦ s.forbidden k x y.1
        | inr y ↦ subst (λ (z : Step). Forbids p (says p z)) (sym y.1) forb
      ];
      calm = λ k x e. elim (last_cases learned cutstep x k (subst (λ (l : List Step). slice_get l k ≡ Some x) el e)) [
        | inl y ↦ inl (λ a. elim (s.calm k x y.1) [
          | inl b ↦ b (take_held t.facts i place (says p x) low a)
          | inr b ↦ part.free (held_on (take i t.facts) terms (node_of part.fact.term) part.term (subst (AreHeld (take i t.facts)) b a) part.on)
        ])
        | inr y ↦ inr (ap (says p) y.1)
      ];
    }

-- going back
pub record IsJump (p : Plain) (t : Track) (terms : List Term) (number : ℕ) (learned : List Step) (place at before i level : ℕ) (f : Fact) : Type 0 where
  pub state : IsResolved p t terms number learned place
  pub sat : IsSatisfier t.facts terms None place at
  pub last : at ≡ suc i
  pub fact : slice_get t.facts i ≡ Some f
  pub next : IsSatisfier t.facts terms (Some (node_of f.term)) i before
  pub at_level : IsLevelBefore t.facts before level

below_level : (p : Plain) (t : Track) (before level i : ℕ) → IsTrailOf p t → before ≤ length t.facts → IsLevelBefore t.facts before level → before ≤ length (up_to level t.facts)
below_level p t zero level i w l h = omega arith
below_level p t (suc k) level i w l h =
    let g = at_place t.facts k (omega arith) in
    let e = h.some k g.0 refl g.1 in
    let r = up_within level 0 t.facts k g.0 w.follow.levels g.1 (omega arith) in omega arith
  where
    at_place : (fs : List Fact) (j : ℕ) → j < length fs → (f : Fact) × (slice_get fs j ≡ Some f)
    at_place [] j q = absurd (omega arith)
    at_place (x ∷ xs) zero q = (x, refl)
    at_place (x ∷ xs) (suc j) q = at_place xs j (omega arith)

place_of : (earlier : List Step) (n : ℕ) (s : Step) → step_of earlier n ≡ Some s → (k : ℕ) × (n ≡ suc k) × (slice_get earlier k ≡ Some s)
place_of earlier zero s e = absurd (none-some s e)
place_of earlier (suc k) s e = (k, refl, e)

-- an open option was open before
take_rest : {A : Type 0} (xs : List A) (n : ℕ) → (rest : List A) × (xs ≡ take n xs ++ rest)
take_rest {A} xs zero = (xs, refl)
take_rest {A} [] (suc n) = ([], refl)
take_rest {A} (x ∷ xs) (suc n) = let r = take_rest xs n in (r.0, ap (λ (l : List A). x ∷ l) r.1)

front_open : (fs : List Fact) (k n : ℕ) (o : Option ℕ) → is_open fs k o ≡ true → is_open (take n fs) k o ≡ true
front_open fs k n o h = let r = take_rest fs n in append_within (take n fs) r.0 k o (subst (λ (l : List Fact). is_open l k o ≡ true) r.1 h)

pub jumped : (p : Plain) (t : Track) (terms : List Term) (number : ℕ) (learned : List Step) (place at before i level : ℕ) (f : Fact) → IsWellFormed p → IsTrailOf p t → IsJump p t terms number learned place at before i level f → level < f.level → LeadsBack p t level number learned
jumped p t terms number learned place at before i level f wf w j lt =
    let s = j.state in
    let part = j.sat.part i j.last in
    let same : part.fact ≡ f = same_Some part.fact f (sym part.is ∙ j.fact) in
    let m : ℕ = node_of f.term in
    let onm : term_on m terms ≡ Some part.term = subst (λ (y : Fact). term_on (node_of y.term) terms ≡ Some part.term) same part.on in
    let il = slice_get_within t.facts i f j.fact in
    let all : AreHeld (take (suc i) t.facts) terms = subst (λ (k : ℕ). AreHeld (take k t.facts) terms) j.last (held_at_satisfier p t terms number learned place at s j.sat) in
    let apart : IsHeldApart (take before t.facts) terms (Some m) = j.next.held (apart_before t.facts terms i f j.fact (held_apart (take (suc i) t.facts) terms all)) in
    let bl : before ≤ length (up_to level t.facts) = below_level p t before level i w (let a = j.next.within in omega arith) j.at_level in
    let but : AreHeldBut (up_to level t.facts) part.term terms = apart_but (up_to level t.facts) terms m part.term s.whole.0 onm
    (λ k u n e. held_up level t.facts before u w.follow.levels bl (apart.at k u (λ q. n (same_Some m k q)) e)) in
    let free : AreHeld (take i t.facts) terms → ⊥ = (λ a. part.free (held_on (take i t.facts) terms (node_of part.fact.term) part.term a part.on)) in
    let al = w.alive.at (node_of part.term) in
    let in_front : (n : ℕ) → is_open (take n t.facts) (node_of part.term) al.0 ≡ true = (λ n. front_open t.facts (node_of part.term) n al.0 al.1) in
    record {
      lower = let a = level_at t.facts i f j.fact in omega arith;
      right = s.right;
      forbidden = s.forbidden;
      calm = λ k x e a. (let b = up_held level t.facts i f (says p x) w.follow.levels j.fact lt a in
          elim (s.calm k x e) [ inl c ↦ c (take_held t.facts i place (says p x) (let q = j.sat.within in let z = j.last in omega arith) b) | inr c ↦ free (subst (AreHeld (take i t.facts)) c b) ]);
      step = s.step;
      is = s.is;
      last = s.last;
      term = part.term;
      but = subst (AreHeldBut (up_to level t.facts) part.term) (sym s.said) but;
      possible = λ fail. (
          let x : allows part.term al.0 ≡ true = held_on (take (suc i) t.facts) terms m part.term all onm al.0 (in_front (suc i)) in
          let y : is_open (up_to level t.facts) (node_of part.term) al.0 ≡ true = subst (λ (l : List Fact). is_open l (node_of part.term) al.0 ≡ true) (sym (up_is_take level 0 t.facts w.follow.levels)) (in_front (length (up_to level t.facts))) in
          true≢false (sym x ∙ fail al.0 y));
      free = λ a. free (subst (AreHeld (take i t.facts)) s.said (up_held level t.facts i f (says p s.step) w.follow.levels j.fact lt a));
      least = λ l below b. but_higher t.facts terms part.term m i before level l w.follow.levels (term_one m terms part.term onm).1 j.next j.at_level below (subst (AreHeldBut (up_to l t.facts) part.term) s.said b);
      unrooted = λ h. unrooted p t i f terms wf w j.fact (omega arith) free (subst (AreRootTerms p) s.said h);
    }

pub jump_here : (p : Plain) (t : Track) (terms : List Term) (number : ℕ) (learned : List Step) (place at before level n : ℕ) (f : Fact) (items items' deref : List Fact) (read read' : List Term) → IsResolved p t terms number learned place
    → IsSatisfier t.facts read None place at → read ≡ terms → (at ≡ 0 → ⊥) → items ≡ t.facts → f ≡ get_or items (at - 1) f → n ≡ node_of f.term → IsSatisfier t.facts read' (Some n) (at - 1) before → read' ≡ terms
    → deref ≡ items' → items' ≡ t.facts → IsLevelBefore deref before level → IsJump p t terms number learned place at before (at - 1) level f
jump_here p t terms number learned place at before level n f items items' deref read read' s sat e z ei g en sat' e' d1 d2 l =
    let a = sat.within in let b = s.within in
    record {
      state = s;
      sat = subst (λ (x : List Term). IsSatisfier t.facts x None place at) e sat;
      last = omega arith;
      fact = fact_at t.facts items (at - 1) f ei (omega arith) g;
      next = subst (λ (x : List Term). IsSatisfier t.facts x (Some (node_of f.term)) (at - 1) before) e' (subst (λ (k : ℕ). IsSatisfier t.facts read' (Some k) (at - 1) before) en sat');
      at_level = subst (λ (x : List Fact). IsLevelBefore x before level) (d1 ∙ d2) l;
    }

-- the step of a held incompatibility
said_step : (p : Plain) (t : Track) (k : ℕ) (ts : List Term) → IsTrailOf p t → slice_get t.terms k ≡ Some ts → (s : Step) × (slice_get t.steps k ≡ Some s) × (says p s ≡ ts)
said_step p t k ts w e = said_place p t.steps k ts (subst (λ (x : List (List Term)). slice_get x k ≡ Some ts) w.said e)

-- a cut as the code has it
cut_said : (p : Plain) (t : Track) (terms ts right : List Term) (number number' : ℕ) (learned : List Step) (place at i c : ℕ) (f : Fact) → IsWellFormed p → IsTrailOf p t → IsResolved p t terms number learned place → IsSatisfier t.facts terms None place at
    → at ≡ suc i → slice_get t.facts i ≡ Some f → (h : IsCauseOf p t i f c) → IsResolvent (node_of f.term) terms (says p h.step) ts → AreTermsOf p ts → IsSaid t ts number'
    → IsResolved p t ts number' learned i
cut_said p t terms ts right number number' learned place at i c f wf w s sat ea ef h res fits said =
    let part = sat.part i ea in
    let same : part.fact ≡ f = same_Some part.fact f (sym part.is ∙ ef) in
    let m : ℕ = node_of f.term in
    let nu : m ≡ node_of h.term = ap node_of h.is ∙ negation_node h.term in
    let onm : term_on m terms ≡ Some part.term = subst (λ (y : Fact). term_on (node_of y.term) terms ≡ Some part.term) same part.on in
    let orr = says_whole p h.step h.within in
    let all : AreHeld (take i t.facts ++ f ∷ []) terms = subst (λ (l : List Fact). AreHeld l terms) (ap (λ (k : ℕ). take k t.facts) (ea ∙ sym (add-one i)) ∙ take_next t.facts f i ef) (held_at_satisfier p t terms number learned place at s sat) in
    let low : i ≤ place = (let a = sat.within in omega arith) in
    let forb : Forbids p ts = cut_sound p m terms (says p h.step) ts s.whole.0 orr.0 s.forbids (w.follow.forbidden c h.step h.at) res in
    let at_place = said_step p t said.place ts w said.is in
    record {
      whole = resolvent_whole m terms (says p h.step) ts s.whole orr res;
      fits = fits;
      step = at_place.0;
      is = subst (λ (k : ℕ). step_of (t.steps ++ learned) k ≡ Some at_place.0) (sym said.numbered) (get_more t.steps learned at_place.0 said.place at_place.1);
      said = at_place.2;
      last = inl (let a = slice_get_within t.steps said.place at_place.0 at_place.1 in let b = said.numbered in omega arith);
      forbids = forb;
      within = let a = slice_get_within t.facts i f ef in omega arith;
      held = cut_held (take i t.facts) f terms (says p h.step) ts part.term h.term s.whole.0 orr.0 h.is h.but all (subst (λ (k : ℕ). term_on k terms ≡ Some part.term) nu onm) (subst (λ (k : ℕ). IsResolvent k terms (says p h.step) ts) nu res);
      right = s.right;
      forbidden = s.forbidden;
      calm = λ k x e. inl (λ a. elim (s.calm k x e) [
        | inl b ↦ b (take_held t.facts i place (says p x) low a)
        | inr b ↦ part.free (held_on (take i t.facts) terms (node_of part.fact.term) part.term (subst (AreHeld (take i t.facts)) b a) part.on)
      ]);
    }

pub cut_here : (p : Plain) (t : Track) (old now : Resolvent) (place at before level n c : ℕ) (f : Fact) → IsWellFormed p → IsTrailOf p t → IsJump p t old.terms old.number old.learned.items place at before (at - 1) level f → f.cause ≡ Some c → n ≡ node_of f.term
    → IsCut p t n c old now → ((at - 1) < place) × IsResolved p t now.terms now.number now.learned.items (at - 1)
cut_here p t old now place at before level n c f wf w j e en k =
    let cause = cause_of p t (at - 1) f c w j.fact e in
    let res : IsResolvent (node_of f.term) old.terms (says p cause.step) now.terms = subst (λ (x : ℕ). IsResolvent x old.terms (says p cause.step) now.terms) en (k.resolvent (says p cause.step) cause.said) in
    let a = j.sat.within in let b = j.last in (
      omega arith,
      (elim k.step [
        | inl y ↦ subst (λ (l : List Step). IsResolved p t now.terms now.number l (at - 1)) (sym y.0)
            (cut_said p t old.terms now.terms (says p cause.step) old.number now.number old.learned.items place at (at - 1) c f wf w j.state j.sat j.last j.fact cause res k.fits y.1)
        | inr y ↦ cut_resolved p t old.terms now.terms (says p cause.step) old.number now.number old.learned.items now.learned.items place at (at - 1) c f w j.state j.sat j.last j.fact cause refl
            res k.fits (y.learned ∙ ap (λ (x : ℕ). old.learned.items ++ Cut old.number (c + 1) x now.terms ∷ []) en) y.number
      ]),
    )

-- the beginning
pub started : (p : Plain) (t : Track) (conflict number : ℕ) (terms read : List Term) → IsWellFormed p → IsTrailOf p t → IsConflict p t conflict → number ≡ suc conflict → slice_get t.terms conflict ≡ Some read → terms ≡ read
    → IsResolved p t terms number [] (length t.facts)
started p t conflict number terms read wf w (s, e, h) n g q =
    let within = all_within p t.steps w.follow.right conflict s e in
    let said : slice_get t.terms conflict ≡ Some (says p s) = subst (λ (x : List (List Term)). slice_get x conflict ≡ Some (says p s)) (sym w.said) (said_of p t.steps conflict s e) in
    let same : says p s ≡ terms = same_Some (says p s) read (sym said ∙ g) ∙ sym q in
    record {
      whole = subst IsIncompat same (says_whole p s within);
      fits = subst (AreTermsOf p) same (says_fits p s wf within);
      step = s;
      is = subst (λ (k : ℕ). step_of (t.steps ++ []) k ≡ Some s) (sym n) (get_more t.steps [] s conflict e);
      said = same;
      last = inl (let a = slice_get_within t.steps conflict s e in omega arith);
      forbids = subst (Forbids p) same (w.follow.forbidden conflict s e);
      within = omega arith;
      held = subst (AreHeld (take (length t.facts) t.facts)) same (subst (λ (l : List Fact). AreHeld l (says p s)) (sym (take_whole t.facts)) h);
      right = tt;
      forbidden = λ k x y. absurd (none-some x y);
      calm = λ k x y. absurd (none-some x y);
    }

pub conflict_place : (p : Plain) (t : Track) (conflict : ℕ) → IsTrailOf p t → IsConflict p t conflict → (conflict < length t.terms) × (conflict < length t.steps)
conflict_place p t conflict w (s, e, h) =
    let a = slice_get_within t.steps conflict s e in
    let b : length t.terms ≡ length t.steps = ap (λ (x : List (List Term)). length x) w.said ∙ said_length p t.steps in
    (omega arith, a)

-- the end
pub closes_front : (p : Plain) (steps : List Step) (k : ℕ) (s : Step) → slice_get steps k ≡ Some s → AreRootTerms p (says p s) → ClosesWith p (take (suc k) steps)
closes_front p [] k s e h = absurd (none-some s e)
closes_front p (x ∷ xs) zero s e h = subst (λ (y : Step). AreRootTerms p (says p y)) (sym (same_Some x s e)) h
closes_front p (x ∷ []) (suc k) s e h = absurd (none-some s e)
closes_front p (x ∷ y ∷ xs) (suc k) s e h = closes_front p (y ∷ xs) k s e h

-- what the end of a derivation wants
pub record IsEnd (p : Plain) (steps : List Step) (number : ℕ) : Type 0 where
  pub right : AreRightAfter p [] steps
  pub closes : ClosesAt p steps number
  pub there : number ≤ length steps
  pub some : 0 < number

pub ended : (p : Plain) (t : Track) (terms : List Term) (number : ℕ) (learned : List Step) (place : ℕ) → IsTrailOf p t → IsResolved p t terms number learned place → AreRootTerms p terms → IsEnd p (t.steps ++ learned) number
ended p t terms number learned place w s r =
    let k = place_of (t.steps ++ learned) number s.step s.is in
    let e = k.1 in
    let l = slice_get_within (t.steps ++ learned) k.0 s.step k.2 in
    record {
      right = right_join p [] t.steps learned w.follow.right s.right;
      closes = (s.step, s.is, subst (AreRootTerms p) (sym s.said) r);
      there = omega arith;
      some = omega arith;
    }

-- a step stays right after more steps
right_more : (p : Plain) (earlier more : List Step) (s : Step) → IsRight p earlier s → IsRight p (earlier ++ more) s
right_more p earlier more (NeedStep n v m w) h = h
right_more p earlier more (Python n v) h = h
right_more p earlier more (Base n v) h = h
right_more p earlier more (Cut i j m ts) h =
    let c = h.1 in
    (h.0, (c.0, c.1, step_more earlier more i c.0 c.2, step_more earlier more j c.1 c.3, c.4, c.5, c.6))
  where
    step_more : (xs ys : List Step) (n : ℕ) (s : Step) → step_of xs n ≡ Some s → step_of (xs ++ ys) n ≡ Some s
    step_more xs ys zero s e = absurd (none-some s e)
    step_more xs ys (suc k) s e = get_more xs ys s k e

right_at : (p : Plain) (earlier xs : List Step) (k : ℕ) (s : Step) → AreRightAfter p earlier xs → slice_get xs k ≡ Some s → IsRight p (earlier ++ xs) s
right_at p earlier [] k s h e = absurd (none-some s e)
right_at p earlier (x ∷ xs) zero s h e = right_more p earlier (x ∷ xs) s (subst (IsRight p earlier) (same_Some x s e) h.0)
right_at p earlier (x ∷ xs) (suc k) s h e = subst (λ (l : List Step). IsRight p l s) (append_assoc earlier (x ∷ []) xs) (right_at p (earlier ++ x ∷ []) xs k s h.1 e)

-- the last of a list
last_split : (xs : List Step) (k : ℕ) (s : Step) → suc k ≡ length xs → slice_get xs k ≡ Some s → (front : List Step) × (xs ≡ front ++ s ∷ [])
last_split [] k s l e = absurd (none-some s e)
last_split (x ∷ []) zero s l e = ([], ap (λ (y : Step). y ∷ []) (same_Some x s e))
last_split (x ∷ []) (suc k) s l e = absurd (none-some s e)
last_split (x ∷ y ∷ xs) zero s l e = absurd (omega arith)
last_split (x ∷ y ∷ xs) (suc k) s l e = let r = last_split (y ∷ xs) k s (omega arith) e in (x ∷ r.0, ap (λ (l : List Step). x ∷ l) r.1)

tail_get : {A : Type 0} (xs ys : List A) (x : A) (k : ℕ) → slice_get (xs ++ ys) k ≡ Some x → (slice_get xs k ≡ Some x) ⊎ ((j : ℕ) × (k ≡ length xs + j) × (slice_get ys j ≡ Some x))
tail_get [] ys x k h = inr (k, omega arith, h)
tail_get (z ∷ xs) ys x zero h = inl h
tail_get (z ∷ xs) ys x (suc k) h = elim (tail_get xs ys x k h) [ inl i ↦ inl i | inr i ↦ inr (i.0, (let e = i.1 in omega arith), i.2) ]

-- the backjump whose resolvent was learned now
pub jump_new : (p : Plain) (t : Track) (level number : ℕ) (learned : List Step) → LeadsBack p t level number learned → (number ≤ length t.steps → ⊥) → IsBackjump p t level learned
jump_new p t level number learned h late =
    let k = place_of (t.steps ++ learned) number h.step h.is in
    let n : number ≡ length t.steps + length learned = which h.last in
    let e = k.1 in
    let c = past (tail_get t.steps learned h.step k.0 k.2) e in
    let z = c.1 in
    let r = last_split learned c.0 h.step (omega arith) c.2 in
    record {
      lower = h.lower;
      right = h.right;
      forbidden = h.forbidden;
      calm = h.calm;
      derives = record { front = r.0; step = h.step; last = r.1; term = h.term; but = h.but; possible = h.possible; least = h.least; unrooted = h.unrooted };
    }
  where
    which : IsNumbered t number learned → number ≡ length t.steps + length learned
    which (inl y) = absurd (late y)
    which (inr y) = y

    past : {k : ℕ} → (slice_get t.steps k ≡ Some h.step) ⊎ ((j : ℕ) × (k ≡ length t.steps + j) × (slice_get learned j ≡ Some h.step)) → number ≡ suc k → (j : ℕ) × (k ≡ length t.steps + j) × (slice_get learned j ≡ Some h.step)
    past {k} (inl y) e = absurd (let a = slice_get_within t.steps k h.step y in late (omega arith))
    past (inr y) e = y

-- the place of a held step's number
pub held_place : (p : Plain) (t : Track) (level number : ℕ) (learned : List Step) (h : LeadsBack p t level number learned) → number ≤ length t.steps → (k : ℕ) × (number ≡ suc k) × (slice_get t.steps k ≡ Some h.step)
held_place p t level number learned h l =
    let k = place_of (t.steps ++ learned) number h.step h.is in
    elim (tail_get t.steps learned h.step k.0 k.2) [
      | inl y ↦ (k.0, k.1, y)
      | inr y ↦ absurd (let a = y.1 in let b = k.1 in omega arith)
    ]

-- the backjump whose resolvent a held step says: that step is learned once more
pub jump_again : (p : Plain) (t : Track) (level number : ℕ) (learned learned' : List Step) (again : Step) → IsTrailOf p t → LeadsBack p t level number learned → number ≤ length t.steps
    → slice_get t.steps (number - 1) ≡ Some again → learned' ≡ learned ++ again ∷ [] → IsBackjump p t level learned'
jump_again p t level number learned learned' again w h l ea el =
    let k = held_place p t level number learned h l in
    let en = k.1 in
    let at : slice_get t.steps k.0 ≡ Some h.step = k.2 in
    let nk : number - 1 ≡ k.0 = omega arith in
    let same : again ≡ h.step = same_Some again h.step (sym (subst (λ (j : ℕ). slice_get t.steps j ≡ Some again) nk ea) ∙ at) in
    let is : learned' ≡ learned ++ h.step ∷ [] = el ∙ ap (λ (y : Step). learned ++ y ∷ []) same in
    let r : IsRight p (t.steps ++ learned) h.step = right_more p t.steps learned h.step (right_at p [] t.steps k.0 h.step w.follow.right at) in
    let f : Forbids p (says p h.step) = w.follow.forbidden k.0 h.step at in
    record {
      lower = h.lower;
      right = subst (AreRightAfter p t.steps) (sym is) (right_last p t.steps learned h.step h.right r);
      forbidden = λ j x e. elim (last_cases learned h.step x j (subst (λ (y : List Step). slice_get y j ≡ Some x) is e)) [
        | inl y ↦ h.forbidden j x y.1
        | inr y ↦ subst (λ (z : Step). Forbids p (says p z)) (sym y.1) f
      ];
      calm = λ j x e a. elim (last_cases learned h.step x j (subst (λ (y : List Step). slice_get y j ≡ Some x) is e)) [
        | inl y ↦ h.calm j x y.1 a
        | inr y ↦ h.free (subst (λ (z : Step). AreHeld (up_to level t.facts) (says p z)) y.1 a)
      ];
      derives = record { front = learned; step = h.step; last = is; term = h.term; but = h.but; possible = h.possible; least = h.least; unrooted = h.unrooted };
    }
