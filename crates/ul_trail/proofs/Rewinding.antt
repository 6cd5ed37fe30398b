-- A trail that goes back, and one that holds more.
use Rattle.std.proofs.Common.{◌≡◌, ℕ, zero, suc, ◌+◌, List, [], ◌∷◌, ◌++◌, Bool, true, false, cond, Option, Some, refl, ap, ◌∙◌, sym, subst, ◌<◌, ◌≤◌, arith, slice_get, length, take, nat_le, append_assoc, length-append}
use Rattle.std.proofs.lemmas.List.{append-nil}
use Rattle.std.proofs.lemmas.Option.{none-some, same_Some, slice_get_within}
use Rattle.ul_problem.specs.Terms.{node_of}
use Rattle.ul_problem.specs.Plain.{Plain}
use Rattle.ul_problem.specs.Problems.{IsWellFormed}
use Rattle.ul_problem.specs.Best.{Picks, joined_needs}
use Rattle.ul_problem.specs.Steps.{says, AreRightAfter, IsStepWithin, AreTermsOf, said_by}
use Rattle.ul_problem.specs.declared.term.Term.{Term}
use Rattle.ul_problem.specs.declared.step.Step.{Step}
use Rattle.ul_problem.proofs.ForCallers.{says_fits, all_within, fits_at, said_append, said_place, place_one}
use Rattle.ul_trail.specs.Track.{Track}
use Rattle.ul_trail.specs.declared.fact.Fact.{Fact}
use Rattle.ul_trail.specs.declared.mark.Mark.{Mark}
use Rattle.ul_trail.specs.Facts.{is_open, picks_of, level_of, up_to, AreAt}
use Rattle.ul_trail.specs.Counts.{sizes_of}
use Rattle.ul_trail.specs.Propagation.{IsTrailOf, Follow, AreForbidden, AreRaised, AreLater, root_facts}
use Rattle.ul_trail.specs.Standing.{IsSettled, AreSized, AllSized}
use Rattle.ul_trail.specs.Kept.{IsIndexed, HasPassed, IsMark, AreMarks, turns_of}
use Rattle.ul_trail.proofs.Places.{take_next}
use Rattle.ul_trail.proofs.Levels.{append_within, up_to-append, up_to-now, up_to-all, up_to-up_to}
use Rattle.ul_trail.proofs.Keeping.{follow_back, right_join}
use Rattle.ul_trail.proofs.Propagating.{sizes_length, sizes_at}

-- fronts
pub take_length : {A : Type 0} (xs : List A) (n : ℕ) → n ≤ length xs → length (take n xs) ≡ n
take_length xs zero h = refl
take_length [] (suc n) h = absurd (omega arith)
take_length (x ∷ xs) (suc n) h = ap suc (take_length xs n (omega arith))

pub take_less : {A : Type 0} (xs : List A) (i j : ℕ) → i ≤ j → take i (take j xs) ≡ take i xs
take_less xs zero j h = refl
take_less xs (suc i) zero h = absurd (omega arith)
take_less [] (suc i) (suc j) h = refl
take_less (x ∷ xs) (suc i) (suc j) h = ap (λ (l : List _). x ∷ l) (take_less xs i j (omega arith))

pub take_get : {A : Type 0} (xs : List A) (n i : ℕ) (x : A) → slice_get (take n xs) i ≡ Some x → (i < n) × (slice_get xs i ≡ Some x)
take_get xs zero i x e = absurd (none-some x e)
take_get [] (suc n) i x e = absurd (none-some x e)
take_get (y ∷ ys) (suc n) zero x e = (omega arith, e)
take_get (y ∷ ys) (suc n) (suc i) x e = let r = take_get ys n i x e in let a = r.0 in (omega arith, r.1)

take_rest : {A : Type 0} (xs : List A) (n : ℕ) → (rest : List A) × (xs ≡ take n xs ++ rest)
take_rest {A} xs zero = (xs, refl)
take_rest {A} [] (suc n) = ([], refl)
take_rest {A} (x ∷ xs) (suc n) = let r = take_rest xs n in (r.0, ap (λ (l : List A). x ∷ l) r.1)

pub front_open : (fs : List Fact) (k n : ℕ) (o : Option ℕ) → is_open fs k o ≡ true → is_open (take n fs) k o ≡ true
front_open fs k n o h = let r = take_rest fs n in append_within (take n fs) r.0 k o (subst (λ (l : List Fact). is_open l k o ≡ true) r.1 h)

pub turns_take : (marks : List Mark) (l : ℕ) → turns_of (take l marks) ≡ take l (turns_of marks)
turns_take marks zero = refl
turns_take [] (suc l) = refl
turns_take (m ∷ ms) (suc l) = ap (λ (z : List ℕ). m.queue ∷ z) (turns_take ms l)

pub turns_at : (marks : List Mark) (l : ℕ) (m : Mark) → slice_get marks l ≡ Some m → slice_get (turns_of marks) l ≡ Some m.queue
turns_at [] l m e = absurd (none-some m e)
turns_at (x ∷ xs) zero m e = ap (λ (y : Mark). Some y.queue) (same_Some x m e)
turns_at (x ∷ xs) (suc l) m e = turns_at xs l m e

-- what is kept going back
pub indexed_take : (d : Picks) (positions : List ℕ) (n : ℕ) → IsIndexed d positions → IsIndexed (take n d) positions
indexed_take d positions n x = record { inside = λ i e g. x.inside i e (take_get d n i e g).1; at = λ i e g. x.at i e (take_get d n i e g).1 }

mark_less : (terms : List (List Term)) (facts : List Fact) (picks : Picks) (queue : List ℕ) (k l : ℕ) (x m : Mark) → k ≤ l → (x.facts ≤ m.facts) × (x.picks ≤ m.picks) × (x.queue ≤ m.queue) → IsMark terms facts picks queue l m → IsMark terms facts picks queue k x
    → IsMark terms (take m.facts facts) (take m.picks picks) (take m.queue queue) k x
mark_less terms facts picks queue k l x m kl le big h =
    let a = take_length facts m.facts big.facts_within in
    let b = take_length picks m.picks big.picks_within in
    let c = take_length queue m.queue big.queue_within in
    let lf = le.0 in let lp = le.1 in let lq = le.2 in
    let tf : take x.facts (take m.facts facts) ≡ take x.facts facts = take_less facts x.facts m.facts lf in
    let tp : take x.picks (take m.picks picks) ≡ take x.picks picks = take_less picks x.picks m.picks lp in
    let tq : take x.queue (take m.queue queue) ≡ take x.queue queue = take_less queue x.queue m.queue lq in
    record {
      facts_within = omega arith;
      picks_within = omega arith;
      queue_within = omega arith;
      front = tf ∙ (h.front ∙ (sym (up_to-up_to k l facts kl) ∙ ap (up_to k) (sym big.front)));
      level = ap level_of tf ∙ h.level;
      picked = tp ∙ (h.picked ∙ ap picks_of (sym tf));
      checked = h.checked;
      settled = subst (λ (z : List Fact). IsSettled z terms x.facts x.checked) (sym tf) h.settled;
      passed = subst (λ (q : List ℕ). HasPassed q (take x.picks (take m.picks picks)) x.first) (sym tq) (subst (λ (d : Picks). HasPassed (take x.queue queue) d x.first) (sym tp) h.passed);
    }

pub marks_take : (terms : List (List Term)) (facts : List Fact) (picks : Picks) (queue : List ℕ) (marks : List Mark) (l : ℕ) (m : Mark) → slice_get marks l ≡ Some m → AreMarks terms facts picks queue marks
    → AreMarks terms (take m.facts facts) (take m.picks picks) (take m.queue queue) (take l marks)
marks_take terms facts picks queue marks l m e h = record {
  at = λ k x g. (let r = take_get marks l k x g in let a = r.0 in mark_less terms facts picks queue k l x m (omega arith) (h.rise k l x m r.0 r.1 e) (h.at l m e) (h.at k x r.1));
  rise = λ i k x y lt g f. h.rise i k x y lt (take_get marks l i x g).1 (take_get marks l k y f).1;
}

pub turns_rise_of : (terms : List (List Term)) (facts : List Fact) (picks : Picks) (queue : List ℕ) (marks : List Mark) (l : ℕ) (m : Mark) → slice_get marks l ≡ Some m → AreMarks terms facts picks queue marks → (k r : ℕ) → k < l → slice_get (turns_of marks) k ≡ Some r → r ≤ m.queue
turns_rise_of terms facts picks queue marks l m e h k r lt g = let x = mark_of marks k r g in let z = h.rise k l x.0 m lt x.1 e in let a = z.2 in let b = x.2 in omega arith
  where
    mark_of : (ms : List Mark) (j n : ℕ) → slice_get (turns_of ms) j ≡ Some n → (y : Mark) × (slice_get ms j ≡ Some y) × (y.queue ≡ n)
    mark_of [] j n f = absurd (none-some n f)
    mark_of (y ∷ ys) zero n f = (y, refl, same_Some y.queue n f)
    mark_of (y ∷ ys) (suc j) n f = mark_of ys j n f

-- the trail
raised_take : (facts : List Fact) (n : ℕ) → AreRaised facts → AreRaised (take n facts)
raised_take facts n r = record { at = λ i f e c l. (let g = take_get facts n i f e in let a = g.0 in subst (λ (z : List Fact). level_of z < f.level) (sym (take_less facts i n (omega arith))) (r.at i f g.1 c l)) }

roots_at : (p : Plain) (ns : List ℕ) → AreAt 0 (root_facts p ns)
roots_at p [] = tt
roots_at p (n ∷ ns) = (refl, roots_at p ns)

later_up : (l : ℕ) (fs : List Fact) → AreLater fs → AreLater (up_to l fs)
later_up l [] h = tt
later_up l (f ∷ fs) h = which (nat_le f.level l) (later_up l fs h.1)
  where
    which : (b : Bool) → AreLater (up_to l fs) → AreLater (cond b (f ∷ up_to l fs) (up_to l fs))
    which true r = (h.0, r)
    which false r = r

pub trail_back_to : (p : Plain) (t : Track) (l : ℕ) (m : ℕ) (q : ℕ) → ((k r : ℕ) → k < l → slice_get t.turns k ≡ Some r → r ≤ q) → IsTrailOf p t → take m t.facts ≡ up_to l t.facts → level_of (take m t.facts) ≡ l → slice_get t.turns l ≡ Some q
    → IsTrailOf p (record { steps = t.steps; terms = t.terms; facts = take m t.facts; sizes = t.sizes; width = t.width; queue = take q t.queue; turns = take l t.turns; whole = true })
trail_back_to p t l m q turns_rise w e lv g =
    let z = w.turns l q g in
    let lt = slice_get_within t.turns l q g in
    let tl = take_length t.turns l (omega arith) in
    let f = follow_back p t.steps [] t.facts l w.follow tt (λ k s x. absurd (none-some s x)) in
    record {
      whole = refl;
      follow = subst (Follow p t.steps) (sym e) (subst (λ (x : List Step). Follow p x (up_to l t.facts)) (append-nil t.steps) f);
      said = w.said;
      sizes = w.sizes;
      width = w.width;
      queue = z.1 ∙ ap (λ (x : List Fact). p.roots ++ joined_needs p (picks_of x)) (sym e);
      turns = λ k r y. (let s = take_get t.turns l k r y in let a = s.0 in
          let u = w.turns k r s.1 in
          let n : r ≤ q = turns_rise k r s.0 s.1 in
          let len = take_length t.queue q z.0 in
          (omega arith, take_less t.queue r q n ∙ (u.1 ∙ ap (λ (x : List Fact). p.roots ++ joined_needs p (picks_of x)) (sym (up_to-up_to k l t.facts (omega arith)) ∙ ap (up_to k) (sym e)))));
      levels = tl ∙ sym lv;
      raised = raised_take t.facts m w.raised;
      alive = record { at = λ n. ((w.alive.at n).0, front_open t.facts n m (w.alive.at n).0 (w.alive.at n).1) };
      begun = record {
        rest = up_to l w.begun.rest;
        is = e ∙ (ap (up_to l) w.begun.is ∙ (up_to-append l (root_facts p p.roots) w.begun.rest ∙ ap (λ (x : List Fact). x ++ up_to l w.begun.rest) (up_to-now l 0 (root_facts p p.roots) (roots_at p p.roots) (omega arith))));
        later = later_up l w.begun.rest w.begun.later;
      };
    }

-- more steps
get_front : {A : Type 0} (xs ys : List A) (k : ℕ) (x : A) → k < length xs → slice_get (xs ++ ys) k ≡ Some x → slice_get xs k ≡ Some x
get_front [] ys k x h e = absurd (omega arith)
get_front (z ∷ xs) ys zero x h e = e
get_front (z ∷ xs) ys (suc k) x h e = get_front xs ys k x (omega arith) e

pub settled_terms : (facts : List Fact) (terms more : List (List Term)) (seen checked : ℕ) → checked ≤ length terms → IsSettled facts terms seen checked → IsSettled facts (terms ++ more) seen checked
settled_terms facts terms more seen checked l h = record { at = λ k ts c e. h.at k ts c (get_front terms more k ts (omega arith) e) }

pub marks_terms : (terms more : List (List Term)) (facts : List Fact) (picks : Picks) (queue : List ℕ) (marks : List Mark) → AreMarks terms facts picks queue marks → AreMarks (terms ++ more) facts picks queue marks
marks_terms terms more facts picks queue marks h = record {
  at = λ l m e. (let x = h.at l m e in let a = length-append terms more in let b = x.checked in record {
    facts_within = x.facts_within;
    picks_within = x.picks_within;
    queue_within = x.queue_within;
    front = x.front;
    level = x.level;
    picked = x.picked;
    checked = omega arith;
    settled = settled_terms (take m.facts facts) terms more m.facts m.checked x.checked x.settled;
    passed = x.passed;
  });
  rise = h.rise;
}

pub learned_within : (p : Plain) (steps learned : List Step) → AreRightAfter p [] steps → AreRightAfter p steps learned → (k : ℕ) (s : Step) → slice_get learned k ≡ Some s → IsStepWithin p s
learned_within p steps learned r h k s e = all_within p (steps ++ learned) (right_join p [] steps learned r h) (length steps + k) s (shifted steps k e)
  where
    shifted : (xs : List Step) (j : ℕ) → slice_get learned j ≡ Some s → slice_get (xs ++ learned) (length xs + j) ≡ Some s
    shifted [] j g = let e : j ≡ 0 + j = omega arith in subst (λ (n : ℕ). slice_get learned n ≡ Some s) e g
    shifted (x ∷ xs) j g = let e : suc (length xs + j) ≡ suc (length xs) + j = omega arith in subst (λ (n : ℕ). slice_get (x ∷ (xs ++ learned)) n ≡ Some s) e (shifted xs j g)

pub said_sized : (p : Plain) (steps : List Step) → IsWellFormed p → ((k : ℕ) (s : Step) → slice_get steps k ≡ Some s → IsStepWithin p s) → AllSized (sizes_of p) (said_by p steps)
said_sized p steps wf w = record {
  at = λ k ts e. (let s = said_place p steps k ts e in record {
    at = λ i t g. (let f = fits_at p ts t (subst (AreTermsOf p) s.2 (says_fits p s.0 wf (w k s.0 s.1))) (place_one ts i t g) in
        (subst (λ (n : ℕ). node_of t < n) (sym (sizes_length p.nodes)) f.0, f.1 ∙ sym (sizes_at p (node_of t))));
  });
}

pub all_sized_join : (sizes : List ℕ) (xs ys : List (List Term)) → AllSized sizes xs → AllSized sizes ys → AllSized sizes (xs ++ ys)
all_sized_join sizes xs ys a b = record { at = λ k ts e. which xs a k ts e }
  where
    which : (zs : List (List Term)) → AllSized sizes zs → (j : ℕ) (ts : List Term) → slice_get (zs ++ ys) j ≡ Some ts → AreSized sizes ts
    which [] h j ts e = b.at j ts e
    which (z ∷ zs) h zero ts e = h.at 0 ts e
    which (z ∷ zs) h (suc j) ts e = which zs (record { at = λ i u g. h.at (suc i) u g }) j ts e

pub trail_learned : (p : Plain) (t : Track) (learned : List Step) → IsTrailOf p t → AreRightAfter p t.steps learned → AreForbidden p learned
    → IsTrailOf p (record { steps = t.steps ++ learned; terms = t.terms ++ said_by p learned; facts = t.facts; sizes = t.sizes; width = t.width; queue = t.queue; turns = t.turns; whole = true })
trail_learned p t learned w r f = record {
  whole = refl;
  follow = subst (Follow p (t.steps ++ learned)) (up_to-all (level_of t.facts) t.facts (omega arith)) (follow_back p t.steps learned t.facts (level_of t.facts) w.follow r f);
  said = ap (λ (x : List (List Term)). x ++ said_by p learned) w.said ∙ sym (said_append p t.steps learned);
  sizes = w.sizes;
  width = w.width;
  queue = w.queue;
  turns = w.turns;
  levels = w.levels;
  raised = w.raised;
  alive = w.alive;
  begun = w.begun;
}

-- holding
pub held_nodes : (p : Plain) (ts : List Term) (rows : List (List ℕ)) → length rows ≡ length p.nodes → AreTermsOf p ts → (i : ℕ) (t : Term) → slice_get ts i ≡ Some t → node_of t < length rows
held_nodes p ts rows e h i t g = let f = fits_at p ts t h (place_one ts i t g) in let a = f.0 in omega arith

pub held_next : (p : Plain) (start terms now : List (List Term)) (steps : List Step) (i : ℕ) (s : Step) (ts : List Term) → slice_get steps i ≡ Some s → terms ≡ start ++ said_by p (take i steps) → ts ≡ says p s → now ≡ terms ++ ts ∷ [] → now ≡ start ++ said_by p (take (i + 1) steps)
held_next p start terms now steps i s ts e t q n =
    n ∙ (ap (λ (x : List (List Term)). x ++ ts ∷ []) t ∙ (append_assoc start (said_by p (take i steps)) (ts ∷ []) ∙ ap (λ (x : List (List Term)). start ++ x)
    (ap (λ (x : List Term). said_by p (take i steps) ++ x ∷ []) q ∙ sym (ap (said_by p) (take_next steps s i e) ∙ said_append p (take i steps) (s ∷ [])))))
