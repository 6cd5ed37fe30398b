-- A trail with one more decision.
use Rattle.std.proofs.Common.{◌≡◌, ℕ, zero, suc, List, [], ◌∷◌, ◌++◌, Bool, true, false, cond, Option, Some, None, refl, ap, ◌∙◌, sym, subst, ◌<◌, ◌≤◌, ◌⊎◌, inl, inr, arith, nat_eq, slice_get, get_or, length, take, slice_set, append_assoc, length-append}
use Rattle.std.proofs.lemmas.Bool.{cases_eq, true≢false}
use Rattle.std.proofs.lemmas.List.{append-nil, length-set, get_or-set_other}
use Rattle.std.proofs.lemmas.Grind.{get_or-set_at}
use Rattle.std.proofs.lemmas.Option.{slice_get_within}
use Rattle.ul_problem.specs.Terms.{node_of, set_of, allows}
use Rattle.ul_problem.specs.Plain.{Plain, size_of, needs_of}
use Rattle.ul_problem.specs.Best.{Picks, is_decided, joined_needs, targets}
use Rattle.ul_problem.specs.declared.term.Term.{Term}
use Rattle.ul_problem.specs.declared.term.Term.TheVariants.{In}
use Rattle.ul_trail.specs.Track.{Track}
use Rattle.ul_trail.specs.declared.fact.Fact.{Fact}
use Rattle.ul_trail.specs.declared.mark.Mark.{Mark}
use Rattle.ul_trail.specs.Facts.{is_open, one_of, first_of, picks_of, pick_with, level_of, up_to}
use Rattle.ul_trail.specs.Counts.{sizes_of}
use Rattle.ul_trail.specs.Propagation.{IsTrailOf, AreRaised, IsAlive, root_facts}
use Rattle.ul_trail.specs.Standing.{IsSettled, IsSized}
use Rattle.ul_problem.proofs.ForCallers.{node_of_size}
use Rattle.ul_trail.proofs.Singles.{one_length}
use Rattle.ul_trail.specs.Moves.{decision_at}
use Rattle.ul_trail.specs.Kept.{IsIndexed, HasPassed, IsMark, AreMarks, turns_of}
use Rattle.ul_trail.proofs.Places.{take_front, take_whole, last_cases}
use Rattle.ul_trail.proofs.Levels.{up_to-append, up_to-later, up_to-all, level_of-append}
use Rattle.ul_trail.proofs.Following.{one_first, one_has}
use Rattle.ul_trail.proofs.Cuts.{open_push}
use Rattle.ul_trail.proofs.Keeping.{follow_push}
use Rattle.ul_trail.proofs.Decided.{place_decided}
use Rattle.ul_trail.proofs.Propagating.{picks_append, mark_more, later_join, sizes_length, sizes_at}

-- a node with a version has a place
pub decided_there : (p : Plain) (sizes positions : List ℕ) (n v : ℕ) → sizes ≡ sizes_of p → length positions ≡ length sizes → v < size_of p n → n < length positions
decided_there p sizes positions n v e l h =
    let f = node_of_size p n v h in
    let w = slice_get_within p.nodes n f.0 f.1 in
    let count : length sizes ≡ length p.nodes = ap (λ (x : List ℕ). length x) e ∙ sizes_length p.nodes in
    omega arith

pub indexed_push : (d : Picks) (positions : List ℕ) (n v : ℕ) → IsIndexed d positions → is_decided n d ≡ false → n < length positions → IsIndexed (d ++ (n, v) ∷ []) (slice_set positions n (length d))
indexed_push d positions n v x u l = record {
  inside = λ i e g. subst (λ (k : ℕ). e.0 < k) (sym (length-set positions n (length d))) (elim (last_cases d (n, v) e i g) [ inl h ↦ x.inside i e h.1 | inr h ↦ subst (λ (y : ℕ × ℕ). y.0 < length positions) (sym h.1) l ]);
  at = λ i e g. elim (last_cases d (n, v) e i g) [
    | inl h ↦ (let ne : e.0 ≡ n → ⊥ = (λ q. true≢false (sym (place_decided n d i e h.1 q) ∙ u)) in get_or-set_other positions n e.0 (length d) 0 ne ∙ x.at i e h.1)
    | inr h ↦ get_or-set_at positions n e.0 (length d) 0 (ap (λ (y : ℕ × ℕ). y.0) h.1) l ∙ sym h.0
  ];
}

decided_more : (n : ℕ) (d ys : Picks) → is_decided n d ≡ true → is_decided n (d ++ ys) ≡ true
decided_more n [] ys h = absurd (true≢false (sym h))
decided_more n (x ∷ d) ys h = which (nat_eq x.0 n) (decided_more n d ys) h
  where
    which : (b : Bool) → (is_decided n d ≡ true → is_decided n (d ++ ys) ≡ true) → cond b true (is_decided n d) ≡ true → cond b true (is_decided n (d ++ ys)) ≡ true
    which true r k = refl
    which false r k = r k

pub passed_push : (queue more : List ℕ) (d ys : Picks) (place : ℕ) → HasPassed queue d place → place ≤ length queue → HasPassed (queue ++ more) (d ++ ys) place
passed_push queue more d ys place p l = record { at = λ i n h g. decided_more n d ys (p.at i n h (front queue i n (omega arith) g)) }
  where
    front : (q : List ℕ) (i n : ℕ) → i < length q → slice_get (q ++ more) i ≡ Some n → slice_get q i ≡ Some n
    front [] i n h g = absurd (omega arith)
    front (x ∷ q) zero n h g = g
    front (x ∷ q) (suc i) n h g = front q i n (omega arith) g

-- facts
pub level_push : (facts : List Fact) (f : Fact) → f.level ≡ suc (level_of facts) → level_of (facts ++ f ∷ []) ≡ suc (level_of facts)
level_push facts f e = let a = level_of-append facts (f ∷ []) in a ∙ omega arith

pub up_push : (facts : List Fact) (f : Fact) (l : ℕ) → f.level ≡ suc (level_of facts) → l ≤ level_of facts → up_to l (facts ++ f ∷ []) ≡ up_to l facts
up_push facts f l e h = up_to-append l facts (f ∷ []) ∙ (ap (λ (x : List Fact). up_to l facts ++ x) (up_to-later l f.level (f ∷ []) (refl, tt) (omega arith)) ∙ append-nil (up_to l facts))

pub picks_push : (facts : List Fact) (f : Fact) (n v size : ℕ) → f.cause ≡ None → f.term ≡ In n (one_of size v) → v < size → picks_of (facts ++ f ∷ []) ≡ picks_of facts ++ (n, v) ∷ []
picks_push facts f n v size e t h =
    picks_append facts (f ∷ []) ∙ ap (λ (d : Picks). picks_of facts ++ d)
    (ap (λ (c : Option ℕ). pick_with c f.term []) e ∙ (ap (λ (y : Term). (node_of y, first_of (set_of y)) ∷ []) t ∙ ap (λ (k : ℕ). (n, k) ∷ []) (one_first size v h)))

-- marks
pub mark_grow : (terms : List (List Term)) (facts fs : List Fact) (picks ps : Picks) (queue qs : List ℕ) (l : ℕ) (m : Mark) → up_to l (facts ++ fs) ≡ up_to l facts → IsMark terms facts picks queue l m → IsMark terms (facts ++ fs) (picks ++ ps) (queue ++ qs) l m
mark_grow terms facts fs picks ps queue qs l m u h0 =
    let h = mark_more terms facts (facts ++ fs) picks queue l m fs refl u h0 in
    let a = length-append picks ps in let b = length-append queue qs in let x = h.picks_within in let y = h.queue_within in
    let tp : take m.picks (picks ++ ps) ≡ take m.picks picks = take_front picks ps m.picks x in
    let tq : take m.queue (queue ++ qs) ≡ take m.queue queue = take_front queue qs m.queue y in
    record {
      facts_within = h.facts_within;
      picks_within = omega arith;
      queue_within = omega arith;
      front = h.front;
      level = h.level;
      picked = tp ∙ h.picked;
      checked = h.checked;
      settled = h.settled;
      passed = subst (λ (q : List ℕ). HasPassed q (take m.picks (picks ++ ps)) m.first) (sym tq) (subst (λ (d : Picks). HasPassed (take m.queue queue) d m.first) (sym tp) h.passed);
    }

-- a mark of all that stands
pub record IsMarkOf (terms : List (List Term)) (facts : List Fact) (picks : Picks) (queue : List ℕ) (m : Mark) : Type 0 where
  pub facts_are : m.facts ≡ length facts
  pub picks_are : m.picks ≡ length picks
  pub queue_is : m.queue ≡ length queue
  pub passed : HasPassed queue picks m.first
  pub checked : m.checked ≤ length terms
  pub settled : IsSettled facts terms (length facts) m.checked

new_mark : (terms : List (List Term)) (facts fs : List Fact) (picks ps : Picks) (queue qs : List ℕ) (l : ℕ) (m : Mark) → picks ≡ picks_of facts → l ≡ level_of facts → up_to l (facts ++ fs) ≡ up_to l facts → IsMarkOf terms facts picks queue m → IsMark terms (facts ++ fs) (picks ++ ps) (queue ++ qs) l m
new_mark terms facts fs picks ps queue qs l m d e u h =
    let a = length-append picks ps in let b = length-append queue qs in let c = length-append facts fs in
    let x = h.facts_are in let y = h.picks_are in let z = h.queue_is in
    let tf : take m.facts (facts ++ fs) ≡ facts = ap (λ (k : ℕ). take k (facts ++ fs)) x ∙ (take_front facts fs (length facts) (omega arith) ∙ take_whole facts) in
    let tp : take m.picks (picks ++ ps) ≡ picks = ap (λ (k : ℕ). take k (picks ++ ps)) y ∙ (take_front picks ps (length picks) (omega arith) ∙ take_whole picks) in
    let tq : take m.queue (queue ++ qs) ≡ queue = ap (λ (k : ℕ). take k (queue ++ qs)) z ∙ (take_front queue qs (length queue) (omega arith) ∙ take_whole queue) in
    record {
      facts_within = omega arith;
      picks_within = omega arith;
      queue_within = omega arith;
      front = tf ∙ (sym (up_to-all l facts (omega arith)) ∙ sym u);
      level = ap level_of tf ∙ sym e;
      picked = tp ∙ (d ∙ ap picks_of (sym tf));
      checked = h.checked;
      settled = subst (λ (k : ℕ). IsSettled (take m.facts (facts ++ fs)) terms k m.checked) (sym x) (subst (λ (w : List Fact). IsSettled w terms (length facts) m.checked) (sym tf) h.settled);
      passed = subst (λ (q : List ℕ). HasPassed q (take m.picks (picks ++ ps)) m.first) (sym tq) (subst (λ (w : Picks). HasPassed queue w m.first) (sym tp) h.passed);
    }

pub marks_push : (terms : List (List Term)) (facts : List Fact) (f : Fact) (picks ps : Picks) (queue qs : List ℕ) (marks : List Mark) (m : Mark) → picks ≡ picks_of facts → level_of facts ≡ length marks → f.level ≡ suc (level_of facts) → IsMarkOf terms facts picks queue m → AreMarks terms facts picks queue marks
    → AreMarks terms (facts ++ f ∷ []) (picks ++ ps) (queue ++ qs) (marks ++ m ∷ [])
marks_push terms facts f picks ps queue qs marks m d e lf h ms = record {
  at = λ l x g. elim (last_cases marks m x l g) [
    | inl y ↦ mark_grow terms facts (f ∷ []) picks ps queue qs l x (up_push facts f l lf (let w = y.0 in omega arith)) (ms.at l x y.1)
    | inr y ↦ subst (λ (z : Mark). IsMark terms (facts ++ f ∷ []) (picks ++ ps) (queue ++ qs) l z) (sym y.1) (new_mark terms facts (f ∷ []) picks ps queue qs l m d (y.0 ∙ sym e) (up_push facts f l lf (let w = y.0 in omega arith)) h)
  ];
  rise = λ l k x y lt gx gy. elim (last_cases marks m y k gy) [
    | inl b ↦ elim (last_cases marks m x l gx) [
      | inl a ↦ ms.rise l k x y lt a.1 b.1
      | inr a ↦ absurd (let p = a.0 in let q = b.0 in omega arith)
    ]
    | inr b ↦ elim (last_cases marks m x l gx) [
      | inl a ↦ (let w = ms.at l x a.1 in let p = w.facts_within in let q = w.picks_within in let r = w.queue_within in
          let p' = h.facts_are in let q' = h.picks_are in let r' = h.queue_is in
          subst (λ (z : Mark). (x.facts ≤ z.facts) × (x.picks ≤ z.picks) × (x.queue ≤ z.queue)) (sym b.1) (omega arith, omega arith, omega arith))
      | inr a ↦ absurd (let p = a.0 in let q = b.0 in omega arith)
    ]
  ];
}

-- the trail
wanted_push : (p : Plain) (d : Picks) (n v : ℕ) → joined_needs p (d ++ (n, v) ∷ []) ≡ joined_needs p d ++ targets (needs_of p n v)
wanted_push p [] n v = append-nil (targets (needs_of p n v))
wanted_push p (e ∷ d) n v = ap (λ (l : List ℕ). targets (needs_of p e.0 e.1) ++ l) (wanted_push p d n v) ∙ sym (append_assoc (targets (needs_of p e.0 e.1)) (joined_needs p d) (targets (needs_of p n v)))

pub turns_push : (marks : List Mark) (m : Mark) → turns_of (marks ++ m ∷ []) ≡ turns_of marks ++ m.queue ∷ []
turns_push [] m = refl
turns_push (x ∷ xs) m = ap (λ (l : List ℕ). x.queue ∷ l) (turns_push xs m)

raised_push : (facts : List Fact) (f : Fact) → AreRaised facts → (f.cause ≡ None → 0 < f.level → level_of facts < f.level) → AreRaised (facts ++ f ∷ [])
raised_push facts f r h = record {
  at = λ i g e n l. elim (last_cases facts f g i e) [
    | inl x ↦ subst (λ (y : List Fact). level_of y < g.level) (sym (take_front facts (f ∷ []) i (let w = x.0 in omega arith))) (r.at i g x.1 n l)
    | inr x ↦ subst (λ (y : List Fact). level_of y < g.level) (sym (ap (λ (k : ℕ). take k (facts ++ f ∷ [])) x.0 ∙ (take_front facts (f ∷ []) (length facts) (omega arith) ∙ take_whole facts)))
        (subst (λ (y : Fact). level_of facts < y.level) (sym x.1) (h (ap (λ (y : Fact). y.cause) (sym x.1) ∙ n) (subst (λ (y : Fact). 0 < y.level) x.1 l)))
  ];
}

pub alive_push : (facts : List Fact) (f : Fact) (o : Option ℕ) → IsAlive facts → is_open facts (node_of f.term) o ≡ true → allows f.term o ≡ true → IsAlive (facts ++ f ∷ [])
alive_push facts f o a h i = record {
  at = λ n. elim (cases_eq n (node_of f.term)) [
    | inl e ↦ (o, open_push facts f n o (subst (λ (k : ℕ). is_open facts k o ≡ true) (sym e) h) (λ q. i))
    | inr d ↦ ((a.at n).0, open_push facts f n (a.at n).0 (a.at n).1 (λ q. absurd (d (sym q))))
  ];
}

pub trail_decided : (p : Plain) (t : Track) (n v q : ℕ) → IsTrailOf p t → v < size_of p n → is_open t.facts n (Some v) ≡ true → q ≡ length t.queue
    → IsTrailOf p (record { steps = t.steps; terms = t.terms; facts = t.facts ++ decision_at p t.facts n v ∷ []; sizes = t.sizes; width = t.width; queue = t.queue ++ targets (needs_of p n v); turns = t.turns ++ q ∷ []; whole = true })
trail_decided p t n v q w h o eq =
    let f : Fact = decision_at p t.facts n v in
    let lf : f.level ≡ suc (level_of t.facts) = omega arith in
    let one : picks_of (t.facts ++ f ∷ []) ≡ picks_of t.facts ++ (n, v) ∷ [] = picks_push t.facts f n v (size_of p n) refl refl h in
    let lv = w.levels in
    record {
      whole = refl;
      follow = follow_push p t.steps t.facts f w.follow (n, v, h, refl) (omega arith);
      said = w.said;
      sizes = w.sizes;
      width = w.width;
      queue = ap (λ (l : List ℕ). l ++ targets (needs_of p n v)) w.queue ∙ (append_assoc p.roots (joined_needs p (picks_of t.facts)) (targets (needs_of p n v)) ∙ ap (λ (l : List ℕ). p.roots ++ l) (sym (ap (joined_needs p) one ∙ wanted_push p (picks_of t.facts) n v)));
      turns = λ l x g. elim (last_cases t.turns q x l g) [
        | inl y ↦ (let z = w.turns l x y.1 in let a = length-append t.queue (targets (needs_of p n v)) in let b = z.0 in
            (omega arith, take_front t.queue (targets (needs_of p n v)) x b ∙ (z.1 ∙ ap (λ (s : List Fact). p.roots ++ joined_needs p (picks_of s)) (sym (up_push t.facts f l lf (let c = y.0 in omega arith))))))
        | inr y ↦ (let a = length-append t.queue (targets (needs_of p n v)) in let b = y.1 in let c = y.0 in (
          omega arith,
          ap (λ (k : ℕ). take k (t.queue ++ targets (needs_of p n v))) (y.1 ∙ eq) ∙ (take_front t.queue (targets (needs_of p n v)) (length t.queue) (omega arith) ∙ (take_whole t.queue ∙ (w.queue
              ∙ ap (λ (s : List Fact). p.roots ++ joined_needs p (picks_of s)) (sym (up_push t.facts f l lf (omega arith) ∙ up_to-all l t.facts (omega arith)))))),
        ))
      ];
      levels = length-append t.turns (q ∷ []) ∙ (let z = level_push t.facts f lf in omega arith);
      raised = raised_push t.facts f w.raised (λ x y. omega arith);
      alive = alive_push t.facts f (Some v) w.alive o (one_has (size_of p n) v h);
      begun = record { rest = w.begun.rest ++ f ∷ []; is = ap (λ (x : List Fact). x ++ f ∷ []) w.begun.is ∙ append_assoc (root_facts p p.roots) w.begun.rest (f ∷ []); later = later_join w.begun.rest (f ∷ []) w.begun.later ((λ x. omega arith), tt) };
    }

pub decision_sized : (p : Plain) (sizes : List ℕ) (n v size : ℕ) (t : Term) → sizes ≡ sizes_of p → v < size_of p n → size ≡ size_of p n → t ≡ In n (one_of size v) → IsSized sizes t
decision_sized p sizes n v size t s h e q =
    let f = node_of_size p n v h in
    let l = slice_get_within p.nodes n f.0 f.1 in
    subst (IsSized sizes) (sym q) (
      subst (λ (z : List ℕ). n < length z) (sym s) (subst (λ (k : ℕ). n < k) (sym (sizes_length p.nodes)) l),
      one_length size v ∙ (e ∙ (sym (sizes_at p n) ∙ ap (λ (z : List ℕ). get_or z n 0) (sym s))),
    )

settled_fewer : (facts : List Fact) (terms : List (List Term)) (seen checked fewer : ℕ) → IsSettled facts terms seen checked → fewer ≤ checked → IsSettled facts terms seen fewer
settled_fewer facts terms seen checked fewer h l = record { at = λ k ts c e. h.at k ts (omega arith) e }

pub mark_settled : (facts : List Fact) (terms : List (List Term)) (seen checked fewer : ℕ) → IsSettled facts terms seen checked → fewer ≤ checked → (seen ≡ length facts) ⊎ (fewer ≡ 0) → IsSettled facts terms (length facts) fewer
mark_settled facts terms seen checked fewer h l (inl e) = subst (λ (k : ℕ). IsSettled facts terms k fewer) e (settled_fewer facts terms seen checked fewer h l)
mark_settled facts terms seen checked fewer h l (inr e) = record { at = λ k ts c g. absurd (omega arith) }
