-- A trail whose facts have grown by forced ones.
use Rattle.std.proofs.Common.{◌≡◌, ℕ, zero, suc, ◌+◌, List, [], ◌∷◌, ◌++◌, Bool, true, Option, Some, None, refl, ap, ◌∙◌, sym, subst, ◌<◌, ◌≤◌, inl, inr, arith, slice_get, get_or, length, take, append_assoc, length-append}
use Rattle.std.proofs.lemmas.List.{append-nil}
use Rattle.std.proofs.lemmas.Option.{none-some, slice_get_within}
use Rattle.ul_problem.proofs.ForCallers.{said_place, said_of}
use Rattle.ul_problem.specs.Terms.{node_of, allows, negation}
use Rattle.ul_problem.specs.Plain.{Plain, size_of, size_in}
use Rattle.ul_problem.specs.Steps.{says, said_by}
use Rattle.ul_problem.specs.Best.{Picks, joined_needs}
use Rattle.ul_problem.specs.declared.term.Term.{Term}
use Rattle.ul_problem.specs.declared.step.Step.{Step}
use Rattle.ul_problem.specs.declared.problem.NodeFacts.{NodeFacts}
use Rattle.ul_trail.specs.Track.{Track}
use Rattle.ul_trail.specs.declared.fact.Fact.{Fact}
use Rattle.ul_trail.specs.declared.fact.Progress.{Progress}
use Rattle.ul_trail.specs.declared.fact.Progress.TheVariants.{Quiet, Conflict}
use Rattle.ul_trail.specs.declared.mark.Mark.{Mark}
use Rattle.ul_trail.specs.Facts.{is_open, AreHeld, AreHeldBut, picks_of, pick_with, level_of, up_to, AreAt}
use Rattle.ul_trail.specs.Counts.{sizes_of, size_list}
use Rattle.ul_trail.specs.Propagation.{IsDerived, Follow, IsTrailOf, IsOption, AreNewAfter, HasGrown, IsProgress, AreRaised, IsAlive, AreLater, root_facts}
use Rattle.ul_trail.specs.Standing.{IsStanding, IsForced, AreForced, HasForced, IsSettled, AllSized}
use Rattle.ul_trail.specs.Findings.{IsSpread}
use Rattle.ul_trail.specs.Kept.{IsKept, IsMark, AreMarks}
use Rattle.ul_trail.specs.declared.standing.Standing.{Standing}
use Rattle.ul_trail.specs.declared.propagation.Cursor.{Cursor}
use Rattle.ul_trail.specs.declared.trail.Trail.TheInside.{Inside}
use Rattle.std.proofs.lemmas.Bool.{cases_eq}
use Rattle.ul_trail.proofs.Places.{take_front, last_cases}
use Rattle.ul_trail.proofs.Cuts.{open_push, negation_allows}
use Rattle.ul_trail.proofs.Settling.{negation_node}
use Rattle.ul_trail.proofs.Levels.{up_to-append, up_to-later, level_of-append, level_of-at}
use Rattle.ul_trail.proofs.Keeping.{follow_push}
use Rattle.ul_trail.proofs.Walking.{fresh_of}

pub forced_at : (sizes : List ℕ) (terms : List (List Term)) (level : ℕ) (earlier more : List Fact) → AreForced sizes terms level earlier more → AreAt level more
forced_at sizes terms level earlier [] h = tt
forced_at sizes terms level earlier (f ∷ fs) h = (ap (λ (x : Fact). x.level) h.0.fact, forced_at sizes terms level (earlier ++ f ∷ []) fs h.1)

pub picks_append : (xs ys : List Fact) → picks_of (xs ++ ys) ≡ picks_of xs ++ picks_of ys
picks_append [] ys = refl
picks_append (f ∷ xs) ys = which f.cause (picks_append xs ys)
  where
    which : (c : Option ℕ) → picks_of (xs ++ ys) ≡ picks_of xs ++ picks_of ys → pick_with c f.term (picks_of (xs ++ ys)) ≡ pick_with c f.term (picks_of xs) ++ picks_of ys
    which None e = ap (λ (l : Picks). pick_with None f.term l) e
    which (Some c) e = e

forced_unpicked : (sizes : List ℕ) (terms : List (List Term)) (level : ℕ) (earlier more : List Fact) → AreForced sizes terms level earlier more → picks_of more ≡ []
forced_unpicked sizes terms level earlier [] h = refl
forced_unpicked sizes terms level earlier (f ∷ fs) h = ap (λ (x : Fact). pick_with x.cause x.term (picks_of fs)) h.0.fact ∙ forced_unpicked sizes terms level (earlier ++ f ∷ []) fs h.1

pub forced_picks : (sizes : List ℕ) (terms : List (List Term)) (level : ℕ) (old now : List Fact) → HasForced sizes terms level old now → picks_of now ≡ picks_of old
forced_picks sizes terms level old now h = ap picks_of h.is ∙ (picks_append old h.more ∙ (ap (λ (l : Picks). picks_of old ++ l) (forced_unpicked sizes terms level old h.more h.forced) ∙ append-nil (picks_of old)))

pub forced_level : (sizes : List ℕ) (terms : List (List Term)) (level : ℕ) (old now : List Fact) → HasForced sizes terms level old now → level_of old ≡ level → level_of now ≡ level
forced_level sizes terms level old now h e =
    let a = level_of-append old h.more in
    let b = level_of-at level h.more (forced_at sizes terms level old h.more h.forced) in
    ap level_of h.is ∙ (a ∙ omega arith)

pub forced_up_to : (sizes : List ℕ) (terms : List (List Term)) (level l : ℕ) (old now : List Fact) → HasForced sizes terms level old now → l < level → up_to l now ≡ up_to l old
forced_up_to sizes terms level l old now h i =
    ap (up_to l) h.is ∙ (up_to-append l old h.more ∙ (ap (λ (x : List Fact). up_to l old ++ x) (up_to-later l level h.more (forced_at sizes terms level old h.more h.forced) i) ∙ append-nil (up_to l old)))

-- marks where the facts have grown
pub mark_more : (terms : List (List Term)) (old now : List Fact) (picks : Picks) (queue : List ℕ) (l : ℕ) (m : Mark) (more : List Fact) → now ≡ old ++ more → up_to l now ≡ up_to l old → IsMark terms old picks queue l m → IsMark terms now picks queue l m
mark_more terms old now picks queue l m more e u h =
    let same : take m.facts now ≡ take m.facts old = ap (take m.facts) e ∙ take_front old more m.facts h.facts_within in
    let len : length now ≡ length old + length more = ap (λ (x : List Fact). length x) e ∙ length-append old more in
    let w = h.facts_within in
    record {
      facts_within = omega arith;
      picks_within = h.picks_within;
      queue_within = h.queue_within;
      front = same ∙ (h.front ∙ sym u);
      level = ap level_of same ∙ h.level;
      picked = h.picked ∙ ap picks_of (sym same);
      checked = h.checked;
      settled = subst (λ (x : List Fact). IsSettled x terms m.facts m.checked) (sym same) h.settled;
      passed = h.passed;
    }

pub forced_marks : (sizes : List ℕ) (terms : List (List Term)) (level : ℕ) (old now : List Fact) (picks : Picks) (queue : List ℕ) (marks : List Mark) → HasForced sizes terms level old now → level ≡ length marks → AreMarks terms old picks queue marks → AreMarks terms now picks queue marks
forced_marks sizes terms level old now picks queue marks g e h = record {
  at = λ l m i. mark_more terms old now picks queue l m g.more g.is (forced_up_to sizes terms level l old now g (let w = slice_get_within marks l m i in omega arith)) (h.at l m i);
  rise = h.rise;
}

-- sizes
pub sizes_length : (fs : List NodeFacts) → length (size_list fs) ≡ length fs
sizes_length [] = refl
sizes_length (f ∷ fs) = ap suc (sizes_length fs)

pub sizes_at : (p : Plain) (n : ℕ) → get_or (sizes_of p) n 0 ≡ size_of p n
sizes_at p n = each p.nodes n
  where
    each : (fs : List NodeFacts) (k : ℕ) → get_or (size_list fs) k 0 ≡ size_in (slice_get fs k)
    each [] k = refl
    each (f ∷ fs) zero = refl
    each (f ∷ fs) (suc k) = each fs k

-- the facts follow
forced_derived : (p : Plain) (sizes : List ℕ) (steps : List Step) (level : ℕ) (earlier : List Fact) (f : Fact) → IsForced sizes (said_by p steps) level earlier f → IsDerived p steps earlier f.term f.cause
forced_derived p sizes steps level earlier f h =
    let s = said_place p steps h.place h.list h.is in
    subst (λ (x : Fact). IsDerived p steps earlier x.term x.cause) (sym h.fact) (s.0, h.term, s.1, refl, subst (AreHeldBut earlier h.term) (sym s.2) h.but)

all_follow : (p : Plain) (sizes : List ℕ) (steps : List Step) (level : ℕ) (earlier more : List Fact) → level_of earlier ≤ level → Follow p steps earlier → AreForced sizes (said_by p steps) level earlier more → Follow p steps (earlier ++ more)
all_follow p sizes steps level earlier [] l w h = subst (Follow p steps) (sym (append-nil earlier)) w
all_follow p sizes steps level earlier (f ∷ fs) l w h =
    let e : f.level ≡ level = ap (λ (x : Fact). x.level) h.0.fact in
    let a = level_of-append earlier (f ∷ []) in
    let low : level_of (earlier ++ f ∷ []) ≤ level = omega arith in
    subst (Follow p steps) (append_assoc earlier (f ∷ []) fs) (all_follow p sizes steps level (earlier ++ f ∷ []) fs low (follow_push p steps earlier f w (forced_derived p sizes steps level earlier f h.0) (omega arith)) h.1)

all_new : (p : Plain) (terms : List (List Term)) (level : ℕ) (earlier more : List Fact) → AreForced (sizes_of p) terms level earlier more → AreNewAfter p level earlier more
all_new p terms level earlier [] h = tt
all_new p terms level earlier (f ∷ fs) h =
    let g = fresh_of (sizes_of p) terms level earlier f h.0 in (
      ap (λ (x : Fact). x.level) h.0.fact,
      (h.0.place, ap (λ (x : Fact). x.cause) h.0.fact),
      (subst (λ (k : ℕ). node_of f.term < k) (sizes_length p.nodes) g.0, (g.1.0, subst (λ (k : ℕ). IsOption k g.1.0) (sizes_at p (node_of f.term)) g.1.1, g.1.2, g.1.3)),
      all_new p terms level (earlier ++ f ∷ []) fs h.1,
    )

pub grown_new : (p : Plain) (terms : List (List Term)) (level : ℕ) (old now : List Fact) → HasForced (sizes_of p) terms level old now → level_of old ≡ level → HasGrown p old now
grown_new p terms level old now h e = (h.more, h.is, subst (λ (l : ℕ). AreNewAfter p l old h.more) (sym e) (all_new p terms level old h.more h.forced))

-- what stays so
forced_raised : (sizes : List ℕ) (terms : List (List Term)) (level : ℕ) (earlier more : List Fact) → AreForced sizes terms level earlier more → AreRaised earlier → AreRaised (earlier ++ more)
forced_raised sizes terms level earlier [] h r = subst AreRaised (sym (append-nil earlier)) r
forced_raised sizes terms level earlier (f ∷ fs) h r = subst AreRaised (append_assoc earlier (f ∷ []) fs) (forced_raised sizes terms level (earlier ++ f ∷ []) fs h.1 (record {
  at = λ i g e n l.
      elim (last_cases earlier f g i e) [
        | inl x ↦ subst (λ (y : List Fact). level_of y < g.level) (sym (take_front earlier (f ∷ []) i (let w = x.0 in omega arith))) (r.at i g x.1 n l)
        | inr x ↦ absurd (none-some h.0.place (sym n ∙ (ap (λ (y : Fact). y.cause) x.1 ∙ ap (λ (y : Fact). y.cause) h.0.fact)))
      ];
}))

alive_next : (sizes : List ℕ) (terms : List (List Term)) (level : ℕ) (earlier : List Fact) (f : Fact) (n : ℕ) → IsForced sizes terms level earlier f → IsAlive earlier → (o : Option ℕ) × (is_open (earlier ++ f ∷ []) n o ≡ true)
alive_next sizes terms level earlier f n h a = elim (cases_eq n (node_of f.term)) [
  | inl e ↦ (let t : f.term ≡ negation h.term = ap (λ (y : Fact). y.term) h.fact in
      let m : node_of f.term ≡ node_of h.term = ap node_of t ∙ negation_node h.term in
      let w : is_open earlier n h.leaves.0 ≡ true = subst (λ (k : ℕ). is_open earlier k h.leaves.0 ≡ true) (sym (e ∙ m)) h.leaves.1 in
      (h.leaves.0, open_push earlier f n h.leaves.0 w (λ i. subst (λ (y : Term). allows y h.leaves.0 ≡ true) (sym t) (negation_allows h.term h.leaves.0 h.leaves.2))))
  | inr d ↦ ((a.at n).0, open_push earlier f n (a.at n).0 (a.at n).1 (λ i. absurd (d (sym i))))
]

forced_alive : (sizes : List ℕ) (terms : List (List Term)) (level : ℕ) (earlier more : List Fact) → AreForced sizes terms level earlier more → IsAlive earlier → IsAlive (earlier ++ more)
forced_alive sizes terms level earlier [] h a = subst IsAlive (sym (append-nil earlier)) a
forced_alive sizes terms level earlier (f ∷ fs) h a = subst IsAlive (append_assoc earlier (f ∷ []) fs) (forced_alive sizes terms level (earlier ++ f ∷ []) fs h.1 (record { at = λ n. alive_next sizes terms level earlier f n h.0 a }))

pub later_join : (xs ys : List Fact) → AreLater xs → AreLater ys → AreLater (xs ++ ys)
later_join [] ys h i = i
later_join (x ∷ xs) ys h i = (h.0, later_join xs ys h.1 i)

forced_later : (sizes : List ℕ) (terms : List (List Term)) (level : ℕ) (earlier more : List Fact) → AreForced sizes terms level earlier more → AreLater more
forced_later sizes terms level earlier [] h = tt
forced_later sizes terms level earlier (f ∷ fs) h = ((λ n. absurd (none-some h.0.place (sym n ∙ ap (λ (y : Fact). y.cause) h.0.fact))), forced_later sizes terms level (earlier ++ f ∷ []) fs h.1)

pub trail_grown : (p : Plain) (t : Track) (now : List Fact) → IsTrailOf p t → HasForced t.sizes t.terms (level_of t.facts) t.facts now
    → IsTrailOf p (record { steps = t.steps; terms = t.terms; facts = now; sizes = t.sizes; width = t.width; queue = t.queue; turns = t.turns; whole = true })
trail_grown p t now w g =
    let level : ℕ = level_of t.facts in
    record {
      whole = refl;
      follow = subst (Follow p t.steps) (sym g.is) (all_follow p t.sizes t.steps level t.facts g.more (omega arith) w.follow (subst (λ (x : List (List Term)). AreForced t.sizes x level t.facts g.more) w.said g.forced));
      said = w.said;
      sizes = w.sizes;
      width = w.width;
      queue = w.queue ∙ ap (λ (d : Picks). p.roots ++ joined_needs p d) (sym (forced_picks t.sizes t.terms level t.facts now g));
      turns = λ l q e. ((w.turns l q e).0, (w.turns l q e).1 ∙ ap (λ (x : List Fact). p.roots ++ joined_needs p (picks_of x)) (sym (forced_up_to t.sizes t.terms level l t.facts now g (let a = slice_get_within t.turns l q e in let b = w.levels in omega arith))));
      levels = w.levels ∙ sym (forced_level t.sizes t.terms level t.facts now g refl);
      raised = subst AreRaised (sym g.is) (forced_raised t.sizes t.terms level t.facts g.more g.forced w.raised);
      alive = subst IsAlive (sym g.is) (forced_alive t.sizes t.terms level t.facts g.more g.forced w.alive);
      begun = record { rest = w.begun.rest ++ g.more; is = g.is ∙ (ap (λ (x : List Fact). x ++ g.more) w.begun.is ∙ append_assoc (root_facts p p.roots) w.begun.rest g.more); later = later_join w.begun.rest g.more w.begun.later (forced_later t.sizes t.terms level t.facts g.more g.forced) };
    }

-- what a trail keeps where its facts have grown by forced ones
pub kept_grown : (s : Inside) (standing : Standing) (cursor : Cursor) (whole : Bool) (level : ℕ) → IsKept s
    → IsStanding standing.sizes.items standing.known.items standing.before.items standing.facts.items → standing.sizes.items ≡ s.standing.sizes.items
    → HasForced s.standing.sizes.items s.watching.terms.items level s.standing.facts.items standing.facts.items → level_of s.standing.facts.items ≡ level
    → cursor.seen ≤ length standing.facts.items → cursor.checked ≤ length s.watching.terms.items → IsSettled standing.facts.items s.watching.terms.items cursor.seen cursor.checked
    → IsKept (record { held = s.held; watching = s.watching; standing = standing; cursor = cursor; marks = s.marks; picks = s.picks; positions = s.positions; queue = s.queue; first = s.first; whole = whole })
kept_grown s standing cursor whole level k stands sizes g l seen checked settled = record {
  placed = k.placed;
  standing = stands;
  watched = k.watched;
  width = k.width ∙ ap (λ (z : List ℕ). length z) (sym sizes);
  sized = subst (λ (z : List ℕ). AllSized z s.watching.terms.items) (sym sizes) k.sized;
  seen = seen;
  checked = checked;
  settled = settled;
  level = forced_level _ _ _ _ _ g l ∙ (sym l ∙ k.level);
  picks = k.picks ∙ sym (forced_picks _ _ _ _ _ g);
  indexed = k.indexed;
  positions = k.positions ∙ ap (λ (z : List ℕ). length z) (sym sizes);
  passed = k.passed;
  marks = forced_marks _ _ _ _ _ _ _ _ g (sym l ∙ k.level) k.marks;
}

-- what propagation leaves, whatever it finds
pub record IsGrownFrom (p : Plain) (before now : Track) : Type 0 where
  pub kept : IsTrailOf p now
  pub steps : now.steps ≡ before.steps
  pub grown : HasGrown p before.facts now.facts

pub grown_from : (p : Plain) (t before : Track) (level : ℕ) (facts : List Fact) (sizes : List ℕ) → t ≡ before → IsTrailOf p before → level_of t.facts ≡ level → sizes ≡ t.sizes → HasForced t.sizes t.terms level t.facts facts
    → IsGrownFrom p before (record { steps = t.steps; terms = t.terms; facts = facts; sizes = sizes; width = t.width; queue = t.queue; turns = t.turns; whole = true })
grown_from p t before level facts sizes e w l z g =
    let here : IsTrailOf p t = subst (IsTrailOf p) (sym e) w in
    record {
      kept = subst (λ (x : List ℕ). IsTrailOf p (record { steps = t.steps; terms = t.terms; facts = facts; sizes = x; width = t.width; queue = t.queue; turns = t.turns; whole = true })) (sym z)
          (trail_grown p t facts here (subst (λ (k : ℕ). HasForced t.sizes t.terms k t.facts facts) (sym l) g));
      steps = ap (λ (x : Track). x.steps) e;
      grown = subst (λ (x : List Fact). HasGrown p x facts) (ap (λ (x : Track). x.facts) e)
          (grown_new p t.terms level t.facts facts (subst (λ (x : List ℕ). HasForced x t.terms level t.facts facts) here.sizes g) l);
    }

pub spread_progress : (p : Plain) (t : Track) (r : Progress) → t.terms ≡ said_by p t.steps → IsSpread t.terms t.facts r → IsProgress p t r
spread_progress p t Quiet e h = λ k s i.
    let c = h k (says p s) (subst (λ (x : List (List Term)). slice_get x k ≡ Some (says p s)) (sym e) (said_of p t.steps k s i)) in
    (c.free, c.spent)
spread_progress p t (Conflict k) e h =
    let s = said_place p t.steps k h.0 (subst (λ (x : List (List Term)). slice_get x k ≡ Some h.0) e h.1) in
    (s.0, s.1, subst (AreHeld t.facts) (sym s.2) h.2)
