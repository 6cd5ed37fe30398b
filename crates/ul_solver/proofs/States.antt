-- What the solver keeps, over a decision and over a backjump.
use Rattle.std.proofs.Common.{◌≡◌, ℕ, suc, ◌+◌, List, [], ◌∷◌, ◌++◌, true, false, Option, Some, None, refl, ap, ◌∙◌, sym, subst, ◌<◌, ◌≤◌, inl, inr, arith, nat_le, length, slice_get, max, append_assoc}
use Rattle.std.proofs.lemmas.List.{append-nil, length-append}
use Rattle.ul_solver.proofs.Shown.{picks_append}
use Rattle.std.proofs.lemmas.Bool.{le-leb, lt-leb, cases_lt}
use Rattle.ul_problem.specs.Terms.{node_of}
use Rattle.ul_problem.specs.Plain.{Plain, size_of}
use Rattle.ul_problem.specs.Steps.{says}
use Rattle.ul_problem.specs.Best.{next_of}
use Rattle.ul_problem.specs.declared.term.Term.{Term}
use Rattle.ul_problem.specs.declared.term.Term.TheVariants.{In}
use Rattle.ul_problem.specs.declared.step.Step.{Step}
use Rattle.ul_trail.specs.Track.{Track}
use Rattle.ul_trail.specs.declared.fact.Fact.{Fact}
use Rattle.ul_trail.specs.Facts.{is_open, AreHeld, AreHeldBut, IsFailed, one_of, first_of, picks_of, up_to, level_of, AreAt}
use Rattle.ul_trail.specs.Counts.{open_in, level_number, sizes_of, AreReached}
use Rattle.ul_trail.specs.Propagation.{IsTrailOf, AreLevels, HasGrown, AreNewAfter, IsQuiet, NoConflict, IsProgress, IsNew, IsOption, IsQuietAt}
use Rattle.ul_trail.specs.declared.fact.Progress.{Progress}
use Rattle.ul_trail.specs.declared.fact.Progress.TheVariants.{Quiet, Conflict}
use Rattle.ul_trail.specs.Moves.{HasPythons, decision_at}
use Rattle.ul_trail.proofs.ForCallers.{one_first, pythons_more, get_last, IsWithin, append_within, new_lowers, open_le, up_to-append, up_to-later, up_to-all, up_to-up_to, level_of-append, level_of-at, none_up_to, front_of, get_cases, sizes_length, sizes_at}
use Rattle.ul_solver.specs.State.{IsFirstOpen, IsChosen, IsSteered, IsState, measure_of}
use Rattle.ul_conflict.specs.Headline.{IsBackjump}
use Rattle.ul_trail.specs.Standing.{IsFresh}
use Rattle.ul_solver.proofs.Falling.{measure_falls}

pub new_at : (p : Plain) (m : ℕ) (xs ys : List Fact) → AreNewAfter p m xs ys → AreAt m ys
new_at p m xs [] h = tt
new_at p m xs (f ∷ ys) h = (h.0, new_at p m (xs ++ f ∷ []) ys h.3)

steered_left : (p : Plain) (front xs ys : List Fact) → IsSteered p front (xs ++ ys) → IsSteered p front xs
steered_left p front [] ys h = tt
steered_left p front (x ∷ xs) ys h = (h.0, h.1, steered_left p (front ++ x ∷ []) xs ys h.2)

pub steered_join : (p : Plain) (front xs ys : List Fact) → IsSteered p front xs → IsSteered p (front ++ xs) ys → IsSteered p front (xs ++ ys)
steered_join p front [] ys h i = subst (λ (z : List Fact). IsSteered p z ys) (append-nil front) i
steered_join p front (x ∷ xs) ys h i = (h.0, h.1, steered_join p (front ++ x ∷ []) xs ys h.2 (subst (λ (z : List Fact). IsSteered p z ys) (sym (append_assoc front (x ∷ []) xs)) i))

picks_more : (xs ys : List Fact) → length (picks_of xs) ≤ length (picks_of (xs ++ ys))
picks_more xs ys = let e = ap length (picks_append xs ys) ∙ length-append (picks_of xs) (picks_of ys) in omega arith

pub steered_new : (p : Plain) (m : ℕ) (front before xs : List Fact) → m ≤ length (picks_of front) → AreNewAfter p m before xs → IsSteered p front xs
steered_new p m front before [] fits h = tt
steered_new p m front before (x ∷ xs) fits h =
    let more = picks_more front (x ∷ []) in
    let level : x.level ≡ m = h.0 in
    (subst (λ (c : Option ℕ). IsChosen p front x.term c) (sym h.1.1) tt, omega arith, steered_new p m (front ++ x ∷ []) (before ++ x ∷ []) xs (omega arith) h.3)

-- no level is above the number of picks
pub level_counted : (p : Plain) (front fs : List Fact) → IsSteered p front fs → level_of fs ≤ length (picks_of (front ++ fs))
level_counted p front [] h = omega arith
level_counted p front (f ∷ fs) h =
    let a : f.level ≤ length (picks_of (front ++ f ∷ [])) = h.1 in
    let b = level_counted p (front ++ f ∷ []) fs h.2 in
    let c = picks_more (front ++ f ∷ []) fs in
    let e : (front ++ f ∷ []) ++ fs ≡ front ++ f ∷ fs = append_assoc front (f ∷ []) fs in
    subst (λ (l : List Fact). max f.level (level_of fs) ≤ length (picks_of l)) e (omega arith)

-- what holds of fewer facts holds of more
held_within : (xs ys : List Fact) (ts : List Term) → IsWithin xs ys → AreHeld ys ts → AreHeld xs ts
held_within xs ys [] w h = tt
held_within xs ys (t ∷ ts) w h = ((λ o i. h.0 o (w (node_of t) o i)), held_within xs ys ts w h.1)

up_to_within : (l m low : ℕ) (fs : List Fact) → AreLevels low fs → l ≤ m → IsWithin (up_to m fs) (up_to l fs)
up_to_within l m low fs h i n o e =
    let lv : (rest : List Fact) × (up_to m fs ≡ up_to l fs ++ rest) = front_in l m low fs h i in
    append_within (up_to l fs) lv.0 n o (subst (λ (z : List Fact). is_open z n o ≡ true) lv.1 e)
  where
    front_in : (l m low : ℕ) (fs : List Fact) → AreLevels low fs → l ≤ m → (rest : List Fact) × (up_to m fs ≡ up_to l fs ++ rest)
    front_in l m low [] h i = ([], refl)
    front_in l m low (f ∷ fs) h i = elim (cases_lt l f.level) [
      | inl high ↦ (let e : nat_le f.level l ≡ false = lt-leb f.level l high in let g = none_up_to l f.level fs h.1 high in (up_to m (f ∷ fs), rw (e, g) refl))
      | inr low' ↦ (let e : nat_le f.level l ≡ true = le-leb f.level l low' in let d : nat_le f.level m ≡ true = le-leb f.level m (omega arith) in let r = front_in l m f.level fs h.1 i in (r.0, rw (e, d) (ap (λ (z : List Fact). f ∷ z) r.1)))
    ]

-- the levels of grown facts
reached_from : (facts now : List Fact) (m : ℕ) → AreReached facts → ((l : ℕ) → l < m → up_to l now ≡ up_to l facts) → m ≤ suc (level_of facts) → level_of now ≡ m → AreReached now
reached_from facts now m r same near top l h = elim (cases_lt l m) [
  | inl low ↦ ap level_of (same l low) ∙ r l (omega arith)
  | inr high ↦ (let e : l ≡ m = omega arith in let all : up_to l now ≡ now = up_to-all l now (omega arith) in ap level_of all ∙ (top ∙ sym e))
]

fresh_from_new : (p : Plain) (earlier : List Fact) (t : Term) → IsNew p earlier t → IsFresh (sizes_of p) earlier t
fresh_from_new p earlier t h = (subst (λ (k : ℕ). node_of t < k) (sym (sizes_length p.nodes)) h.0, (h.1.0, subst (λ (k : ℕ). IsOption k h.1.0) (sym (sizes_at p (node_of t))) h.1.1, h.1.2, h.1.3))

-- a trail that is no answer as it stands moves
unmoved : (p : Plain) (t1 t2 : Track) (g : Progress) → IsProgress p t2 g → t2.steps ≡ t1.steps → t2.facts ≡ t1.facts → (IsQuiet p t1 → ⊥) → NoConflict p t1 → ⊥
unmoved p t1 t2 Quiet h s f loud calm = loud (λ k x e. subst (λ (z : List Fact). IsQuietAt p z x) f (h k x (subst (λ (z : List Step). slice_get z k ≡ Some x) (sym s) e)))
unmoved p t1 t2 (Conflict k) h s f loud calm = calm k (h.0, subst (λ (z : List Step). slice_get z k ≡ Some h.0) s h.1, subst (λ (z : List Fact). AreHeld z (says p h.0)) f h.2)

-- what a decision, and a backjump, leave with what follows
pub record IsDecided (p : Plain) (t u : Track) : Type 0 where
  pub state : IsState p u
  pub falls : measure_of (sizes_of p) u.facts < measure_of (sizes_of p) t.facts
  pub more : List Fact
  pub facts : u.facts ≡ t.facts ++ more
  pub top : level_of u.facts ≡ level_of t.facts + 1
  pub same : (l : ℕ) → l < level_of t.facts + 1 → up_to l u.facts ≡ up_to l t.facts

pub record IsBack (p : Plain) (t u : Track) (level : ℕ) (learned : List Step) : Type 0 where
  pub state : IsState p u
  pub falls : measure_of (sizes_of p) u.facts < measure_of (sizes_of p) t.facts
  pub steps : u.steps ≡ t.steps ++ learned
  pub grown : (more : List Fact) × (u.facts ≡ up_to level t.facts ++ more)
  pub top : level_of u.facts ≡ level
  pub same : (l : ℕ) → l < level → up_to l u.facts ≡ up_to l t.facts

-- propagation behind steps that were opened, or at the beginning
pub followed_state : (p : Plain) (t t2 : Track) → IsState p t → IsTrailOf p t2 → t2.steps ≡ t.steps → HasGrown p t.facts t2.facts → IsState p t2 × (level_of t2.facts ≡ level_of t.facts) × ((l : ℕ) → l < level_of t.facts → up_to l t2.facts ≡ up_to l t.facts)
followed_state p t t2 st k2 s2 g =
    let m : ℕ = level_of t.facts in
    let all_at : AreAt m g.0 = new_at p m t.facts g.0 g.2 in
    let below_level : level_of g.0 ≤ m = level_of-at m g.0 all_at in
    let top : level_of t2.facts ≡ m = ap level_of g.1 ∙ (level_of-append t.facts g.0 ∙ (omega (arith, below_level))) in
    let same : (l : ℕ) → l < m → up_to l t2.facts ≡ up_to l t.facts = λ l h.
    ap (up_to l) g.1 ∙ (up_to-append l t.facts g.0 ∙ (rw (up_to-later l m g.0 all_at h) (append-nil (up_to l t.facts)))) in (
      record {
        right = k2;
        pythons = subst (HasPythons p) (sym s2) st.pythons;
        steered = subst (IsSteered p []) (sym g.1) (steered_join p [] t.facts g.0 st.steered (steered_new p m t.facts t.facts g.0 (level_counted p [] t.facts st.steered) g.2));
        reached = reached_from t.facts t2.facts m st.reached same (omega arith) top;
        below = λ l h k c.
            (let low : l < m = omega (arith, top) in
            st.below l low k (c.0, ap (λ (z : List Step). slice_get z k) (sym s2) ∙ c.1, subst (λ (z : List Fact). AreHeld z (says p c.0)) (same l low) c.2));
        bounded = (let b = st.bounded in omega (arith, top));
      },
      top,
      same,
    )

-- a backjump
pub backward_kept : (p : Plain) (t t1 t2 : Track) (level : ℕ) (learned : List Step)
    → IsState p t → IsBackjump p t level learned → t1.steps ≡ t.steps ++ learned → t1.facts ≡ up_to level t.facts
    → IsTrailOf p t2 → t2.steps ≡ t1.steps → HasGrown p t1.facts t2.facts → (g : Progress) → IsProgress p t2 g → IsBack p t t2 level learned
backward_kept p t t1 t2 level learned st jump s1 f1 k2 s2 g2 g progress =
    let front : List Fact = up_to level t.facts in
    let at_level : level_of front ≡ level = st.reached level (omega (arith, jump.lower)) in
    let grown : HasGrown p front t2.facts = subst (λ (z : List Fact). HasGrown p z t2.facts) f1 g2 in
    let steps : t2.steps ≡ t.steps ++ learned = s2 ∙ s1 in
    let loud : IsQuiet p t1 → ⊥ = λ q.
    (let d = jump.derives in
    let place : ℕ = length (t.steps ++ d.front) in
    let all : t1.steps ≡ (t.steps ++ d.front) ++ d.step ∷ [] = s1 ∙ (ap (λ (z : List Step). t.steps ++ z) d.last ∙ sym (append_assoc t.steps d.front (d.step ∷ []))) in
    let at : slice_get t1.steps place ≡ Some d.step = subst (λ (z : List Step). slice_get z place ≡ Some d.step) (sym all) (get_last (t.steps ++ d.front) d.step) in
    let fails = (q place d.step at).1 d.term (subst (λ (z : List Fact). AreHeldBut z d.term (says p d.step)) (sym f1) d.but) in
    d.possible (subst (λ (z : List Fact). IsFailed z d.term) f1 fails)) in
    let calm : NoConflict p t1 = λ k c.
    (let held : AreHeld front (says p c.0) = subst (λ (z : List Fact). AreHeld z (says p c.0)) f1 c.2 in
    let at : slice_get (t.steps ++ learned) k ≡ Some c.0 = ap (λ (z : List Step). slice_get z k) (sym s1) ∙ c.1 in
    elim (get_cases t.steps learned c.0 k at) [
      | inl e ↦ st.below level jump.lower k (c.0, e, held)
      | inr e ↦ jump.calm e.0 c.0 e.1 held
    ]) in
    let moved : t2.facts ≡ front → ⊥ = λ e. unmoved p t1 t2 g progress s2 (e ∙ sym f1) loud calm in
    let new : AreNewAfter p level front grown.0 = subst (λ (m : ℕ). AreNewAfter p m front grown.0) at_level grown.2 in
    let all_at : AreAt level grown.0 = new_at p level front grown.0 new in
    let below_level : level_of grown.0 ≤ level = level_of-at level grown.0 all_at in
    let top : level_of t2.facts ≡ level = ap level_of grown.1 ∙ (level_of-append front grown.0 ∙ (omega (arith, at_level, below_level))) in
    let same : (l : ℕ) → l < level → up_to l t2.facts ≡ up_to l t.facts = λ l h.
    ap (up_to l) grown.1 ∙ (up_to-append l front grown.0 ∙ (rw (up_to-later l level grown.0 all_at h) (append-nil (up_to l front) ∙ up_to-up_to l level t.facts (omega arith)))) in
    let near : level ≤ suc (level_of t.facts) = omega (arith, jump.lower) in
    let room : level ≤ length p.nodes = omega (arith, jump.lower, st.bounded) in
    let low : level_number (sizes_of p) t2.facts level level < level_number (sizes_of p) t.facts (level_of t.facts) level =
    (let e : nat_le level level ≡ true = le-leb level level (omega arith) in
    let f : nat_le level (level_of t.facts) ≡ true = le-leb level (level_of t.facts) (omega (arith, jump.lower)) in
    let g : up_to level t2.facts ≡ front ++ grown.0 = up_to-all level t2.facts (omega (arith, top)) ∙ grown.1 in
    rw (e, f, g) (some_new p level front grown.0 new (λ none. moved (grown.1 ∙ (ap (λ (z : List Fact). front ++ z) none ∙ append-nil front))))) in
    let first = front_of level 0 t.facts st.right.follow.levels in
    let steered_front : IsSteered p [] front = steered_left p [] front first.0 (subst (IsSteered p []) first.1 st.steered) in
    let steered : IsSteered p [] t2.facts = subst (IsSteered p []) (sym grown.1)
    (steered_join p [] front grown.0 steered_front (steered_new p level front front grown.0 (omega (arith, at_level, level_counted p [] front steered_front)) new)) in
    record {
      state = record {
        right = k2;
        pythons = subst (HasPythons p) (sym steps) (pythons_more p t.steps learned st.pythons);
        steered = steered;
        reached = reached_from t.facts t2.facts level st.reached same near top;
        below = λ l h k c.
            (let l_low : l < level = omega (arith, top) in
            let held : AreHeld (up_to l t.facts) (says p c.0) = subst (λ (z : List Fact). AreHeld z (says p c.0)) (same l l_low) c.2 in
            let at : slice_get (t.steps ++ learned) k ≡ Some c.0 = ap (λ (z : List Step). slice_get z k) (sym steps) ∙ c.1 in
            elim (get_cases t.steps learned c.0 k at) [
              | inl e ↦ st.below l (omega (arith, jump.lower)) k (c.0, e, held)
              | inr e ↦ jump.calm e.0 c.0 e.1 (held_within front (up_to l t.facts) (says p c.0) (up_to_within l level 0 t.facts st.right.follow.levels (omega arith)) held)
            ]);
        bounded = omega (arith, top, room);
      };
      falls = measure_falls (sizes_of p) t2.facts t.facts level same near top (let z = sizes_length p.nodes in omega arith) low;
      steps = steps;
      grown = (grown.0, grown.1);
      top = top;
      same = same;
    }
  where
    some_new : (p : Plain) (m : ℕ) (front more : List Fact) → AreNewAfter p m front more → (more ≡ [] → ⊥) → open_in (sizes_of p) (front ++ more) < open_in (sizes_of p) front
    some_new p m front [] h n = absurd (n refl)
    some_new p m front (f ∷ fs) h n = new_lowers (sizes_of p) front f fs (fresh_from_new p front f.term h.2)

-- a decision
pub forward_kept : (p : Plain) (t t1 t2 : Track) (n v : ℕ)
    → IsState p t → IsQuiet p t → level_of t.facts < length p.nodes → next_of p (picks_of t.facts) ≡ Some n → v < size_of p n → IsFirstOpen p t.facts n v → t1.steps ≡ t.steps → t1.facts ≡ t.facts ++ decision_at p t.facts n v ∷ []
    → IsTrailOf p t2 → t2.steps ≡ t1.steps → HasGrown p t1.facts t2.facts → IsDecided p t t2
forward_kept p t t1 t2 n v st quiet room next below first s1 f1 k2 s2 g2 =
    let m : ℕ = level_of t.facts + 1 in
    let fact : Fact = record { term = In n (one_of (size_of p n) v); level = m; cause = None } in
    let steps : t2.steps ≡ t.steps = s2 ∙ s1 in
    let grown : HasGrown p (t.facts ++ fact ∷ []) t2.facts = subst (λ (z : List Fact). HasGrown p z t2.facts) f1 g2 in
    let at_level : level_of (t.facts ++ fact ∷ []) ≡ m = level_of-append t.facts (fact ∷ []) ∙ (omega arith) in
    let new : AreNewAfter p m (t.facts ++ fact ∷ []) grown.0 = subst (λ (k : ℕ). AreNewAfter p k (t.facts ++ fact ∷ []) grown.0) at_level grown.2 in
    let more : List Fact = fact ∷ grown.0 in
    let facts : t2.facts ≡ t.facts ++ more = grown.1 ∙ append_assoc t.facts (fact ∷ []) grown.0 in
    let all_at : AreAt m more = (refl, new_at p m (t.facts ++ fact ∷ []) grown.0 new) in
    let below_level : level_of more ≤ m = level_of-at m more all_at in
    let top : level_of t2.facts ≡ m = ap level_of facts ∙ (level_of-append t.facts more ∙ (omega (arith, below_level))) in
    let same : (l : ℕ) → l < m → up_to l t2.facts ≡ up_to l t.facts = λ l h.
    ap (up_to l) facts ∙ (up_to-append l t.facts more ∙ (rw (up_to-later l m more all_at h) (append-nil (up_to l t.facts)))) in
    let near : m ≤ suc (level_of t.facts) = omega arith in
    let fits : m ≤ length p.nodes = omega arith in
    let low : level_number (sizes_of p) t2.facts m m < level_number (sizes_of p) t.facts (level_of t.facts) m =
    (let e : nat_le m m ≡ true = le-leb m m (omega arith) in
    let f : nat_le m (level_of t.facts) ≡ false = lt-leb m (level_of t.facts) (omega arith) in
    let h : open_in (sizes_of p) (up_to m t2.facts) ≤ open_in (sizes_of p) [] = open_le (sizes_of p) (up_to m t2.facts) [] (length (sizes_of p)) (λ k o i. refl) in
    rw (e, f) (omega arith)) in
    let is_first : first_of (one_of (size_of p n) v) ≡ v = one_first (size_of p n) v below in
    let chosen : IsChosen p t.facts (In n (one_of (size_of p n) v)) None = (next, subst (λ (w : ℕ). IsFirstOpen p t.facts n w) (sym is_first) first) in
    let counted : m ≤ length (picks_of (t.facts ++ fact ∷ [])) = (let e = ap length (picks_append t.facts (fact ∷ [])) ∙ length-append (picks_of t.facts) ((n, first_of (one_of (size_of p n) v)) ∷ []) in let i = level_counted p [] t.facts st.steered in omega (arith, e, i)) in
    let steered : IsSteered p [] t2.facts = subst (IsSteered p []) (sym facts) (steered_join p [] t.facts more st.steered (chosen, counted, steered_new p m (t.facts ++ fact ∷ []) (t.facts ++ fact ∷ []) grown.0 counted new)) in
    record {
      state = record {
        right = k2;
        pythons = subst (HasPythons p) (sym steps) st.pythons;
        steered = steered;
        reached = reached_from t.facts t2.facts m st.reached same near top;
        below = λ l h k c.
            (let l_low : l < m = omega (arith, top) in
            let held : AreHeld (up_to l t.facts) (says p c.0) = subst (λ (z : List Fact). AreHeld z (says p c.0)) (same l l_low) c.2 in
            let at : slice_get t.steps k ≡ Some c.0 = ap (λ (z : List Step). slice_get z k) (sym steps) ∙ c.1 in
            elim (cases_lt l (level_of t.facts)) [
              | inl less ↦ st.below l less k (c.0, at, held)
              | inr last ↦ (let all : up_to l t.facts ≡ t.facts = up_to-all l t.facts last in (quiet k c.0 at).0 (subst (λ (z : List Fact). AreHeld z (says p c.0)) all held))
            ]);
        bounded = omega (arith, top);
      };
      falls = measure_falls (sizes_of p) t2.facts t.facts m same near top (let z = sizes_length p.nodes in omega arith) low;
      more = more;
      facts = facts;
      top = top;
      same = same;
    }
