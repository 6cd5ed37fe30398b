-- The measure falls, and opened versions are kept, over the turns.
use Rattle.std.proofs.Common.{◌≡◌, ℕ, suc, ◌+◌, ◌*◌, ◌^◌, List, ◌++◌, [], ◌∷◌, Bool, true, false, cond, nat_le, Some, None, inl, inr, refl, ap, ◌∙◌, sym, subst, ◌<◌, ◌≤◌, arith, length, slice_get, slice_set, take}
use Rattle.std.proofs.lemmas.Bool.{true≢false}
use Rattle.std.proofs.lemmas.List.{length-set, length-append}
use Rattle.ul_problem.specs.Plain.{Plain, size_of}
use Rattle.ul_problem.specs.Steps.{says}
use Rattle.ul_problem.specs.declared.step.Step.{Step}
use Rattle.ul_problem.specs.declared.term.Term.TheVariants.{In}
use Rattle.ul_problem.proofs.ForCallers.{place_one}
use Rattle.ul_trail.specs.Track.{Track}
use Rattle.ul_trail.specs.declared.fact.Fact.{Fact}
use Rattle.ul_trail.specs.Counts.{open_in, levels_of, level_numbers, sizes_of, AreReached}
use Rattle.ul_trail.specs.Facts.{IsHeld, AreHeld, one_of, picks_of, level_of, up_to}
use Rattle.ul_trail.specs.First.{steps_for}
use Rattle.ul_trail.specs.Moves.{HasPythons, HasSteps}
use Rattle.ul_trail.specs.Propagation.{IsTrailOf, HasGrown, IsQuiet}
use Rattle.ul_trail.proofs.ForCallers.{get_cases, pythons_more, front_of, take_front, take_whole, level_of-append, up_to-append, up_to-later}
use Rattle.ul_conflict.specs.Headline.{IsBackjump}
use Rattle.ul_solver.specs.Measure.{number_of}
use Rattle.ul_solver.specs.Opened.{AreLooked, AreOpened, IsOpened, all_closed, is_opened}
use Rattle.ul_solver.specs.State.{IsState, IsSteered, measure_bound, measure_of, measure_with}
use Rattle.ul_problem.specs.Best.{next_of}
use Rattle.ul_trail.specs.Certain.{IsCertainAt}
use Rattle.ul_trail.specs.Headline.{IsPropagated}
use Rattle.ul_trail.specs.declared.fact.Progress.{Progress}
use Rattle.ul_solver.specs.Turns.{HasOpened, HasWidened, IsFinished, IsFollowed, IsLook, IsLookedOver, IsMove, IsWider}
use Rattle.ul_solver.specs.declared.opened.Opened.{Opened}
use Rattle.ul_solver.proofs.Falling.{all_below, all_long}
use Rattle.ul_solver.proofs.MeasureLaws.{lower_first, number_below}
use Rattle.ul_solver.proofs.Opening.{IsRowWith, below_opened, fact_at, looked_none, looked_one, picks_held, step_first, row_less, row_more, row_there, rows_opened, opened_more, looked_more, up_to_length}
use Rattle.ul_solver.proofs.States.{followed_state}

-- ---- the measure

pub measure_bounded : (sizes : List ℕ) (facts : List Fact) → measure_of sizes facts < measure_bound sizes
unfolding measure_of measure_bound
measure_bounded sizes facts =
    let b = number_below (open_in sizes [] + 2) (levels_of sizes facts) (all_below sizes facts (level_of facts) (suc (length sizes)) 0) in
    subst (λ (k : ℕ). number_of (open_in sizes [] + 2) (levels_of sizes facts) < (open_in sizes [] + 2) ^ k) (all_long sizes facts (level_of facts) (suc (length sizes)) 0) b

-- fewer versions aren't opened
pub fewer_falls : (sizes : List ℕ) (rows now : List (List Bool)) (before after : List Fact) → all_closed now < all_closed rows → measure_with now sizes after < measure_with rows sizes before
fewer_falls sizes rows now before after h = lower_first (all_closed now) (all_closed rows) (measure_bound sizes) (measure_of sizes after) (measure_of sizes before) h (measure_bounded sizes after)

add_falls : (a x y : ℕ) → x < y → a + x < a + y
add_falls a x y h = omega arith

-- as many aren't, and the facts' measure falls
pub facts_fall : (sizes : List ℕ) (rows : List (List Bool)) (before after : List Fact) → measure_of sizes after < measure_of sizes before → measure_with rows sizes after < measure_with rows sizes before
facts_fall sizes rows before after h = add_falls (all_closed rows * measure_bound sizes) (measure_of sizes after) (measure_of sizes before) h

-- ---- steps of a version

pub opened_state : (p : Plain) (t u : Track) (rows : List (List Bool)) (k n v : ℕ) → IsState p t → AreLooked p t rows k → is_opened rows n v ≡ false → v < size_of p n → IsTrailOf p u → u.steps ≡ t.steps ++ steps_for p n v → u.facts ≡ t.facts → IsState p u
opened_state p t u rows k n v st looked closed small kept s f = record {
  right = kept;
  pythons = subst (HasPythons p) (sym s) (pythons_more p t.steps (steps_for p n v) st.pythons);
  steered = subst (IsSteered p []) (sym f) st.steered;
  reached = subst AreReached (sym f) st.reached;
  below = λ l low j c.
      (let low' : l < level_of t.facts = subst (λ (fs : List Fact). l < level_of fs) f low in
      let held : AreHeld (up_to l t.facts) (says p c.0) = subst (λ (fs : List Fact). AreHeld (up_to l fs) (says p c.0)) f c.2 in
      let at : slice_get (t.steps ++ steps_for p n v) j ≡ Some c.0 = ap (λ (z : List Step). slice_get z j) (sym s) ∙ c.1 in
      elim (get_cases t.steps (steps_for p n v) c.0 j at) [
        | inl e ↦ st.below l low' j (c.0, e, held)
        | inr e ↦ (let first = step_first p (up_to l t.facts) n v c.0 small (place_one (steps_for p n v) e.0 c.0 e.1) held in
            true≢false (sym (below_opened p t rows k l n v st.right looked (looked.lower l low') small first) ∙ closed))
      ]);
  bounded = subst (λ (fs : List Fact). level_of fs ≤ length p.nodes) (sym f) st.bounded;
}

-- what is known where a version's steps are held
pub version_opened : (p : Plain) (t u : Track) (o q : Opened) (n v : ℕ) (row : List Bool) → IsState p t → IsOpened p t o → is_opened o.versions.items n v ≡ false → IsRowWith p o.versions.items n v row
    → IsTrailOf p u → u.steps ≡ t.steps ++ steps_for p n v → u.facts ≡ t.facts
    → q.versions.items ≡ slice_set o.versions.items n row → q.looked ≡ o.looked → q.counts.items ≡ o.counts.items → HasOpened p t o n v u q
version_opened p t u o q n v row st opened closed r kept s f rows looked counts =
    let are = opened.are in
    let less : all_closed q.versions.items < all_closed o.versions.items = subst (λ (x : List (List Bool)). all_closed x < all_closed o.versions.items) (sym rows) (row_less p t.steps o.versions.items n v row are r closed) in
    let more : (m w : ℕ) → is_opened o.versions.items m w ≡ true → is_opened q.versions.items m w ≡ true = λ m w h. subst (λ (x : List (List Bool)). is_opened x m w ≡ true) (sym rows) (row_more p t.steps o.versions.items n v row are r m w h) in
    record {
      widened = record {
        wider = record {
          state = opened_state p t u o.versions.items o.looked n v st opened.looked closed r.small kept s f;
          opened = record {
            are = subst (AreOpened p u.steps) (sym rows) (rows_opened p t.steps u.steps o.versions.items n v row are r s);
            looked = subst (AreLooked p u q.versions.items) (sym looked) (looked_more p t u o.versions.items q.versions.items o.looked opened.looked f more);
            counts = ap (λ (x : List ℕ). length x) counts ∙ opened.counts;
          };
          facts = f;
          fewer = omega (arith, less);
        };
        looked = looked;
        more = more;
      };
      there = subst (λ (x : List (List Bool)). is_opened x n v ≡ true) (sym rows) (row_there p t.steps o.versions.items n v row are r);
      less = less;
    }

-- two runs of opening, one after the other
pub wider_join : (p : Plain) (t u x : Track) (o q s : Opened) → IsWider p t o u q → IsWider p u q x s → IsWider p t o x s
wider_join p t u x o q s a b = record {
  state = b.state;
  opened = b.opened;
  facts = b.facts ∙ a.facts;
  fewer = (let i = a.fewer in let j = b.fewer in omega arith);
}

pub wider_none : (p : Plain) (t : Track) (o : Opened) → IsState p t → IsOpened p t o → IsWider p t o t o
wider_none p t o st opened = record { state = st; opened = opened; facts = refl; fewer = omega arith }

-- no version, one, and those behind it
pub widened_none : (p : Plain) (t : Track) (o : Opened) → IsState p t → IsOpened p t o → HasWidened p t o t o
widened_none p t o st opened = record { wider = wider_none p t o st opened; looked = refl; more = λ m w h. h }

pub widened_join : (p : Plain) (t u x : Track) (o q s : Opened) → HasWidened p t o u q → HasWidened p u q x s → HasWidened p t o x s
widened_join p t u x o q s a b = record {
  wider = wider_join p t u x o q s a.wider b.wider;
  looked = b.looked ∙ a.looked;
  more = λ m w h. b.more m w (a.more m w h);
}

-- other counts
widened_counts : (p : Plain) (t x : Track) (o s z : Opened) → HasWidened p t o x s → z.versions.items ≡ s.versions.items → z.looked ≡ s.looked → length z.counts.items ≡ length s.counts.items → HasWidened p t o x z
widened_counts p t x o s z h rows looked counts = record {
  wider = record {
    state = h.wider.state;
    opened = record {
      are = subst (AreOpened p x.steps) (sym rows) h.wider.opened.are;
      looked = subst (λ (k : ℕ). AreLooked p x z.versions.items k) (sym looked) (subst (λ (r : List (List Bool)). AreLooked p x r s.looked) (sym rows) h.wider.opened.looked);
      counts = counts ∙ h.wider.opened.counts;
    };
    facts = h.wider.facts;
    fewer = subst (λ (r : List (List Bool)). all_closed r ≤ all_closed o.versions.items) (sym rows) h.wider.fewer;
  };
  looked = looked ∙ h.looked;
  more = subst (λ (r : List (List Bool)). (m w : ℕ) → is_opened o.versions.items m w ≡ true → is_opened r m w ≡ true) (sym rows) h.more;
}

pub block_opened : (p : Plain) (t u x : Track) (o q s z : Opened) (n v : ℕ) → HasOpened p t o n v u q → HasWidened p u q x s → z.versions.items ≡ s.versions.items → z.looked ≡ s.looked → length z.counts.items ≡ length s.counts.items → HasOpened p t o n v x z
block_opened p t u x o q s z n v a b rows looked counts =
    let less = a.less in let fewer = b.wider.fewer in let i = ap all_closed rows in
    record {
      widened = widened_counts p t x o s z (widened_join p t u x o q s a.widened b) rows looked counts;
      there = subst (λ (r : List (List Bool)). is_opened r n v ≡ true) (sym rows) (b.more n v a.there);
      less = omega (arith, less, fewer, i);
    }

-- ---- propagation, a decision, a backjump

-- of facts that grow at the present level
pub followed_opened : (p : Plain) (t u : Track) (o : Opened) → IsOpened p t o → u.steps ≡ t.steps → HasGrown p t.facts u.facts → level_of u.facts ≡ level_of t.facts → ((l : ℕ) → l < level_of t.facts → up_to l u.facts ≡ up_to l t.facts) → IsOpened p u o
followed_opened p t u o opened s g top same = record {
  are = subst (λ (ss : List Step). AreOpened p ss o.versions.items) (sym s) opened.are;
  looked = record {
    within = (let w = opened.looked.within in let e = ap (λ (l : List Fact). length l) g.1 ∙ length-append t.facts g.0 in omega (arith, e));
    certain = λ n v small h. opened.looked.certain n v small (subst (λ (l : List Fact). IsHeld l (In n (one_of (size_of p n) v))) (ap (take o.looked) g.1 ∙ take_front t.facts g.0 o.looked opened.looked.within) h);
    lower = λ l low. (let low' : l < level_of t.facts = omega (arith, top) in let b = opened.looked.lower l low' in let e = ap (λ (x : List Fact). length x) (same l low') in omega (arith, b, e));
  };
  counts = opened.counts;
}

-- of a decision, where all facts are looked at
pub decided_opened : (p : Plain) (t u : Track) (o : Opened) (more : List Fact) → IsOpened p t o → o.looked ≡ length t.facts → u.steps ≡ t.steps → u.facts ≡ t.facts ++ more → level_of u.facts ≡ level_of t.facts + 1 → ((l : ℕ) → l < level_of t.facts + 1 → up_to l u.facts ≡ up_to l t.facts) → IsOpened p u o
decided_opened p t u o more opened all s f top same = record {
  are = subst (λ (ss : List Step). AreOpened p ss o.versions.items) (sym s) opened.are;
  looked = record {
    within = (let e = ap (λ (l : List Fact). length l) f ∙ length-append t.facts more in omega (arith, all, e));
    certain = λ n v small h. opened.looked.certain n v small (subst (λ (l : List Fact). IsHeld l (In n (one_of (size_of p n) v))) (ap (take o.looked) f ∙ take_front t.facts more o.looked opened.looked.within) h);
    lower = λ l low. (let e = ap (λ (x : List Fact). length x) (same l (omega (arith, top))) in let b = up_to_whole l t.facts in omega (arith, all, b, e));
  };
  counts = opened.counts;
}
  where
    up_to_whole : (l : ℕ) (fs : List Fact) → length (up_to l fs) ≤ length fs
    up_to_whole l [] = omega arith
    up_to_whole l (x ∷ fs) = longest (nat_le x.level l) x (up_to l fs) fs (up_to_whole l fs)
      where
        longest : (b : Bool) (y : Fact) (xs ys : List Fact) → length xs ≤ length ys → length (cond b (y ∷ xs) xs) ≤ suc (length ys)
        longest true y xs ys h = omega arith
        longest false y xs ys h = omega arith

-- of a backjump
pub back_opened : (p : Plain) (t u : Track) (o q : Opened) (level : ℕ) (learned : List Step) → IsState p t → IsOpened p t o → level < level_of t.facts → u.steps ≡ t.steps ++ learned → (g : (more : List Fact) × (u.facts ≡ up_to level t.facts ++ more)) → level_of u.facts ≡ level
    → ((l : ℕ) → l < level → up_to l u.facts ≡ up_to l t.facts) → q.versions.items ≡ o.versions.items → length q.counts.items ≡ length o.counts.items → q.looked ≡ length (up_to level t.facts) → IsOpened p u q
back_opened p t u o q level learned st opened lower s g top same rows counts looked = record {
  are = subst (AreOpened p u.steps) (sym rows) (opened_more p t.steps learned u.steps o.versions.items opened.are s);
  looked = subst (λ (x : List (List Bool)). AreLooked p u x q.looked) (sym rows) (record {
    within = (let e = ap (λ (l : List Fact). length l) g.1 ∙ length-append (up_to level t.facts) g.0 in omega (arith, looked, e));
    certain = λ n v small h. below_opened p t o.versions.items o.looked level n v st.right opened.looked (opened.looked.lower level lower) small
        (subst (λ (l : List Fact). IsHeld l (In n (one_of (size_of p n) v))) (ap (take q.looked) g.1 ∙ (take_front (up_to level t.facts) g.0 q.looked (omega (arith, looked)) ∙ (ap (λ (k : ℕ). take k (up_to level t.facts)) looked ∙ take_whole (up_to level t.facts)))) h);
    lower = λ l low. (let low' : l < level = omega (arith, top) in let e = ap (λ (x : List Fact). length x) (same l low') in let b = up_to_length l level t.facts (omega arith) in omega (arith, looked, b, e));
  });
  counts = counts ∙ opened.counts;
}

-- ---- looks

looked_at : (p : Plain) (t : Track) (rows : List (List Bool)) (k place : ℕ) → AreLooked p t rows k → k ≡ place → AreLooked p t rows place
looked_at p t rows k place h e = subst (AreLooked p t rows) e h

-- at a fact of whose node nothing is certain
pub look_none : (p : Plain) (t : Track) (o q : Opened) (place : ℕ) → IsState p t → IsOpened p t o → o.looked ≡ place → place < length t.facts → IsCertainAt p t.facts place None
    → q.versions.items ≡ o.versions.items → q.counts.items ≡ o.counts.items → q.looked ≡ place + 1 → IsLook p t o t q (place + 1) false
look_none p t o q place st opened next there none rows counts looked =
    let f = fact_at t.facts place there in record {
      wider = record {
        state = st;
        opened = record {
          are = subst (AreOpened p t.steps) (sym rows) opened.are;
          looked = subst (λ (k : ℕ). AreLooked p t q.versions.items k) (sym looked) (subst (λ (x : List (List Bool)). AreLooked p t x (place + 1)) (sym rows)
              (looked_none p t o.versions.items place f.0 (looked_at p t o.versions.items o.looked place opened.looked next) f.1 there none));
          counts = ap (λ (x : List ℕ). length x) counts ∙ opened.counts;
        };
        facts = refl;
        fewer = (let e = ap all_closed rows in omega (arith, e));
      };
      looked = looked;
      opening = refl;
    }

-- at one of whose node an opened version is
pub look_has : (p : Plain) (t : Track) (o q : Opened) (place n v : ℕ) → IsState p t → IsOpened p t o → o.looked ≡ place → place < length t.facts → IsCertainAt p t.facts place (Some (n, v)) → is_opened o.versions.items n v ≡ true
    → q.versions.items ≡ o.versions.items → q.counts.items ≡ o.counts.items → q.looked ≡ place + 1 → IsLook p t o t q (place + 1) false
look_has p t o q place n v st opened next there one has rows counts looked =
    let f = fact_at t.facts place there in record {
      wider = record {
        state = st;
        opened = record {
          are = subst (AreOpened p t.steps) (sym rows) opened.are;
          looked = subst (λ (k : ℕ). AreLooked p t q.versions.items k) (sym looked) (subst (λ (x : List (List Bool)). AreLooked p t x (place + 1)) (sym rows)
              (looked_one p t o.versions.items place n v f.0 (looked_at p t o.versions.items o.looked place opened.looked next) f.1 there st.right.alive one has));
          counts = ap (λ (x : List ℕ). length x) counts ∙ opened.counts;
        };
        facts = refl;
        fewer = (let e = ap all_closed rows in omega (arith, e));
      };
      looked = looked;
      opening = refl;
    }

-- at one whose node's version is opened then
pub look_open : (p : Plain) (t u : Track) (o x q : Opened) (place n v : ℕ) → HasOpened p t o n v u x → o.looked ≡ place → place < length t.facts → IsCertainAt p t.facts place (Some (n, v))
    → q.versions.items ≡ x.versions.items → q.counts.items ≡ x.counts.items → q.looked ≡ place + 1 → IsLook p t o u q (place + 1) true
look_open p t u o x q place n v h next there one rows counts looked =
    let wider = h.widened.wider in
    let low : place < length u.facts = subst (λ (fs : List Fact). place < length fs) (sym wider.facts) there in
    let f = fact_at u.facts place low in
    let less = h.less in
    let e = ap all_closed rows in record {
      wider = record {
        state = wider.state;
        opened = record {
          are = subst (AreOpened p u.steps) (sym rows) wider.opened.are;
          looked = subst (λ (k : ℕ). AreLooked p u q.versions.items k) (sym looked) (subst (λ (y : List (List Bool)). AreLooked p u y (place + 1)) (sym rows)
              (looked_one p u x.versions.items place n v f.0 (looked_at p u x.versions.items x.looked place wider.opened.looked (h.widened.looked ∙ next)) f.1 low wider.state.right.alive (subst (λ (fs : List Fact). IsCertainAt p fs place (Some (n, v))) (sym wider.facts) one) h.there));
          counts = ap (λ (y : List ℕ). length y) counts ∙ wider.opened.counts;
        };
        facts = wider.facts;
        fewer = omega (arith, e, less);
      };
      looked = looked;
      opening = omega (arith, e, less);
    }

-- ---- turns

-- a version's steps, with those of the ones behind it, and what follows
pub widened : (p : Plain) (t u y : Track) (o q : Opened) (n v : ℕ) (g : Progress) → HasOpened p t o n v u q → IsPropagated p u y g → IsMove p t o y q g
widened p t u y o q n v g a e =
    let f = followed_state p u y a.widened.wider.state e.kept e.steps e.grown in
    record {
      state = f.0;
      opened = followed_opened p u y q a.widened.wider.opened e.steps e.grown f.1 f.2;
      progress = e.progress;
      falls = fewer_falls (sizes_of p) o.versions.items q.versions.items t.facts y.facts a.less;
    }

-- steps of certain versions, and what follows
pub looked_move : (p : Plain) (t u y : Track) (o q : Opened) (g : Progress) → IsLookedOver p t o u q true → IsFollowed p u y q g → IsMove p t o y q g
looked_move p t u y o q g a f = record {
  state = f.state;
  opened = f.opened;
  progress = f.progress;
  falls = fewer_falls (sizes_of p) o.versions.items q.versions.items t.facts y.facts a.1;
}

-- nothing was certain: the end, or a move from here
pub looked_end : (p : Plain) (t u : Track) (o q : Opened) → IsQuiet p t → IsLookedOver p t o u q false → next_of p (picks_of u.facts) ≡ None → IsFinished p t u
looked_end p t u o q quiet a none = record {
  same = a.1;
  end = ap (λ (x : Track). next_of p (picks_of x.facts)) (sym a.1) ∙ none;
  calm = λ k c. (quiet k c.0 c.1).0 c.2;
  held = subst (λ (x : Track). HasSteps p (picks_of x.facts) x.steps) a.1 (picks_held p u q.versions.items q.looked a.0.state a.0.opened.are a.0.opened.looked a.2);
}
