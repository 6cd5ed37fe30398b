-- What a finished trail shows is the best.
use Rattle.std.proofs.Common.{◌≡◌, ℕ, List, [], ◌∷◌, ◌++◌, Option, Some, None, refl, ap, ◌∙◌, sym, subst, append_assoc}
use Rattle.std.proofs.lemmas.List.{append-nil}
use Rattle.ul_problem.specs.Terms.{node_of, set_of}
use Rattle.ul_problem.specs.Plain.{Plain}
use Rattle.ul_problem.specs.Problems.{IsWellFormed}
use Rattle.ul_problem.specs.Best.{Picks, next_of, Agrees, IsTrailed, IsChain, IsBest, version_in}
use Rattle.ul_problem.specs.declared.term.Term.{Term}
use Rattle.ul_trail.specs.Track.{Track}
use Rattle.ul_trail.specs.declared.fact.Fact.{Fact}
use Rattle.ul_trail.specs.Facts.{picks_of, pick_with, first_of}
use Rattle.ul_trail.specs.Propagation.{IsTrailOf, NoConflict}
use Rattle.ul_trail.proofs.ForCallers.{excluded_passed, finished_serves}
use Rattle.ul_solver.specs.State.{IsSteered, IsChosen, IsState}
use Rattle.ul_problem.proofs.ForCallers.{trailed_best, agrees_more, best_serves, not_decided}
use Rattle.ul_trail.specs.Moves.{HasSteps}
use Rattle.ul_solver.specs.Turns.{IsFinished}
use Rattle.ul_solver.specs.Headline.{IsBestShown}

pick_append : (c : Option ℕ) (t : Term) (a b rest : Picks) → a ≡ b ++ rest → pick_with c t a ≡ pick_with c t b ++ rest
pick_append None t a b rest e = ap (λ (l : Picks). (node_of t, first_of (set_of t)) ∷ l) e
pick_append (Some c) t a b rest e = e

pub picks_append : (xs ys : List Fact) → picks_of (xs ++ ys) ≡ picks_of xs ++ picks_of ys
picks_append [] ys = refl
picks_append (f ∷ xs) ys = pick_append f.cause f.term (picks_of (xs ++ ys)) (picks_of xs) (picks_of ys) (picks_append xs ys)

-- a steered trail, fact by fact
one_trailed : (p : Plain) (t : Track) (front fs : List Fact) (f : Fact) (c : Option ℕ) → f.cause ≡ c → IsTrailOf p t → t.facts ≡ front ++ f ∷ fs → IsChosen p front f.term c → IsTrailed p (picks_of (front ++ f ∷ [])) (picks_of fs) → IsTrailed p (picks_of front) (pick_with c f.term (picks_of fs))
one_trailed p t front fs f (Some c) e w facts chosen rest =
    let same : picks_of (front ++ f ∷ []) ≡ picks_of front = picks_append front (f ∷ []) ∙ (ap (λ (d : Option ℕ). picks_of front ++ pick_with d f.term []) e ∙ append-nil (picks_of front)) in
    subst (λ (l : Picks). IsTrailed p l (picks_of fs)) same rest
one_trailed p t front fs f None e w facts chosen rest =
    let same : picks_of (front ++ f ∷ []) ≡ picks_of front ++ (node_of f.term, first_of (set_of f.term)) ∷ [] = picks_append front (f ∷ []) ∙ ap (λ (d : Option ℕ). picks_of front ++ pick_with d f.term []) e in (
      chosen.0,
      (chosen.1.0, chosen.1.1, λ j v low at. excluded_passed p t front (f ∷ fs) (node_of f.term) v w.follow facts (chosen.1.2 j v low at)),
      subst (λ (l : Picks). IsTrailed p l (picks_of fs)) same rest,
    )

steered_trailed : (p : Plain) (t : Track) (front rest : List Fact) → IsTrailOf p t → t.facts ≡ front ++ rest → next_of p (picks_of t.facts) ≡ None → IsSteered p front rest → IsTrailed p (picks_of front) (picks_of rest)
steered_trailed p t front [] w facts end s = subst (λ (l : List Fact). next_of p (picks_of l) ≡ None) (facts ∙ append-nil front) end
steered_trailed p t front (f ∷ fs) w facts end s =
    one_trailed p t front fs f f.cause refl w facts s.0
    (steered_trailed p t (front ++ f ∷ []) fs w (facts ∙ sym (append_assoc front (f ∷ []) fs)) end s.2)

trailed_chain : (p : Plain) (d rest : Picks) → IsTrailed p d rest → IsChain p d rest
trailed_chain p d [] h = tt
trailed_chain p d (e ∷ rest) h = (h.0, trailed_chain p (d ++ e ∷ []) rest h.2)

-- the map of a chain agrees with it
chain_agrees : (p : Plain) (d rest : Picks) → IsChain p d rest → Agrees (version_in d) d → Agrees (version_in (d ++ rest)) (d ++ rest)
chain_agrees p d [] c a = subst (λ (l : Picks). Agrees (version_in l) l) (sym (append-nil d)) a
chain_agrees p d (e ∷ rest) c a = subst (λ (l : Picks). Agrees (version_in l) l) (append_assoc d (e ∷ []) rest) (chain_agrees p (d ++ e ∷ []) rest c.1 (agrees_more d e (not_decided p d e.0 c.0) a))

pub finished_best : (p : Plain) (t : Track) → IsWellFormed p → IsState p t → HasSteps p (picks_of t.facts) t.steps → next_of p (picks_of t.facts) ≡ None → NoConflict p t → IsBest p (picks_of t.facts)
finished_best p t wf st held end calm =
    let trailed : IsTrailed p [] (picks_of t.facts) = steered_trailed p t [] t.facts st.right refl end st.steered in
    let chain : IsChain p [] (picks_of t.facts) = trailed_chain p [] (picks_of t.facts) trailed in
    trailed_best p [] (picks_of t.facts) (version_in (picks_of t.facts))
    (finished_serves p t wf st.right held calm chain end)
    (chain_agrees p [] (picks_of t.facts) chain tt) trailed

pub finished_answer : (p : Plain) (before now : Track) (picks : Picks) → IsWellFormed p → IsState p before → IsFinished p before now → picks ≡ picks_of now.facts → IsBestShown p picks now
finished_answer p before now picks wf st e shown =
    let same : picks ≡ picks_of before.facts = shown ∙ ap (λ (t : Track). picks_of t.facts) e.same in
    let best : IsBest p (picks_of before.facts) = finished_best p before wf st e.held e.end e.calm in
    let there : IsBestShown p (picks_of before.facts) before = record {
      best = best;
      serves = best_serves p (picks_of before.facts) wf best;
      right = st.right;
      held = e.held;
      shown = refl;
      steered = st.steered;
      end = e.end;
      calm = e.calm;
    } in
    subst (λ (t : Track). IsBestShown p picks t) (sym e.same) (subst (λ (l : Picks). IsBestShown p l before) (sym same) there)
