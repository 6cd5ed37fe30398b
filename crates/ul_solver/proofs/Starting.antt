-- The beginning of the solver's trail.
use Rattle.std.proofs.Common.{◌≡◌, ℕ, zero, suc, List, [], ◌∷◌, ◌++◌, false, Some, refl, ap, ◌∙◌, sym, subst, ◌<◌, inl, inr, arith, slice_get, get_or, length, take, append_assoc}
use Rattle.std.proofs.lemmas.Option.{none-some, same_Some, slice_get-get_or}
use Rattle.ul_problem.specs.Plain.{Plain, size_of, size_in, needs_of, order_of, order_in}
use Rattle.std.specs.List.{Contains}
use Rattle.ul_problem.specs.Problems.{IsWellFormed}
use Rattle.ul_problem.specs.Best.{Picks, next_of, first_open, is_decided, joined_needs, targets}
use Rattle.ul_problem.specs.declared.problem.Need.{Need}
use Rattle.ul_problem.proofs.ForCallers.{need_fits, root_single, at_node, node_whole, place_one, one_place, open_one, at_head, in_rest, head_or_rest, in_none, one_left, one_cases}
use Rattle.ul_trail.specs.Track.{Track}
use Rattle.ul_trail.specs.declared.fact.Fact.{Fact}
use Rattle.ul_trail.specs.Facts.{one_of, first_of, picks_of, level_of, up_to}
use Rattle.ul_trail.specs.Propagation.{IsTrailOf, HasGrown, AreNewAfter, root_facts}
use Rattle.ul_trail.specs.Moves.{HasPythons}
use Rattle.ul_trail.specs.Roots.{root_picks}
use Rattle.ul_trail.proofs.ForCallers.{take_front, take_whole, level_of-append, level_of-at, up_to-all, one_first, first_is, place_decided, root_undecided, root_there, roots_picks, facts_snoc, rooted_level}
use Rattle.ul_solver.specs.State.{IsState, IsSteered, IsFirstOpen}
use Rattle.ul_solver.proofs.States.{steered_join, steered_new, new_at}

-- the next node is one of the problem's
targets_within : (p : Plain) (needs : List Need) (n : ℕ) → ((need : Need) → Contains needs need → need.node < length p.nodes) → Contains (targets needs) n → n < length p.nodes
targets_within p [] n h i = absurd (in_none n i)
targets_within p (x ∷ xs) n h i = elim (head_or_rest x.node (targets xs) n i) [
  | inl e ↦ subst (λ (k : ℕ). k < length p.nodes) e (h x (at_head x xs x refl))
  | inr r ↦ targets_within p xs n (λ need j. h need (in_rest x xs need j)) r
]

wanted_within : (p : Plain) (d : Picks) (n : ℕ) → IsWellFormed p → Contains (joined_needs p d) n → n < length p.nodes
wanted_within p [] n wf h = absurd (in_none n h)
wanted_within p (e ∷ d) n wf h = elim (one_cases n (targets (needs_of p e.0 e.1)) (joined_needs p d) h) [
  | inl i ↦ targets_within p (needs_of p e.0 e.1) n (λ need j. (need_fits p e.0 e.1 need wf j).0) i
  | inr i ↦ wanted_within p d n wf i
]

pub next_within : (p : Plain) (d : Picks) (n : ℕ) → IsWellFormed p → next_of p d ≡ Some n → n < length p.nodes
next_within p d n wf e = elim (one_cases n p.roots (joined_needs p d) (open_one d (p.roots ++ joined_needs p d) n e)) [
  | inl i ↦ (let k = one_place p.roots n i in (root_there p k.0 n wf k.1).0)
  | inr i ↦ wanted_within p d n wf i
]

-- the roots are steered
get_at : (front back : List ℕ) (v : ℕ) → slice_get (front ++ v ∷ back) (length front) ≡ Some v
get_at [] back v = refl
get_at (x ∷ xs) back v = get_at xs back v

get_front : (xs ys : List ℕ) (k x : ℕ) → k < length xs → slice_get (xs ++ ys) k ≡ Some x → slice_get xs k ≡ Some x
get_front [] ys k x h e = absurd (omega arith)
get_front (z ∷ xs) ys zero x h e = e
get_front (z ∷ xs) ys (suc k) x h e = get_front xs ys k x (omega arith) e

picks_at : (ns : List ℕ) (i m : ℕ) → slice_get ns i ≡ Some m → slice_get (root_picks ns) i ≡ Some (m, 0)
picks_at [] i m e = absurd (none-some m e)
picks_at (n ∷ ns) zero m e = ap (λ (k : ℕ). Some (k, 0)) (same_Some n m e)
picks_at (n ∷ ns) (suc i) m e = picks_at ns i m e

zero_of : (k : ℕ) → k < 1 → k ≡ 0
zero_of k h = omega arith

first_order : (p : Plain) (n : ℕ) → IsWellFormed p → Contains p.roots n → slice_get (order_of p n) 0 ≡ Some 0
first_order p n wf i =
    let k = one_place p.roots n i in
    let r = root_there p k.0 n wf k.1 in
    let f = at_node p n r.0 in
    let w = node_whole p n f.0 wf f.1 in
    let es : length f.0.versions ≡ 1 = sym (ap size_in f.1) ∙ r.1 in
    let eo : order_of p n ≡ f.0.order = ap order_in f.1 in
    let lo = w.is_order.0 in
    let l : 0 < length f.0.order = omega arith in
    let b : get_or f.0.order 0 0 < length f.0.versions = w.is_order.1 0 0 l in
    ap (λ (x : List ℕ). slice_get x 0) eo ∙ (slice_get-get_or f.0.order 0 0 l ∙ ap Some (zero_of (get_or f.0.order 0 0) (omega arith)))

pub roots_steered : (p : Plain) (front rest : List ℕ) → IsWellFormed p → p.roots ≡ front ++ rest → IsSteered p (root_facts p front) (root_facts p rest)
roots_steered p front [] wf e = tt
roots_steered p front (n ∷ rest) wf e =
    let at : slice_get p.roots (length front) ≡ Some n = subst (λ (x : List ℕ). slice_get x (length front) ≡ Some n) (sym e) (get_at front rest n) in
    let one : Contains p.roots n = place_one p.roots (length front) n at in
    let single : (m : ℕ) → Contains front m → size_of p m ≡ 1 = (λ m i. root_single p m wf (subst (λ (x : List ℕ). Contains x m) (sym e) (one_left m front (n ∷ rest) i))) in
    let d : picks_of (root_facts p front) ≡ root_picks front = roots_picks p front single in
    let tf : take (length front) p.roots ≡ front = ap (take (length front)) e ∙ (take_front front (n ∷ rest) (length front) (omega arith) ∙ take_whole front) in
    let not' : is_decided n (root_picks front) ≡ false = subst (λ (x : List ℕ). is_decided n (root_picks x) ≡ false) tf (root_undecided p.roots (length front) n wf.roots_increase at) in
    let queue : List ℕ = p.roots ++ joined_needs p (root_picks front) in
    let eq : p.roots ++ joined_needs p (root_picks front) ≡ front ++ n ∷ (rest ++ joined_needs p (root_picks front)) = ap (λ (x : List ℕ). x ++ joined_needs p (root_picks front)) e ∙ append_assoc front (n ∷ rest) (joined_needs p (root_picks front)) in
    let there : slice_get (front ++ n ∷ (rest ++ joined_needs p (root_picks front))) (length front) ≡ Some n = get_at front (rest ++ joined_needs p (root_picks front)) n in
    let first : slice_get (front ++ n ∷ (rest ++ joined_needs p (root_picks front))) (length front) ≡ first_open (root_picks front) (front ++ n ∷ (rest ++ joined_needs p (root_picks front))) =
    first_is (front ++ n ∷ (rest ++ joined_needs p (root_picks front))) (root_picks front) (length front)
    (λ i m h g. place_decided m (root_picks front) i (m, 0) (picks_at front i m (get_front front (n ∷ (rest ++ joined_needs p (root_picks front))) i m h g)) refl)
    (λ m g. subst (λ (k : ℕ). is_decided k (root_picks front) ≡ false) (same_Some n m (sym there ∙ g)) not') in
    let next : next_of p (picks_of (root_facts p front)) ≡ Some n = ap (next_of p) d ∙ (ap (first_open (root_picks front)) eq ∙ (sym first ∙ there)) in
    let size = root_single p n wf one in
    let v : first_of (one_of (size_of p n) 0) ≡ 0 = one_first (size_of p n) 0 (omega arith) in
    let open' : IsFirstOpen p (root_facts p front) n 0 = (0, first_order p n wf one, (λ j w h. absurd (omega arith))) in (
      (next, subst (λ (k : ℕ). IsFirstOpen p (root_facts p front) n k) (sym v) open'),
      omega arith,
      subst (λ (l : List Fact). IsSteered p l (root_facts p rest)) (facts_snoc p front n) (roots_steered p (front ++ n ∷ []) rest wf (e ∙ sym (append_assoc front (n ∷ []) rest))),
    )

pub started_state : (p : Plain) (t : Track) → IsWellFormed p → IsTrailOf p t → t.facts ≡ root_facts p p.roots → HasPythons p t.steps → IsState p t
started_state p t wf w e h =
    let top : level_of t.facts ≡ 0 = ap level_of e ∙ rooted_level p in
    record {
      right = w;
      pythons = h;
      steered = subst (IsSteered p []) (sym e) (roots_steered p [] p.roots wf refl);
      reached = λ l i. (let g : up_to l t.facts ≡ t.facts = up_to-all l t.facts (omega arith) in ap level_of g ∙ (omega arith));
      below = λ l i. absurd (omega arith);
      bounded = omega arith;
    }
