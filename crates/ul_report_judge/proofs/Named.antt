-- The names of right steps of a problem name these steps.
use Rattle.std.proofs.Common.{◌≡◌, ℕ, zero, suc, ◌+◌, ◌<◌, List, [], ◌∷◌, map, length, Bool, true, false, cond, Option, Some, slice_get, arith, refl, sym, ap, subst, ◌∙◌, inl, inr}
use Rattle.std.specs.Prelude.{option_and_then, option_map, Result, Ok, Err}
use Rattle.std.specs.List.{Contains}
use Rattle.std.specs.Cmp.{both_ways}
use Rattle.std.proofs.lemmas.Cmp.{tied_itself}
use Rattle.std.proofs.lemmas.Bool.{true≢false}
use Rattle.ul_base.specs.Nodes.{node_cmp, node_cmp-total}
use Rattle.ul_version.specs.Fields.{Fields}
use Rattle.ul_version.specs.Order.{version_cmp}
use Rattle.ul_version.proofs.ForCallers.{version_total}
use Rattle.ul_ranges.specs.Flags.{has, set_of}
use Rattle.ul_ranges.proofs.ForCallers.{length-set_of, same_sets, set_members}
use Rattle.ul_problem.specs.Plain.{Plain, node_at, size_in}
use Rattle.ul_problem.specs.Problems.{Increases, IsWellFormed, VersionBefore}
use Rattle.ul_problem.specs.Steps.{Accepts, AreRightAfter, AreTermsOf, AreWritten, IsTermOf, IsStepWithin}
use Rattle.ul_problem.specs.declared.problem.NodeFacts.{NodeFacts}
use Rattle.ul_problem.specs.declared.term.Term.{Term}
use Rattle.ul_problem.specs.declared.term.Term.TheVariants.{In, NotIn}
use Rattle.ul_problem.specs.declared.step.Step.{Step}
use Rattle.ul_problem.specs.declared.step.Step.TheVariants.{Need, Python, Base, Cut}
use Rattle.ul_problem.proofs.ForCallers.{AreWithin, all_within, at_head, has_within, head_or_rest, in_none, in_rest, node_whole}
use Rattle.ul_report.specs.Naming.{HasNames, HaveNames, IsPlaced, flagged_elements, named_step, named_steps, named_term, named_terms, node_in, node_of_place, versions_in, versions_of_set, with_named}
use Rattle.ul_report.proofs.ForCallers.{right_named}
use Rattle.ul_report_judge.specs.Names.{HaveSteps, base_of, need_of, onto_places, onto_terms, place_of_node, place_of_version, placed_of_names, places_of_names, python_of, set_of_names, step_of_names, term_of_names, terms_of_names, with_place}
use Rattle.ul_derivation.specs.declared.accept.AcceptFault.{AcceptFault}
use Rattle.ul_derivation.specs.declared.accept.AcceptFault.TheVariants.{StepFault, NoMemory}
use Rattle.ul_report_judge.specs.Faults.{AcceptsNames}
use Rattle.ul_report_judge.specs.Headline.{IsJudgedByNames}
use Rattle.ul_report_judge.specs.Laws.{IsAcceptance}
use Rattle.ul_report_judge.proofs.Judged.{fault_refuses}
use Rattle.ul_report_judge.proofs.Halving.{found_place}

-- ---- sets

-- the numbers of flags that are set, of which the first has this number
abbrev members : ℕ → List Bool → List ℕ
members i [] = []
members i (b ∷ bs) = cond b (i ∷ members (i + 1) bs) (members (i + 1) bs)

abbrev itself : Fields → Fields
itself v = v

-- a member of flags that begin later
later : (i m : ℕ) (b : Bool) (bs : List Bool) → Contains (members (i + 1) bs) m → Contains (members i (b ∷ bs)) m
later i m true bs h = in_rest i (members (i + 1) bs) m h
later i m false bs h = h

has_member : (i k : ℕ) (s : List Bool) → has k s ≡ true → Contains (members i s) (i + k)
has_member i k [] h = absurd (true≢false (sym h))
has_member i zero (b ∷ bs) h = subst (λ z. Contains (cond z (i ∷ members (i + 1) bs) (members (i + 1) bs)) (i + 0)) (sym h) (at_head i (members (i + 1) bs) (i + 0) (omega arith))
has_member i (suc k) (b ∷ bs) h =
    let e : i + 1 + k ≡ i + suc k = omega arith in
    subst (λ m. Contains (members i (b ∷ bs)) m) e (later i (i + 1 + k) b bs (has_member (i + 1) k bs h))

-- a number whose flag is set
record IsFlagged (i m : ℕ) (s : List Bool) : Type 0 where
  number : ℕ
  same : m ≡ i + number
  is : has number s ≡ true

flagged_later : (i m : ℕ) (b : Bool) (bs : List Bool) → IsFlagged (i + 1) m bs → IsFlagged i m (b ∷ bs)
flagged_later i m b bs f = record { number = suc f.number; same = f.same ∙ omega arith; is = f.is }

member_has : (i m : ℕ) (s : List Bool) → Contains (members i s) m → IsFlagged i m s
member_has i m [] h = absurd (in_none m h)
member_has i m (true ∷ bs) h = elim (head_or_rest i (members (i + 1) bs) m h) [
  | inl e ↦ record { number = 0; same = sym e ∙ omega arith; is = refl }
  | inr r ↦ flagged_later i m true bs (member_has (i + 1) m bs r)
]
member_has i m (false ∷ bs) h = flagged_later i m false bs (member_has (i + 1) m bs h)

-- a set is that of its members
set_again : (s : List Bool) → set_of (length s) (members 0 s) ≡ s
set_again s =
    same_sets (set_of (length s) (members 0 s)) s (length-set_of (length s) (members 0 s)) (λ k.
    let m = set_members k (length s) (members 0 s) in
    let z : 0 + k ≡ k = omega arith in
    both_ways (has k (set_of (length s) (members 0 s))) (has k s)
    (λ h. let f = member_has 0 k s (m.0 h).1 in subst (λ n. has n s ≡ true) (omega (arith, f.same)) f.is)
    (λ h. m.1 (has_within s k h, subst (λ n. Contains (members 0 s) n) z (has_member 0 k s h))))

-- the places of the versions of a set
places_again : (vs us : List Fields) (s : List Bool) (i : ℕ) → Increases VersionBefore vs → ((j : ℕ) (v : Fields) → slice_get us j ≡ Some v → slice_get vs (i + j) ≡ Some v) → length s ≡ length us
    → places_of_names vs (flagged_elements s us) ≡ Some (members i s)
unfolding place_of_version
places_again vs us [] i h at l = refl
places_again vs [] (b ∷ bs) i h at l = absurd (omega arith)
places_again vs (u ∷ us) (b ∷ bs) i h at l =
    by_flag b (places_again vs us bs (i + 1) h (λ j v e. let q : i + suc j ≡ i + 1 + j = omega arith in subst (λ n. slice_get vs n ≡ Some v) q (at (suc j) v e)) (omega arith))
  where
    place : place_of_version vs u ≡ Some i
    place =
        let q : i + 0 ≡ i = omega arith in
        sym (found_place itself version_cmp version_total vs u i u h (subst (λ n. slice_get vs n ≡ Some u) q (at 0 u refl)) (tied_itself version_total u))

    by_flag : (b : Bool) → places_of_names vs (flagged_elements bs us) ≡ Some (members (i + 1) bs) → places_of_names vs (flagged_elements (b ∷ bs) (u ∷ us)) ≡ Some (members i (b ∷ bs))
    by_flag true r = ap (option_and_then (onto_places (places_of_names vs (flagged_elements bs us)))) place ∙ ap (option_map (λ ks. i ∷ ks)) r
    by_flag false r = r

set_named : (vs : List Fields) (s : List Bool) → Increases VersionBefore vs → length s ≡ length vs → set_of_names vs (flagged_elements s vs) ≡ Some s
set_named vs s h l =
    ap (option_map (set_of (length vs))) (places_again vs vs s 0 h (λ j v e. let q : j ≡ 0 + j = omega arith in subst (λ n. slice_get vs n ≡ Some v) q e) l)
    ∙ ap (λ (t : List Bool). Some t) (ap (λ n. set_of n (members 0 s)) (sym l) ∙ set_again s)

-- ---- nodes

-- what is known of a node of a problem
record IsKnown (p : Plain) (n : ℕ) : Type 0 where
  facts : NodeFacts
  at : node_at p n ≡ Some facts

known : (nodes : List NodeFacts) (n : ℕ) → n < length nodes → (f : NodeFacts) × (slice_get nodes n ≡ Some f)
known [] n h = absurd (omega arith)
known (f ∷ fs) zero h = (f, refl)
known (f ∷ fs) (suc n) h = known fs n (omega arith)

node_named : (p : Plain) (n : ℕ) (f : NodeFacts) → IsWellFormed p → node_at p n ≡ Some f → place_of_node p f.node ≡ Some n
unfolding place_of_node
node_named p n f whole e = sym (found_place (λ (g : NodeFacts). g.node) node_cmp node_cmp-total p.nodes f.node n f whole.increasing e (tied_itself node_cmp-total f.node))

place_named : (p : Plain) (n : ℕ) → IsWellFormed p → n < length p.nodes → place_of_node p (node_of_place p n) ≡ Some n
place_named p n whole h =
    let k = known p.nodes n h in
    ap (λ (o : Option NodeFacts). place_of_node p (node_in o)) k.1 ∙ node_named p n k.0 whole k.1

placed_named : (p : Plain) (n : ℕ) (s : List Bool) → IsWellFormed p → IsPlaced p n s → placed_of_names p (node_of_place p n) (versions_of_set p n s) ≡ Some (n, s)
placed_named p n s whole h =
    let k = known p.nodes n h.0 in
    ap (option_and_then (λ m. option_map (with_place m) (set_of_names (versions_in (node_at p m)) (versions_of_set p n s)))) (place_named p n whole h.0)
    ∙ (ap (λ (o : Option NodeFacts). option_map (with_place n) (set_of_names (versions_in o) (flagged_elements s (versions_in o)))) k.1
    ∙ ap (option_map (with_place n)) (set_named k.0.versions s (node_whole p n k.0 whole k.1).increasing (h.1 ∙ ap size_in k.1)))

-- ---- terms and steps

term_again : (p : Plain) (t : Term) → IsWellFormed p → IsTermOf p t → term_of_names p (named_term p t) ≡ Some t
term_again p (In n s) whole h = ap (option_map (λ (a : ℕ × List Bool). In a.0 a.1)) (placed_named p n s whole h)
term_again p (NotIn n s) whole h = ap (option_map (λ (a : ℕ × List Bool). NotIn a.0 a.1)) (placed_named p n s whole h)

terms_again : (p : Plain) (ts : List Term) → IsWellFormed p → AreTermsOf p ts → AreWritten ts → terms_of_names p (named_terms p ts) ≡ Some ts
terms_again p [] whole h w = refl
terms_again p (t ∷ ts) whole h w =
    ap (λ (o : Option Term). terms_of_names p (with_named p o (named_terms p ts))) w.0
    ∙ (ap (option_and_then (onto_terms (terms_of_names p (named_terms p ts)))) (term_again p t whole h.0)
    ∙ ap (option_map (λ (us : List Term). t ∷ us)) (terms_again p ts whole h.1 w.1))

step_again : (p : Plain) (s : Step) → IsWellFormed p → HasNames p s → IsStepWithin p s → step_of_names p (named_step p s) ≡ Some s
step_again p (Need n s m w) whole h i =
    ap (option_and_then (λ (a : ℕ × List Bool). option_map (need_of a) (placed_of_names p (node_of_place p m) (versions_of_set p m w)))) (placed_named p n s whole h.0)
    ∙ ap (option_map (need_of (n, s))) (placed_named p m w whole h.1)
step_again p (Python n s) whole h i = ap (option_map python_of) (placed_named p n s whole h)
step_again p (Base n s) whole h i = ap (option_map base_of) (placed_named p n s whole h)
step_again p (Cut i j m ts) whole h k =
    ap (option_and_then (λ (n : ℕ). option_map (Cut i j n) (terms_of_names p (named_terms p ts)))) (place_named p m whole h.0)
    ∙ ap (option_map (Cut i j m)) (terms_again p ts whole h.1 k.1.1)

steps_from : (p : Plain) (ss : List Step) → IsWellFormed p → HaveNames p ss → AreWithin p ss → HaveSteps p (named_steps p ss) ss
steps_from p [] whole h w = refl
steps_from p (s ∷ ss) whole h w =
    ap (λ (o : Option Step). o ∷ map (step_of_names p) (named_steps p ss)) (step_again p s whole h.0 (w 0 s refl))
    ∙ ap (λ (os : List (Option Step)). Some s ∷ os) (steps_from p ss whole h.1 (λ k t e. w (suc k) t e))

-- the names of right steps name these steps
pub steps_again : (p : Plain) (ss : List Step) → IsWellFormed p → AreRightAfter p [] ss → HaveSteps p (named_steps p ss) ss
steps_again p ss whole r = steps_from p ss whole (right_named p ss whole r) (all_within p ss r)

-- the names of an accepted derivation are accepted
pub accepted_again : (p : Plain) (steps : List Step) → IsWellFormed p → Accepts p steps → AcceptsNames p (named_steps p steps)
accepted_again p steps whole a = (steps, steps_again p steps whole a.0, a)

-- and judged so
pub judged_again : (p : Plain) (steps : List Step) (answer : Result (Unit {0}) AcceptFault) → IsWellFormed p → Accepts p steps → IsJudgedByNames p (named_steps p steps) answer → IsAcceptance answer
judged_again p steps (Ok x) whole a j = tt
judged_again p steps (Err (StepFault k)) whole a j = absurd (fault_refuses p (named_steps p steps) k j.fault (accepted_again p steps whole a))
judged_again p steps (Err NoMemory) whole a j = tt
