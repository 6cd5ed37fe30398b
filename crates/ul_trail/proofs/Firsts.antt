-- The steps that a problem gives are right, and are all that a trail begins with.
use Rattle.std.proofs.Common.{◌≡◌, ℕ, zero, suc, ◌+◌, List, [], ◌∷◌, ◌++◌, Bool, true, false, cond, Option, Some, None, refl, ap, ◌∙◌, sym, subst, ◌<◌, inl, inr, arith, slice_get, get_or, length, take, append_assoc}
use Rattle.std.proofs.lemmas.Bool.{cases_eq, true≢false}
use Rattle.std.proofs.lemmas.List.{append-nil}
use Rattle.std.proofs.lemmas.Option.{none-some, same_Some, slice_get_within, slice_get_read}
use Rattle.std.specs.List.{Contains}
use Rattle.ul_ranges.specs.Flags.{has, is_blank}
use Rattle.ul_ranges.proofs.ForCallers.{blank_none}
use Rattle.ul_problem.specs.Plain.{Plain, node_at, size_of, base_of, barred_of, needs_of, size_in, base_in, barred_in, needs_in}
use Rattle.ul_problem.specs.Serving.{Forbids}
use Rattle.ul_problem.specs.Problems.{IsWellFormed}
use Rattle.ul_problem.specs.Steps.{says, IsRight, AreRightAfter}
use Rattle.ul_problem.specs.declared.problem.Need.{Need}
use Rattle.ul_problem.specs.declared.problem.NodeFacts.{NodeFacts}
use Rattle.ul_problem.specs.declared.step.Step.{Step}
use Rattle.ul_problem.specs.declared.step.Step.TheVariants.{Need as NeedStep, Python, Base}
use Rattle.ul_problem.proofs.ForCallers.{node_of_size, need_fits, barred_size, one_left, one_right, step_sound, has_within, at_head, in_rest, head_or_rest, in_none, one_cases}
use Rattle.ul_trail.specs.Facts.{one_of}
use Rattle.ul_trail.specs.Propagation.{AreForbidden}
use Rattle.ul_trail.specs.Moves.{HasPythons, HasVersionSteps}
use Rattle.ul_trail.specs.First.{need_steps, base_steps, python_steps, version_steps, version_steps_in, steps_for, node_steps, steps_at, first_steps}
use Rattle.ul_trail.proofs.Following.{one_has}
use Rattle.ul_trail.proofs.Places.{take_next}
use Rattle.ul_trail.proofs.Singles.{one_length, one_other}

needs_append : (n : ℕ) (s : List Bool) (xs : List Need) (x : Need) → need_steps n s (xs ++ x ∷ []) ≡ need_steps n s xs ++ NeedStep n s x.node x.permitted ∷ []
needs_append n s [] x = refl
needs_append n s (y ∷ xs) x = ap (λ (l : List Step). NeedStep n s y.node y.permitted ∷ l) (needs_append n s xs x)

pub needs_next : (n : ℕ) (s t w : List Bool) (start steps now : List Step) (needs : List Need) (i : ℕ) (x : Need) → slice_get needs i ≡ Some x → steps ≡ start ++ need_steps n s (take i needs) → t ≡ s → w ≡ x.permitted → now ≡ steps ++ NeedStep n t x.node w ∷ [] → now ≡ start ++ need_steps n s (take (i + 1) needs)
needs_next n s t w start steps now needs i x e q et ew g =
    g ∙ (ap (λ (l : List Bool). steps ++ NeedStep n l x.node w ∷ []) et ∙ (ap (λ (l : List Bool). steps ++ NeedStep n s x.node l ∷ []) ew ∙ (ap (λ (l : List Step). l ++ NeedStep n s x.node x.permitted ∷ []) q
    ∙ (append_assoc start (need_steps n s (take i needs)) (NeedStep n s x.node x.permitted ∷ []) ∙ ap (λ (l : List Step). start ++ l) (sym (ap (need_steps n s) (take_next needs x i e) ∙ needs_append n s (take i needs) x))))))

-- members
in_needs : (n : ℕ) (s : List Bool) (needs : List Need) (need : Need) → Contains needs need → Contains (need_steps n s needs) (NeedStep n s need.node need.permitted)
in_needs n s [] need h = absurd (in_none need h)
in_needs n s (x ∷ xs) need h = elim (head_or_rest x xs need h) [
  | inl e ↦ at_head (NeedStep n s x.node x.permitted) (need_steps n s xs) (NeedStep n s need.node need.permitted) (ap (λ (y : Need). NeedStep n s y.node y.permitted) e)
  | inr i ↦ in_rest (NeedStep n s x.node x.permitted) (need_steps n s xs) (NeedStep n s need.node need.permitted) (in_needs n s xs need i)
]

in_nodes : (nodes : List NodeFacts) (n k : ℕ) (f : NodeFacts) (s : Step) → slice_get nodes n ≡ Some f → n < k → Contains (node_steps f n) s → Contains (first_steps nodes k) s
in_nodes nodes n zero f s e h i = absurd (omega arith)
in_nodes nodes n (suc k) f s e h i = elim (cases_eq n k) [
  | inl q ↦ one_right s (first_steps nodes k) (steps_at (slice_get nodes k) k) (subst (λ (j : ℕ). Contains (steps_at (slice_get nodes j) j) s) q (subst (λ (o : Option NodeFacts). Contains (steps_at o n) s) (sym e) i))
  | inr d ↦ one_left s (first_steps nodes k) (steps_at (slice_get nodes k) k) (in_nodes nodes n k f s e (omega arith) i)
]

base_one : (n b : ℕ) (s : List Bool) (o : Option ℕ) → o ≡ Some b → Contains (base_steps n s o) (Base n s)
base_one n b s None e = absurd (none-some b e)
base_one n b s (Some c) e = at_head (Base n s) [] (Base n s) refl

python_one : (n v : ℕ) (s : List Bool) → has v s ≡ true → Contains (python_steps n s) (Python n s)
python_one n v s h = which (is_blank s) refl
  where
    which : (b : Bool) → is_blank s ≡ b → Contains (cond b [] (Python n s ∷ [])) (Python n s)
    which true e = absurd (true≢false (sym h ∙ blank_none s e v))
    which false e = at_head (Python n s) [] (Python n s) refl

-- the steps of the barred versions, read off the problem
pub first_has : (p : Plain) (n v : ℕ) → IsWellFormed p → has v (barred_of p n) ≡ true → Contains (first_steps p.nodes (length p.nodes)) (Python n (barred_of p n))
first_has p n v wf h =
    let w = has_within (barred_of p n) v h in
    let z = barred_size p n wf in
    let f = node_of_size p n v (omega arith) in
    let eb : barred_of p n ≡ f.0.barred = ap barred_in f.1 in
    in_nodes p.nodes n (length p.nodes) f.0 _ f.1 (slice_get_within p.nodes n f.0 f.1)
    (subst (λ (s : List Bool). Contains (python_steps n f.0.barred) (Python n s)) (sym eb) (python_one n v f.0.barred (subst (λ (s : List Bool). has v s ≡ true) eb h)))

pub has_pythons : (p : Plain) (steps : List Step) → IsWellFormed p → steps ≡ first_steps p.nodes (length p.nodes) → HasPythons p steps
has_pythons p steps wf e = λ n v h. subst (λ (l : List Step). Contains l (Python n (barred_of p n))) (sym e) (first_has p n v wf h)

-- where the steps of a version are held, there is one for each need, and one where the node has a base
pub version_has : (p : Plain) (n v : ℕ) (steps : List Step) → v < size_of p n → ((s : Step) → Contains (steps_for p n v) s → Contains steps s) → HasVersionSteps p steps n v
version_has p n v steps h more =
    let f = node_of_size p n v h in
    let es : size_of p n ≡ length f.0.versions = ap size_in f.1 in
    let en : needs_of p n v ≡ get_or f.0.needs v [] = ap (λ (o : Option NodeFacts). needs_in o v) f.1 in
    let ef : steps_for p n v ≡ version_steps f.0 n v = ap (λ (o : Option NodeFacts). version_steps_in o n v) f.1 in
    record {
      needs = λ need i. (
        one_of (size_of p n) v,
        one_has (size_of p n) v h,
        more _ (subst (λ (l : List Step). Contains l (NeedStep n (one_of (size_of p n) v) need.node need.permitted)) (sym ef)
            (one_right _ (base_steps n (one_of (length f.0.versions) v) f.0.base) (need_steps n (one_of (length f.0.versions) v) (get_or f.0.needs v []))
            (subst (λ (z : ℕ). Contains (need_steps n (one_of (length f.0.versions) v) (get_or f.0.needs v [])) (NeedStep n (one_of z v) need.node need.permitted)) (sym es) (in_needs n (one_of (length f.0.versions) v) (get_or f.0.needs v []) need (subst (λ (l : List Need). Contains l need) en i))))),
      );
      bases = λ b e. (let eb : f.0.base ≡ Some b = sym (ap base_in f.1) ∙ e in
          more _ (subst (λ (l : List Step). Contains l (Base n (one_of (size_of p n) v))) (sym ef)
          (one_left _ (base_steps n (one_of (length f.0.versions) v) f.0.base) (need_steps n (one_of (length f.0.versions) v) (get_or f.0.needs v []))
          (subst (λ (z : ℕ). Contains (base_steps n (one_of (length f.0.versions) v) f.0.base) (Base n (one_of z v))) (sym es) (base_one n b (one_of (length f.0.versions) v) f.0.base eb)))));
    }

pub version_more : (p : Plain) (n v : ℕ) (steps more : List Step) → HasVersionSteps p steps n v → HasVersionSteps p (steps ++ more) n v
version_more p n v steps more h = record {
  needs = λ need i. (let r = h.needs need i in (r.0, r.1, one_left _ steps more r.2));
  bases = λ b e. one_left _ steps more (h.bases b e);
}

-- more steps
pub pythons_more : (p : Plain) (steps more : List Step) → HasPythons p steps → HasPythons p (steps ++ more)
pythons_more p steps more h = λ n v e. one_left _ steps more (h n v e)

-- each is right, whatever stands before it
abbrev pub AreFirst : Plain → List Step → Type 0
AreFirst p [] = Unit {0}
AreFirst p (s ∷ ss) = ((earlier : List Step) → IsRight p earlier s) × AreFirst p ss

first_join : (p : Plain) (xs ys : List Step) → AreFirst p xs → AreFirst p ys → AreFirst p (xs ++ ys)
first_join p [] ys h i = i
first_join p (x ∷ xs) ys h i = (h.0, first_join p xs ys h.1 i)

first_right : (p : Plain) (earlier steps : List Step) → AreFirst p steps → AreRightAfter p earlier steps
first_right p earlier [] h = tt
first_right p earlier (s ∷ ss) h = (h.0 earlier, first_right p (earlier ++ s ∷ []) ss h.1)

first_forbidden : (p : Plain) (steps : List Step) → AreFirst p steps → AreForbidden p steps
first_forbidden p [] h k s e = absurd (none-some s e)
first_forbidden p (x ∷ xs) h zero s e = subst (λ (y : Step). Forbids p (says p y)) (same_Some x s e) (step_sound p [] x (λ k t g. absurd (none-some t g)) (h.0 [])).1
first_forbidden p (x ∷ xs) h (suc k) s e = first_forbidden p xs h.1 k s e

pub one_only : (size v k : ℕ) → has k (one_of size v) ≡ true → k ≡ v
one_only size v k h = elim (cases_eq v k) [ inl e ↦ sym e | inr d ↦ absurd (true≢false (sym h ∙ one_other size v k d)) ]

needs_right : (p : Plain) (n v : ℕ) (needs : List Need) → IsWellFormed p → n < length p.nodes → ((need : Need) → Contains needs need → Contains (needs_of p n v) need) → AreFirst p (need_steps n (one_of (size_of p n) v) needs)
needs_right p n v [] wf l h = tt
needs_right p n v (x ∷ xs) wf l h =
    let fits = need_fits p n v x wf (h x (at_head x xs x refl)) in (
      (λ earlier. (l, fits.0, one_length (size_of p n) v, fits.1, (λ u g. (x, subst (λ (k : ℕ). Contains (needs_of p n k) x) (sym (one_only (size_of p n) v u g)) (h x (at_head x xs x refl)), refl, (λ z y. y))))),
      needs_right p n v xs wf l (λ need i. h need (in_rest x xs need i)),
    )

base_right : (p : Plain) (n v : ℕ) (o : Option ℕ) → n < length p.nodes → base_of p n ≡ o → AreFirst p (base_steps n (one_of (size_of p n) v) o)
base_right p n v None l e = tt
base_right p n v (Some b) l e = ((λ earlier. (l, one_length (size_of p n) v, (b, e))), tt)

python_right : (p : Plain) (n : ℕ) (s : List Bool) → IsWellFormed p → n < length p.nodes → barred_of p n ≡ s → AreFirst p (python_steps n s)
python_right p n s wf l e = which (is_blank s)
  where
    which : (b : Bool) → AreFirst p (cond b [] (Python n s ∷ []))
    which true = tt
    which false = ((λ earlier. (l, ap (λ (z : List Bool). length z) (sym e) ∙ barred_size p n wf, (λ v h. subst (λ (z : List Bool). has v z ≡ true) (sym e) h))), tt)

version_right : (p : Plain) (n k : ℕ) (f : NodeFacts) → IsWellFormed p → node_at p n ≡ Some f → AreFirst p (version_steps f n k)
version_right p n k f wf e =
    let es : size_of p n ≡ length f.versions = ap size_in e in
    let en : needs_of p n k ≡ get_or f.needs k [] = ap (λ (o : Option NodeFacts). needs_in o k) e in
    let eb : base_of p n ≡ f.base = ap base_in e in
    let l = slice_get_within p.nodes n f e in
    first_join p (base_steps n (one_of (length f.versions) k) f.base) (need_steps n (one_of (length f.versions) k) (get_or f.needs k []))
    (subst (λ (z : ℕ). AreFirst p (base_steps n (one_of z k) f.base)) es (base_right p n k f.base l eb))
    (subst (λ (z : ℕ). AreFirst p (need_steps n (one_of z k) (get_or f.needs k []))) es (needs_right p n k (get_or f.needs k []) wf l (λ need i. subst (λ (l : List Need). Contains l need) (sym en) i)))

node_right : (p : Plain) (k : ℕ) (f : NodeFacts) → IsWellFormed p → slice_get p.nodes k ≡ Some f → AreFirst p (node_steps f k)
node_right p k f wf e = python_right p k f.barred wf (slice_get_within p.nodes k f e) (ap barred_in e)

-- what is known of a node, as it is read
pub node_read : (p : Plain) (nodes : List NodeFacts) (k : ℕ) (f : NodeFacts) → nodes ≡ p.nodes → k < length nodes → f ≡ get_or nodes k f → slice_get p.nodes k ≡ Some f
node_read p nodes k f e l g = subst (λ (x : List NodeFacts). slice_get x k ≡ Some f) e (slice_get_read nodes (length nodes) k f refl l g)

-- the steps of a node are right after any others
pub node_is_right : (p : Plain) (earlier steps : List Step) (k : ℕ) (f : NodeFacts) → IsWellFormed p → slice_get p.nodes k ≡ Some f → steps ≡ node_steps f k → AreRightAfter p earlier steps
node_is_right p earlier steps k f wf e q = subst (AreRightAfter p earlier) (sym q) (first_right p earlier (node_steps f k) (node_right p k f wf e))

pub node_is_forbidden : (p : Plain) (steps : List Step) (k : ℕ) (f : NodeFacts) → IsWellFormed p → slice_get p.nodes k ≡ Some f → steps ≡ node_steps f k → AreForbidden p steps
node_is_forbidden p steps k f wf e q = subst (AreForbidden p) (sym q) (first_forbidden p (node_steps f k) (node_right p k f wf e))

-- so are those of a version
pub version_is_right : (p : Plain) (earlier steps : List Step) (n v : ℕ) (f : NodeFacts) → IsWellFormed p → slice_get p.nodes n ≡ Some f → steps ≡ version_steps f n v → AreRightAfter p earlier steps
version_is_right p earlier steps n v f wf e q = subst (AreRightAfter p earlier) (sym q) (first_right p earlier (version_steps f n v) (version_right p n v f wf e))

pub version_is_forbidden : (p : Plain) (steps : List Step) (n v : ℕ) (f : NodeFacts) → IsWellFormed p → slice_get p.nodes n ≡ Some f → steps ≡ version_steps f n v → AreForbidden p steps
version_is_forbidden p steps n v f wf e q = subst (AreForbidden p) (sym q) (first_forbidden p (version_steps f n v) (version_right p n v f wf e))

-- with the steps of one node more
pub first_next : (nodes : List NodeFacts) (k : ℕ) (f : NodeFacts) (held more now : List Step) → slice_get nodes k ≡ Some f → held ≡ first_steps nodes k → more ≡ node_steps f k → now ≡ held ++ more → now ≡ first_steps nodes (k + 1)
first_next nodes k f held more now e h m g = let next : suc k ≡ k + 1 = omega arith in
    g ∙ (ap (λ (l : List Step). l ++ more) h ∙ (ap (λ (l : List Step). first_steps nodes k ++ l) m ∙ (ap (λ (o : Option NodeFacts). first_steps nodes k ++ steps_at o k) (sym e) ∙ ap (λ (n : ℕ). first_steps nodes n) next)))
