-- What is known of a node and of a step of a number.
use Rattle.std.proofs.Common.{◌≡◌, ℕ, suc, ◌-◌, ◌<◌, Bool, true, Option, Some, None, List, [], ◌∷◌, length, get_or, subst, sym, ap, ◌∙◌, refl, slice_get, arith}
use Rattle.std.specs.Prelude.{IsTrue, ◌↔◌, IfOk, Result, Ok, Err}
use Rattle.std.specs.Option.{is_some}
use Rattle.std.proofs.lemmas.Option.{none-some, same_Some, slice_get-get_or}
use Rattle.ul_ranges.specs.Flags.{has, is_within}
use Rattle.ul_ranges.proofs.ForCallers.{within}
use Rattle.ul_problem.specs.Plain.{Plain, node_at, size_in, size_of, base_in, barred_in, barred_of, needs_in, needs_of}
use Rattle.ul_problem.specs.Problems.{IsWellFormed}
use Rattle.std.specs.List.{Contains}
use Rattle.ul_problem.specs.Steps.{AreTermsOf, AreOfOne, HasNeed, HasTermOn, IsResolvent, IsCutOf, IsRightNeed, IsRightPython, IsRightBase, IsRight, IsStepWithin, AreRightAfter, AreRootTerms, ClosesWith, says, step_of}
use Rattle.ul_problem.specs.declared.problem.Need.{Need}
use Rattle.ul_problem.specs.declared.problem.NodeFacts.{NodeFacts}
use Rattle.ul_problem.specs.declared.step.Step.{Step}
use Rattle.ul_problem.specs.declared.step.Step.TheVariants.{Cut}
use Rattle.ul_problem.specs.declared.term.Term.{Term}
use Rattle.ul_problem.proofs.ForCallers.{all_within, barred_size, need_fits, node_whole, step_place}
use Rattle.ul_derivation.specs.Looking.{AreCut, IsSaid}

abbrev pub IsSetOf : Plain → ℕ → List Bool → Type 0
IsSetOf p n s = (n < length p.nodes) × (length s ≡ size_of p n)

-- the node that is read
pub node_read : (p : Plain) (nodes : List NodeFacts) (n : ℕ) (d : NodeFacts) → nodes ≡ p.nodes → n < length p.nodes → node_at p n ≡ Some (get_or nodes n d)
node_read p nodes n d e h = slice_get-get_or p.nodes n d h ∙ ap (λ (l : List NodeFacts). Some (get_or l n d)) (sym e)

-- a base step
some_is : (o : Option ℕ) → is_some o ≡ true → (b : ℕ) × (o ≡ Some b)
some_is None e = cc
some_is (Some b) e = (b, refl)

is_there : (o : Option ℕ) (b : ℕ) → o ≡ Some b → is_some o ≡ true
is_there None b e = absurd (none-some b e)
is_there (Some c) b e = refl

pub base_tested : (p : Plain) (n : ℕ) (s : List Bool) (x : NodeFacts) (b : Bool) → node_at p n ≡ Some x → b ≡ is_some x.base → IsSetOf p n s → IsTrue b ↔ IsRightBase p n s
base_tested p n s x b e f h = (
  λ t. (let r = some_is x.base (sym f ∙ t) in (h.0, h.1, (r.0, ap base_in e ∙ r.1))),
  λ r. f ∙ is_there x.base r.2.0 (sym (ap base_in e) ∙ r.2.1),
)

-- a python step
pub python_sizes : (p : Plain) (n : ℕ) (s : List Bool) (x : NodeFacts) → IsWellFormed p → node_at p n ≡ Some x → IsSetOf p n s → length s ≡ length x.barred
python_sizes p n s x wf e h = h.1 ∙ (sym (barred_size p n wf) ∙ ap (λ (o : Option NodeFacts). length (barred_in o)) e)

pub python_tested : (p : Plain) (n : ℕ) (s : List Bool) (x : NodeFacts) (b : Bool) → node_at p n ≡ Some x → b ≡ is_within s x.barred → IsSetOf p n s → IsTrue b ↔ IsRightPython p n s
python_tested p n s x b e f h =
    let g : barred_of p n ≡ x.barred = ap barred_in e in
    let w = within s x.barred in (
      λ t. (h.0, h.1, λ v k. ap (has v) g ∙ w.0 (sym f ∙ t) v k),
      λ r. f ∙ w.1 (λ v k. sym (ap (has v) g) ∙ r.2 v k),
    )

-- a need step
pub rows_fit : (p : Plain) (n : ℕ) (s : List Bool) (x : NodeFacts) (rows : List (List Need)) → IsWellFormed p → node_at p n ≡ Some x → rows ≡ x.needs → IsSetOf p n s → length rows ≡ length s
rows_fit p n s x rows wf e q h = ap length q ∙ ((node_whole p n x wf e).rows ∙ (sym (ap size_in e) ∙ sym h.1))

row_is : (p : Plain) (n v : ℕ) (x : NodeFacts) (rows : List (List Need)) → node_at p n ≡ Some x → rows ≡ x.needs → needs_of p n v ≡ get_or rows v []
row_is p n v x rows e q = ap (λ (o : Option NodeFacts). needs_in o v) e ∙ ap (λ (l : List (List Need)). get_or l v []) (sym q)

pub needs_fit : (p : Plain) (n m v : ℕ) (w : List Bool) (x : NodeFacts) (rows : List (List Need)) (need : Need) → IsWellFormed p → node_at p n ≡ Some x → rows ≡ x.needs → IsSetOf p m w → Contains (get_or rows v []) need → need.node ≡ m → length need.permitted ≡ length w
needs_fit p n m v w x rows need wf e q h i f =
    let j : Contains (needs_of p n v) need = subst (λ (l : List Need). Contains l need) (sym (row_is p n v x rows e q)) i in
    (need_fits p n v need wf j).1 ∙ (ap (λ (k : ℕ). size_of p k) f ∙ sym h.1)

pub need_tested : (p : Plain) (n m : ℕ) (s w : List Bool) (x : NodeFacts) (rows : List (List Need)) (b : Bool) → node_at p n ≡ Some x → rows ≡ x.needs → (IsTrue b ↔ ((v : ℕ) → has v s ≡ true → HasNeed (get_or rows v []) m w)) → IsSetOf p n s → IsSetOf p m w → IsTrue b ↔ IsRightNeed p n s m w
need_tested p n m s w x rows b e q t h k = (
  λ g. (h.0, k.0, h.1, k.1, λ v i. subst (λ (l : List Need). HasNeed l m w) (sym (row_is p n v x rows e q)) (t.0 g v i)),
  λ r. t.1 (λ v i. subst (λ (l : List Need). HasNeed l m w) (row_is p n v x rows e q) (r.4 v i)),
)

-- what a step says, as it stands in a cut or as it was made
pub cut_said : (p : Plain) (i j m : ℕ) (ts : List Term) → IsStepWithin p (Cut i j m ts) → IsSaid p (Cut i j m ts) ts
cut_said p i j m ts h = record { same = refl; fits = h.0; is_ordered = h.1.0 }

pub are_of_one : (p : Plain) (s t : Step) (l r : List Term) → IsSaid p s l → IsSaid p t r → AreOfOne l r
are_of_one p s t l r a b = (p, a.fits, b.fits)

pub cut_same : (p : Plain) (s t : Step) (m : ℕ) (l r ts : List Term) (b : Bool) → IsSaid p s l → IsSaid p t r → IsTrue b ↔ AreCut m l r ts → IsTrue b ↔ AreCut m (says p s) (says p t) ts
cut_same p s t m l r ts b x y i = subst (λ (a : List Term). IsTrue b ↔ AreCut m a (says p t) ts) x.same (subst (λ (a : List Term). IsTrue b ↔ AreCut m l a ts) y.same i)

-- a cut of the steps of two numbers
pub cut_of_two : (p : Plain) (earlier : List Step) (i j m : ℕ) (s t : Step) (ts : List Term) (b : Bool) → step_of earlier i ≡ Some s → step_of earlier j ≡ Some t
    → IsTrue b ↔ AreCut m (says p s) (says p t) ts → IsTrue b ↔ IsCutOf p earlier i j m ts
cut_of_two p earlier i j m s t ts b e f g = (
  λ h. (let c = g.0 h in (s, t, e, f, c.0, c.1, c.2)),
  λ h. g.1 (back h),
)
  where
    back : IsCutOf p earlier i j m ts → AreCut m (says p s) (says p t) ts
    back (left, right, el, er, hl, hr, res) =
        let a : says p left ≡ says p s = ap (says p) (same_Some left s (sym el ∙ e)) in
        let c : says p right ≡ says p t = ap (says p) (same_Some right t (sym er ∙ f)) in
        (subst (HasTermOn m) a hl, subst (HasTermOn m) c hr, subst (λ (d : List Term). IsResolvent m d (says p t) ts) a (subst (λ (d : List Term). IsResolvent m (says p left) d ts) c res))

-- a step of a number, as it is read
pub step_within : (p : Plain) (earlier : List Step) (i : ℕ) (s : Step) → AreRightAfter p [] earlier → step_of earlier i ≡ Some s → IsStepWithin p s
step_within p earlier i s r e = let k = step_place earlier i s e in all_within p earlier r k.0 s k.1

-- the last step
closes_at : (p : Plain) (steps : List Step) (s : Step) → slice_get steps (length steps - 1) ≡ Some s → (AreRootTerms p (says p s) → ClosesWith p steps) × (ClosesWith p steps → AreRootTerms p (says p s))
closes_at p [] s e = absurd (none-some s e)
closes_at p (x ∷ []) s e = let f : x ≡ s = same_Some x s e in
    ((λ h. subst (λ (y : Step). AreRootTerms p (says p y)) (sym f) h), (λ h. subst (λ (y : Step). AreRootTerms p (says p y)) f h))
closes_at p (x ∷ y ∷ ss) s e =
    let f : suc (suc (length ss)) - 1 ≡ suc (suc (length ss) - 1) = omega arith in
    closes_at p (y ∷ ss) s (sym (ap (λ (k : ℕ). slice_get (x ∷ y ∷ ss) k) f) ∙ e)

pub closes_tested : (p : Plain) (steps : List Step) (o : Option Step) (s : Step) (ts read : List Term) (b : Bool) → o ≡ slice_get steps (length steps - 1) → o ≡ Some s → ts ≡ says p s → read ≡ ts → (IsTrue b ↔ AreRootTerms p read) → IsTrue b ↔ ClosesWith p steps
closes_tested p steps o s ts read b e f g h t =
    let c = closes_at p steps s (sym e ∙ f) in
    let k : read ≡ says p s = h ∙ g in
    ((λ x. c.0 (subst (AreRootTerms p) k (t.0 x))), (λ x. t.1 (subst (AreRootTerms p) (sym k) (c.1 x))))

pub last_within : (p : Plain) (steps : List Step) (o : Option Step) (s : Step) → AreRightAfter p [] steps → o ≡ slice_get steps (length steps - 1) → o ≡ Some s → IsStepWithin p s
last_within p steps o s r e f = all_within p steps r (length steps - 1) s (sym e ∙ f)

-- what holds of an answer
pub ok_then : {A E : Type 0} (r : Result A E) (P Q : A → Type 0) → IfOk r P → ((x : A) → P x → Q x) → IfOk r Q
ok_then (Ok x) P Q h f = f x h
ok_then (Err e) P Q h f = tt

pub right_cut : (p : Plain) (earlier : List Step) (i j m : ℕ) (ts read : List Term) (step : Step) (b : Bool) → step ≡ Cut i j m ts → read ≡ ts → AreTermsOf p read → IsTrue b ↔ IsCutOf p earlier i j m read → IsTrue b ↔ IsRight p earlier step
right_cut p earlier i j m ts read step b e f a t =
    let g : IsTrue b ↔ IsRight p earlier (Cut i j m ts) =
    ((λ h. (subst (AreTermsOf p) f a, subst (IsCutOf p earlier i j m) f (t.0 h))), (λ r. t.1 (subst (IsCutOf p earlier i j m) (sym f) r.1))) in
    subst (λ (s : Step). IsTrue b ↔ IsRight p earlier s) (sym e) g
