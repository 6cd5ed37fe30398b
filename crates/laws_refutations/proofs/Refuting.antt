-- Every selection of the decided nodes is refuted by a step that speaks of no open node: by trying each option of an
-- open node, and by the resolvents of what refutes them.
use Rattle.std.proofs.Common.{◌≡◌, ℕ, zero, suc, ◌<◌, ◌≤◌, inl, inr, List, [], ◌∷◌, ◌++◌, Bool, true, cond, not, Option, Some, None, length, arith, refl, sym, ap, ◌∙◌, subst, slice_get, append_assoc}
use Rattle.std.specs.Prelude.{Contains}
use Rattle.std.proofs.lemmas.Bool.{cases_Bool, cases_eq, not-true, true≢false}
use Rattle.std.proofs.lemmas.Option.{none-some, same_Some}
use Rattle.ul_ranges.specs.Flags.{has, is_blank}
use Rattle.ul_ranges.proofs.ForCallers.{blank_some}
use Rattle.ul_problem.specs.Terms.{Selection, node_of, allows, term_on, may_hold}
use Rattle.ul_problem.specs.Plain.{Plain, size_of}
use Rattle.ul_problem.specs.Problems.{IsWellFormed}
use Rattle.ul_problem.specs.Serving.{HasNone}
use Rattle.ul_problem.specs.Steps.{AreRightAfter, AreTermsOf, AreWritten, IsResolvent, IsTermOf, says, term_to_say}
use Rattle.ul_problem.specs.declared.term.Term.{Term}
use Rattle.ul_problem.specs.declared.term.Term.TheVariants.{In, NotIn}
use Rattle.ul_problem.specs.declared.step.Step.{Step}
use Rattle.ul_problem.specs.declared.step.Step.TheVariants.{Cut}
use Rattle.ul_problem.proofs.ForCallers.{at_head, fits_at, has_within, head_or_rest, in_none, in_rest, term_one}
use Rattle.ul_trail.proofs.ForCallers.{get_last, get_more}
use Rattle.laws_refutations.proofs.Growing.{cut_right, fits_at_place, right_more, whole_at}
use Rattle.laws_refutations.proofs.Leaves.{refuting}
use Rattle.laws_refutations.proofs.Resolvents.{holds_off, holds_on, none_on, resolved}
use Rattle.laws_refutations.proofs.Selections.{IsTried, changed, changed_here, changed_past, changed_tried}

-- further steps, one of which says such terms
pub record IsSaidAfter (p : Plain) (steps : List Step) (Such : List Term → Type 0) : Type 0 where
  pub more : List Step
  pub right : AreRightAfter p [] (steps ++ more)
  pub place : ℕ
  pub step : Step
  pub at : slice_get (steps ++ more) place ≡ Some step
  pub such : Such (says p step)

-- the terms hold of the selection, and none is on an open node
pub record AreRefuting (open_nodes : List ℕ) (σ : Selection) (ts : List Term) : Type 0 where
  pub each : (n : ℕ) → may_hold (term_on n ts) (σ n) ≡ true
  pub clear : (n : ℕ) → Contains open_nodes n → term_on n ts ≡ None

-- the terms hold of the selection elsewhere than on a node, and there of none and of the versions below one
record AreRefutingUpTo (open_nodes : List ℕ) (σ : Selection) (m c : ℕ) (ts : List Term) : Type 0 where
  each : (n : ℕ) → (n ≡ m → ⊥) → may_hold (term_on n ts) (σ n) ≡ true
  clear : (n : ℕ) → Contains open_nodes n → term_on n ts ≡ None
  without : may_hold (term_on m ts) None ≡ true
  below : (v : ℕ) → v < c → may_hold (term_on m ts) (Some v) ≡ true

said_as : (p : Plain) (steps : List Step) (S T : List Term → Type 0) → (f : IsSaidAfter p steps S) → T (says p f.step)
    → IsSaidAfter p steps T
said_as p steps S T f h = record { more = f.more; right = f.right; place = f.place; step = f.step; at = f.at; such = h }

said_later : (p : Plain) (steps xs : List Step) (S T : List Term → Type 0) → (f : IsSaidAfter p (steps ++ xs) S)
    → T (says p f.step) → IsSaidAfter p steps T
said_later p steps xs S T f h = record {
  more = xs ++ f.more;
  right = subst (AreRightAfter p []) (append_assoc steps xs f.more) f.right;
  place = f.place;
  step = f.step;
  at = subst (λ (l : List Step). slice_get l f.place ≡ Some f.step) (append_assoc steps xs f.more) f.at;
  such = h;
}

-- where no term is on the node, any option is allowed there
holds_none : (t : Option Term) (o : Option ℕ) → t ≡ None → may_hold t o ≡ true
holds_none None o e = refl
holds_none (Some t) o e = absurd (none-some t (sym e))

-- one option of the node, refuted
from_changed : (rest : List ℕ) (σ : Selection) (m n : ℕ) (o : Option ℕ) (ts : List Term)
    → AreRefuting rest (changed σ m o) ts → (n ≡ m → ⊥) → may_hold (term_on n ts) (σ n) ≡ true
from_changed rest σ m n o ts r d =
    subst (λ (q : Option ℕ). may_hold (term_on n ts) q ≡ true) (changed_past σ m n o d) (r.each n)

at_changed : (rest : List ℕ) (σ : Selection) (m : ℕ) (o : Option ℕ) (ts : List Term)
    → AreRefuting rest (changed σ m o) ts → may_hold (term_on m ts) o ≡ true
at_changed rest σ m o ts r = subst (λ (q : Option ℕ). may_hold (term_on m ts) q ≡ true) (changed_here σ m o) (r.each m)

begun : (rest : List ℕ) (σ : Selection) (m : ℕ) (ts : List Term) → AreRefuting rest (changed σ m None) ts
    → AreRefutingUpTo rest σ m 0 ts
begun rest σ m ts r = record {
  each = λ n d. from_changed rest σ m n None ts r d;
  clear = r.clear;
  without = at_changed rest σ m None ts r;
  below = λ v h. absurd (omega arith);
}

-- terms that aren't on the node refute all its options
of_all : (rest : List ℕ) (σ : Selection) (m c : ℕ) (ts : List Term)
    → ((n : ℕ) → (n ≡ m → ⊥) → may_hold (term_on n ts) (σ n) ≡ true) → ((n : ℕ) → Contains rest n → term_on n ts ≡ None)
    → term_on m ts ≡ None
    → AreRefutingUpTo rest σ m c ts
of_all rest σ m c ts each clear e = record {
  each = each;
  clear = clear;
  without = holds_none (term_on m ts) None e;
  below = λ v h. holds_none (term_on m ts) (Some v) e;
}

-- the resolvent of what refutes options and of what refutes the next one
of_both : (rest : List ℕ) (σ : Selection) (m c : ℕ) (left right ts : List Term) → IsResolvent m left right ts
    → AreRefutingUpTo rest σ m c left → AreRefuting rest (changed σ m (Some c)) right
    → AreRefutingUpTo rest σ m (suc c) ts
of_both rest σ m c left right ts res l r = record {
  each = λ n d. holds_off m n left right ts (σ n) res d (l.each n d) (from_changed rest σ m n (Some c) right r d);
  clear = λ n i. none_on m n left right ts res (l.clear n i) (r.clear n i);
  without = holds_on m left right ts None res (inl l.without);
  below = λ v h. elim (cases_eq v c) [
    | inl e ↦ (let last = at_changed rest σ m (Some c) right r in
        holds_on m left right ts (Some v) res
        (inr (subst (λ (k : ℕ). may_hold (term_on m right) (Some k) ≡ true) (sym e) last)))
    | inr d ↦ holds_on m left right ts (Some v) res (inl (l.below v (omega arith)))
  ];
}

-- a term that allows all options of its node isn't written
written_at : (ts : List Term) (t : Term) → AreWritten ts → Contains ts t → term_to_say t ≡ Some t
written_at [] t h i = absurd (in_none t i)
written_at (u ∷ us) t h i = elim (head_or_rest u us t i) [
  | inl e ↦ subst (λ (x : Term). term_to_say x ≡ Some x) e h.0
  | inr r ↦ written_at us t h.1 r
]

pub blank_unwritten : (n : ℕ) (s : List Bool) → term_to_say (NotIn n s) ≡ Some (NotIn n s) → is_blank s ≡ true → ⊥
blank_unwritten n s e b = none-some (NotIn n s) (sym (ap (λ (x : Bool). cond x None (Some (NotIn n s))) b) ∙ e)

pub all_barred : (size : ℕ) (s : List Bool) → length s ≡ size → ((v : ℕ) → v < size → not (has v s) ≡ true)
    → is_blank s ≡ true
all_barred size s l h = elim (cases_Bool (is_blank s)) [
  | inl e ↦ e
  | inr e ↦ (let w = blank_some s e in
      let i = has_within s w.0 w.1 in
      absurd (true≢false (sym w.1 ∙ not-true (has w.0 s) (h w.0 (omega arith)))))
]

none_left : (p : Plain) (m : ℕ) (t : Term) → IsTermOf p t → node_of t ≡ m → term_to_say t ≡ Some t
    → allows t None ≡ true → ((v : ℕ) → v < size_of p m → allows t (Some v) ≡ true) → ⊥
none_left p m (In n s) i e w a b = true≢false (sym a)
none_left p m (NotIn n s) i e w a b =
    blank_unwritten n s w (all_barred (size_of p n) s i.1 (λ v h. b v (subst (λ (k : ℕ). v < size_of p k) e h)))

all_options : (p : Plain) (m : ℕ) (ts : List Term) → AreTermsOf p ts → AreWritten ts
    → may_hold (term_on m ts) None ≡ true → ((v : ℕ) → v < size_of p m → may_hold (term_on m ts) (Some v) ≡ true)
    → term_on m ts ≡ None
all_options p m ts fits written a b = which (term_on m ts) refl a b
  where
    which : (o : Option Term) → term_on m ts ≡ o → may_hold o None ≡ true
        → ((v : ℕ) → v < size_of p m → may_hold o (Some v) ≡ true) → o ≡ None
    which None e x y = refl
    which (Some t) e x y =
        let one = term_one m ts t e in
        absurd (none_left p m t (fits_at p ts t fits one.0) one.1 (written_at ts t written one.0) x y)

-- an open node: what refutes each of its options is at hand
module _ (p : Plain) (m : ℕ) (rest : List ℕ) (wf : IsWellFormed p) (σ : Selection) (tried : IsTried p σ)
    (free : Contains p.roots m → ⊥)
    (go : (τ : Selection) → IsTried p τ → (ss : List Step) → AreRightAfter p [] ss
    → IsSaidAfter p ss (AreRefuting rest τ)) where
  first_option : (steps : List Step) → AreRightAfter p [] steps → IsSaidAfter p steps (AreRefutingUpTo rest σ m 0)
  first_option steps r =
      let f = go (changed σ m None) (changed_tried p σ m None tried free (λ v e. absurd (none-some v e))) steps r in
      said_as p steps (AreRefuting rest (changed σ m None)) (AreRefutingUpTo rest σ m 0) f
      (begun rest σ m (says p f.step) f.such)

  cut_of : (c : ℕ) (steps : List Step) (t u : Term) (f : IsSaidAfter p steps (AreRefutingUpTo rest σ m c))
      (g : IsSaidAfter p (steps ++ f.more) (AreRefuting rest (changed σ m (Some c))))
      → term_on m (says p f.step) ≡ Some t → term_on m (says p g.step) ≡ Some u
      → IsSaidAfter p steps (AreRefutingUpTo rest σ m (suc c))
  cut_of c steps t u f g e h =
      let all : List Step = (steps ++ f.more) ++ g.more in
      let left : slice_get all f.place ≡ Some f.step = get_more (steps ++ f.more) g.more f.step f.place f.at in
      let wl = whole_at p all f.place f.step g.right left in
      let wr = whole_at p all g.place g.step g.right g.at in
      let res = resolved m (says p f.step) (says p g.step) wl.0 wr.0 in
      let last : Step = Cut (suc f.place) (suc g.place) m res.0 in
      let whole : (all ++ last ∷ []) ≡ steps ++ (f.more ++ (g.more ++ last ∷ [])) =
      append_assoc (steps ++ f.more) g.more (last ∷ []) ∙ append_assoc steps f.more (g.more ++ last ∷ []) in
      let cut = cut_right p all f.place g.place m f.step g.step res.0 wf g.right left g.at (t, e) (u, h) res.1 in
      let right : AreRightAfter p [] (all ++ last ∷ []) = right_more p all last g.right cut in
      record {
        more = f.more ++ (g.more ++ last ∷ []);
        right = subst (AreRightAfter p []) whole right;
        place = length all;
        step = last;
        at = subst (λ (l : List Step). slice_get l (length all) ≡ Some last) whole (get_last all last);
        such = of_both rest σ m c (says p f.step) (says p g.step) res.0 res.1 f.such g.such;
      }

  next_option : (c : ℕ) (steps : List Step) → c < size_of p m → IsSaidAfter p steps (AreRefutingUpTo rest σ m c)
      → IsSaidAfter p steps (AreRefutingUpTo rest σ m (suc c))
  next_option c steps h f = which (term_on m (says p f.step)) refl
    where
      other : (t : Term) → term_on m (says p f.step) ≡ Some t
          → (g : IsSaidAfter p (steps ++ f.more) (AreRefuting rest (changed σ m (Some c)))) → (o : Option Term)
          → term_on m (says p g.step) ≡ o
          → IsSaidAfter p steps (AreRefutingUpTo rest σ m (suc c))
      other t e g None k =
          said_later p steps f.more (AreRefuting rest (changed σ m (Some c))) (AreRefutingUpTo rest σ m (suc c)) g
          (of_all rest σ m (suc c) (says p g.step) (λ n d. from_changed rest σ m n (Some c) (says p g.step) g.such d)
          g.such.clear k)
      other t e g (Some u) k = cut_of c steps t u f g e k

      which : (o : Option Term) → term_on m (says p f.step) ≡ o → IsSaidAfter p steps (AreRefutingUpTo rest σ m (suc c))
      which None e =
          said_as p steps (AreRefutingUpTo rest σ m c) (AreRefutingUpTo rest σ m (suc c)) f
          (of_all rest σ m (suc c) (says p f.step) f.such.each f.such.clear e)
      which (Some t) e =
          let fits = changed_tried p σ m (Some c) tried free
          (λ v k. subst (λ (j : ℕ). j < size_of p m) (same_Some c v k) h) in
          let g = go (changed σ m (Some c)) fits (steps ++ f.more) f.right in
          other t e g (term_on m (says p g.step)) refl

  options_up_to : (c : ℕ) (steps : List Step) → c ≤ size_of p m → AreRightAfter p [] steps
      → IsSaidAfter p steps (AreRefutingUpTo rest σ m c)
  options_up_to zero steps h r = first_option steps r
  options_up_to (suc c) steps h r = next_option c steps (omega arith) (options_up_to c steps (omega arith) r)

  node_refuted : (steps : List Step) → AreRightAfter p [] steps → IsSaidAfter p steps (AreRefuting (m ∷ rest) σ)
  node_refuted steps r =
      let f = options_up_to (size_of p m) steps (omega arith) r in
      let fits = fits_at_place p (steps ++ f.more) f.place f.step wf f.right f.at in
      let whole = whole_at p (steps ++ f.more) f.place f.step f.right f.at in
      let none : term_on m (says p f.step) ≡ None =
      all_options p m (says p f.step) fits whole.1 f.such.without f.such.below in
      let off : (n : ℕ) → n ≡ m → term_on n (says p f.step) ≡ None =
      λ n e. ap (λ (k : ℕ). term_on k (says p f.step)) e ∙ none in
      said_as p steps (AreRefutingUpTo rest σ m (size_of p m)) (AreRefuting (m ∷ rest) σ) f (record {
        each =
            λ n. elim (cases_eq n m) [
              | inl e ↦ holds_none (term_on n (says p f.step)) (σ n) (off n e)
              | inr d ↦ f.such.each n d
            ];
        clear =
            λ n i. elim (head_or_rest m rest n i) [ inl e ↦ off n (sym e) | inr j ↦ f.such.clear n j ];
      })

-- each selection of the decided nodes is refuted
pub refuted : (p : Plain) (open_nodes : List ℕ) → IsWellFormed p → HasNone p
    → ((n : ℕ) → Contains open_nodes n → Contains p.roots n → ⊥) → (σ : Selection) → IsTried p σ → (steps : List Step)
    → AreRightAfter p [] steps
    → IsSaidAfter p steps (AreRefuting open_nodes σ)
refuted p [] wf none free σ tried steps r =
    let f = refuting p σ wf none tried in
    record {
      more = f.step ∷ [];
      right = right_more p steps f.step r (f.right steps);
      place = length steps;
      step = f.step;
      at = get_last steps f.step;
      such = record { each = f.each; clear = λ n i. absurd (in_none n i) };
    }
refuted p (m ∷ rest) wf none free σ tried steps r =
    node_refuted p m rest wf σ tried (λ i. free m (at_head m rest m refl) i)
    (λ τ d ss q. refuted p rest wf none (λ n j. free n (in_rest m rest n j)) τ d ss q) steps r
