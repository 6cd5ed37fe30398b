-- What is printed of right steps of a problem is a derivation file.
use Rattle.std.proofs.Common.{◌≡◌, ◌≢◌, ℕ, zero, suc, ◌+◌, ◌<◌, ◌^◌, List, [], ◌∷◌, ◌++◌, map, length, Bool, true, false, cond, Option, Some, None, slice_get, arith, refl, sym, ap, subst, ◌∙◌}
use Rattle.std.specs.declared.cmp.Ordering.TheVariants.{Less}
use Rattle.std.proofs.lemmas.List.{length-append, length-map}
use Rattle.std.proofs.lemmas.Option.{none-some, same_Some, slice_get_within}
use Rattle.ul_base.specs.Nodes.{node_cmp, node_cmp-total}
use Rattle.ul_lines.specs.Reader.{Each}
use Rattle.ul_lock.specs.Region.{IsRegion}
use Rattle.ul_marker_text.specs.MarkerOfText.{is_readable}
use Rattle.ul_problem.specs.Plain.{Plain, node_at, size_in}
use Rattle.ul_problem.specs.Problems.{Increases, IncreasesFrom, IsWellFormed, NodeBefore, VersionBefore}
use Rattle.ul_problem.specs.Steps.{AreRightAfter, AreTermsOf, AreWritten, IsIncompat, IsRight, IsStepWithin, IsTermOf, step_of, term_to_say}
use Rattle.ul_problem.specs.Terms.{IsOrdered, IsOrderedFrom, node_of}
use Rattle.ul_problem.specs.declared.problem.NodeFacts.{NodeFacts}
use Rattle.ul_problem.specs.declared.term.Term.{Term}
use Rattle.ul_problem.specs.declared.term.Term.TheVariants.{In, NotIn}
use Rattle.ul_problem.specs.declared.step.Step.{Step}
use Rattle.ul_problem.specs.declared.step.Step.TheVariants.{Need, Python, Base, Cut}
use Rattle.ul_problem.proofs.ForCallers.{AreWithin, all_within, node_whole}
use Rattle.ul_ranges.specs.Flags.{is_blank}
use Rattle.ul_report.specs.Naming.{HasNames, HaveNames, IsPlaced, flagged_elements, named_step, named_steps, named_term, named_terms, node_in as facts_node, node_of_place, versions_in, versions_of_set, with_named}
use Rattle.ul_report.specs.declared.text_steps.TextTerm.{TextTerm}
use Rattle.ul_report.proofs.ForCallers.{right_named}
use Rattle.ul_report_read.specs.Laws.{HasTexts, printed}
use Rattle.ul_report_read.specs.Proofs.{AreTerms, IsNamed, IsProof, IsSet, IsStep, IsTerm, TermBefore}
use Rattle.ul_nodes.specs.Plain as Trees
use Rattle.ul_version.specs.Fields.{Fields, IsVersion}
use Rattle.ul_version.proofs.ForCallers.{version_total}

-- ---- a set of versions that increase

above_from : {A : Type 0} (R : A → A → Type 0) → ((x y z : A) → R x y → R y z → R x z) → (x y : A) (ys : List A) → R x y → IncreasesFrom R y ys → IncreasesFrom R x ys
above_from R trans x y [] h k = tt
above_from R trans x y (z ∷ zs) h k = (trans x y z h k.0, k.1)

flagged_from : {A : Type 0} (R : A → A → Type 0) → ((x y z : A) → R x y → R y z → R x z) → (x : A) (s : List Bool) (ys : List A) → IncreasesFrom R x ys → IncreasesFrom R x (flagged_elements s ys)
flagged_from R trans x [] ys h = tt
flagged_from R trans x (b ∷ bs) [] h = tt
flagged_from R trans x (true ∷ bs) (y ∷ ys) h = (h.0, flagged_from R trans y bs ys h.1)
flagged_from R trans x (false ∷ bs) (y ∷ ys) h = flagged_from R trans x bs ys (above_from R trans x y ys h.0 h.1)

from_all : {A : Type 0} (R : A → A → Type 0) (x : A) (ys : List A) → IncreasesFrom R x ys → Increases R ys
from_all R x [] h = tt
from_all R x (y ∷ ys) h = h.1

flagged_increase : {A : Type 0} (R : A → A → Type 0) → ((x y z : A) → R x y → R y z → R x z) → (s : List Bool) (ys : List A) → Increases R ys → Increases R (flagged_elements s ys)
flagged_increase R trans [] ys h = tt
flagged_increase R trans (b ∷ bs) [] h = tt
flagged_increase R trans (true ∷ bs) (y ∷ ys) h = flagged_from R trans y bs ys h
flagged_increase R trans (false ∷ bs) (y ∷ ys) h = flagged_increase R trans bs ys (from_all R y ys h)

flagged_each : {A : Type 0} (P : A → Type 0) (s : List Bool) (ys : List A) → Each P ys → Each P (flagged_elements s ys)
flagged_each P [] ys h = tt
flagged_each P (b ∷ bs) [] h = tt
flagged_each P (true ∷ bs) (y ∷ ys) h = (h.0, flagged_each P bs ys h.1)
flagged_each P (false ∷ bs) (y ∷ ys) h = flagged_each P bs ys h.1

flagged_some : {A : Type 0} (s : List Bool) (ys : List A) → is_blank s ≡ false → length s ≡ length ys → flagged_elements s ys ≢ []
flagged_some [] ys h l = absurd cc
flagged_some (b ∷ bs) [] h l = absurd (omega arith)
flagged_some (true ∷ bs) (y ∷ ys) h l = λ e. cc
flagged_some (false ∷ bs) (y ∷ ys) h l = flagged_some bs ys h (omega arith)

-- ---- nodes of a problem

record IsKnown (p : Plain) (n : ℕ) : Type 0 where
  facts : NodeFacts
  at : node_at p n ≡ Some facts

facts_at : (nodes : List NodeFacts) (n : ℕ) → n < length nodes → (f : NodeFacts) × (slice_get nodes n ≡ Some f)
facts_at [] n h = absurd (omega arith)
facts_at (f ∷ fs) zero h = (f, refl)
facts_at (f ∷ fs) (suc n) h = facts_at fs n (omega arith)

known : (p : Plain) (n : ℕ) → n < length p.nodes → IsKnown p n
known p n h = let k = facts_at p.nodes n h in record { facts = k.0; at = k.1 }

each_at : (nodes : List NodeFacts) (n : ℕ) (f : NodeFacts) → Each HasTexts nodes → slice_get nodes n ≡ Some f → HasTexts f
each_at [] n f h e = absurd (none-some f e)
each_at (g ∷ gs) zero f h e = subst (λ (z : NodeFacts). HasTexts z) (same_Some g f e) h.0
each_at (g ∷ gs) (suc n) f h e = each_at gs n f h.1 e

node_named : (p : Plain) (n : ℕ) → Each HasTexts p.nodes → n < length p.nodes → IsNamed (node_of_place p n)
node_named p n t h =
    let k = known p n h in
    subst (λ (o : Option NodeFacts). IsNamed (facts_node o)) (sym k.at) (each_at p.nodes n k.facts t k.at).node

before_trans : (x y z : Fields) → VersionBefore x y → VersionBefore y z → VersionBefore x z
before_trans x y z = version_total.trans x y z

set_named : (p : Plain) (n : ℕ) (s : List Bool) → IsWellFormed p → Each HasTexts p.nodes → n < length p.nodes → IsSet (versions_of_set p n s)
set_named p n s whole t h =
    let k = known p n h in
    subst (λ (o : Option NodeFacts). IsSet (flagged_elements s (versions_in o))) (sym k.at)
    (record {
      each = flagged_each IsVersion s k.facts.versions (each_at p.nodes n k.facts t k.at).versions;
      increase = flagged_increase VersionBefore before_trans s k.facts.versions (node_whole p n k.facts whole k.at).increasing;
    })

set_filled : (p : Plain) (n : ℕ) (s : List Bool) → IsPlaced p n s → is_blank s ≡ false → versions_of_set p n s ≢ []
set_filled p n s h b =
    let k = known p n h.0 in
    subst (λ (o : Option NodeFacts). flagged_elements s (versions_in o) ≢ []) (sym k.at) (flagged_some s k.facts.versions b (h.1 ∙ ap size_in k.at))

nodes_trans : (f g h : NodeFacts) → NodeBefore f g → NodeBefore g h → NodeBefore f h
nodes_trans f g h = node_cmp-total.trans f.node g.node h.node

rises_from : (f : NodeFacts) (fs : List NodeFacts) (j : ℕ) (g : NodeFacts) → IncreasesFrom NodeBefore f fs → slice_get fs j ≡ Some g → NodeBefore f g
rises_from f [] j g h e = absurd (none-some g e)
rises_from f (x ∷ xs) zero g h e = subst (λ (z : NodeFacts). NodeBefore f z) (same_Some x g e) h.0
rises_from f (x ∷ xs) (suc j) g h e = nodes_trans f x g h.0 (rises_from x xs j g h.1 e)

rises : (fs : List NodeFacts) (i j : ℕ) (f g : NodeFacts) → Increases NodeBefore fs → i < j → slice_get fs i ≡ Some f → slice_get fs j ≡ Some g → NodeBefore f g
rises [] i j f g h l d e = absurd (none-some f d)
rises (x ∷ xs) i zero f g h l d e = absurd (omega arith)
rises (x ∷ xs) zero (suc j) f g h l d e = subst (λ (z : NodeFacts). NodeBefore z g) (same_Some x f d) (rises_from x xs j g h e)
rises (x ∷ xs) (suc i) (suc j) f g h l d e = rises xs i j f g (from_all NodeBefore x xs h) (omega arith) d e

nodes_rise : (p : Plain) (i j : ℕ) → IsWellFormed p → i < j → j < length p.nodes → node_cmp (node_of_place p i) (node_of_place p j) ≡ Less
nodes_rise p i j whole l h =
    let a = known p i (omega arith) in
    let b = known p j h in
    subst (λ (o : Option NodeFacts). node_cmp (facts_node o) (node_of_place p j) ≡ Less) (sym a.at)
    (subst (λ (o : Option NodeFacts). node_cmp a.facts.node (facts_node o) ≡ Less) (sym b.at) (rises p.nodes i j a.facts b.facts whole.increasing l a.at b.at))

-- ---- terms

term_named : (p : Plain) (t : Term) → IsWellFormed p → Each HasTexts p.nodes → IsTermOf p t → term_to_say t ≡ Some t → IsTerm (named_term p t)
term_named p (In n s) whole x h w = (node_named p n x h.0, set_named p n s whole x h.0)
term_named p (NotIn n s) whole x h w = (node_named p n x h.0, set_named p n s whole x h.0, set_filled p n s h (not_blank (is_blank s) refl w))
  where
    not_blank : (b : Bool) → is_blank s ≡ b → cond b None (Some (NotIn n s)) ≡ Some (NotIn n s) → is_blank s ≡ false
    not_blank true q e = absurd (none-some (NotIn n s) e)
    not_blank false q e = q

-- terms that are all written, one by one
all_named : (p : Plain) (ts : List Term) → AreWritten ts → named_terms p ts ≡ map (named_term p) ts
all_named p [] w = refl
all_named p (t ∷ ts) w =
    ap (λ (o : Option Term). with_named p o (named_terms p ts)) w.0 ∙ ap (λ (us : List TextTerm). named_term p t ∷ us) (all_named p ts w.1)

each_named : (p : Plain) (ts : List Term) → IsWellFormed p → Each HasTexts p.nodes → AreTermsOf p ts → AreWritten ts → Each IsTerm (map (named_term p) ts)
each_named p [] whole x h w = tt
each_named p (t ∷ ts) whole x h w = (term_named p t whole x h.0 w.0, each_named p ts whole x h.1 w.1)

term_before : (p : Plain) (t u : Term) → IsWellFormed p → node_of t < node_of u → IsTermOf p u → TermBefore (named_term p t) (named_term p u)
term_before p (In n s) (In m r) whole l h = nodes_rise p n m whole l h.0
term_before p (In n s) (NotIn m r) whole l h = nodes_rise p n m whole l h.0
term_before p (NotIn n s) (In m r) whole l h = nodes_rise p n m whole l h.0
term_before p (NotIn n s) (NotIn m r) whole l h = nodes_rise p n m whole l h.0

terms_from : (p : Plain) (t : Term) (ts : List Term) → IsWellFormed p → IsOrderedFrom (node_of t) ts → AreTermsOf p ts → IncreasesFrom TermBefore (named_term p t) (map (named_term p) ts)
terms_from p t [] whole o h = tt
terms_from p t (u ∷ us) whole o h = (term_before p t u whole o.0 h.0, terms_from p u us whole o.1 h.1)

terms_increase : (p : Plain) (ts : List Term) → IsWellFormed p → IsOrdered ts → AreTermsOf p ts → Increases TermBefore (map (named_term p) ts)
terms_increase p [] whole o h = tt
terms_increase p (t ∷ ts) whole o h = terms_from p t ts whole o h.1

terms_named : (p : Plain) (ts : List Term) → IsWellFormed p → Each HasTexts p.nodes → AreTermsOf p ts → IsIncompat ts → AreTerms (named_terms p ts)
terms_named p ts whole x h w =
    subst (λ (us : List TextTerm). AreTerms us) (sym (all_named p ts w.1)) (record { each = each_named p ts whole x h w.1; increase = terms_increase p ts whole w.0 h })

-- ---- steps

number_fits : (earlier : List Step) (i size : ℕ) (s : Step) → step_of earlier i ≡ Some s → length earlier < size → i < size
number_fits earlier zero size s e l = absurd (none-some s e)
number_fits earlier (suc k) size s e l = omega (arith, slice_get_within earlier k s e)

-- the numbers of a cut are below a size
abbrev HasNumbers : ℕ → Step → Type 0
HasNumbers size (Need n s m w) = Unit {0}
HasNumbers size (Python n s) = Unit {0}
HasNumbers size (Base n s) = Unit {0}
HasNumbers size (Cut i j m ts) = (i < size) × (j < size)

step_named : (p : Plain) (s : Step) → IsWellFormed p → Each HasTexts p.nodes → HasNames p s → IsStepWithin p s → HasNumbers (2 ^ 64) s → IsStep (named_step p s)
step_named p (Need n s m w) whole x h i k = (node_named p n x h.0.0, set_named p n s whole x h.0.0, node_named p m x h.1.0, set_named p m w whole x h.1.0)
step_named p (Python n s) whole x h i k = (node_named p n x h.0, set_named p n s whole x h.0)
step_named p (Base n s) whole x h i k = (node_named p n x h.0, set_named p n s whole x h.0)
step_named p (Cut i j m ts) whole x h w k = (k.0, k.1, node_named p m x h.0, terms_named p ts whole x w.0 w.1)

numbers_at : (p : Plain) (earlier : List Step) (s : Step) (size : ℕ) → length earlier < size → IsRight p earlier s → HasNumbers size s
numbers_at p earlier (Need n s m w) size l r = tt
numbers_at p earlier (Python n s) size l r = tt
numbers_at p earlier (Base n s) size l r = tt
numbers_at p earlier (Cut i j m ts) size l (of, (left, right, el, er, hl, hr, res)) = (number_fits earlier i size left el l, number_fits earlier j size right er l)

steps_from : (p : Plain) (earlier ss : List Step) → IsWellFormed p → Each HasTexts p.nodes → HaveNames p ss → AreWithin p ss → AreRightAfter p earlier ss → length earlier + length ss < 2 ^ 64 → Each IsStep (named_steps p ss)
steps_from p earlier [] whole x h w r l = tt
steps_from p earlier (s ∷ ss) whole x h w r l = (
  step_named p s whole x h.0 (w 0 s refl) (numbers_at p earlier s (2 ^ 64) (omega arith) r.0),
  steps_from p (earlier ++ s ∷ []) ss whole x h.1 (λ k t e. w (suc k) t e) r.1 (omega (arith, length-append earlier (s ∷ []))),
)

-- what is printed is a derivation file
pub printed_proof : (p : Plain) (path : List Bool) (region : Trees.Plain) (steps : List Step) → IsWellFormed p → Each HasTexts p.nodes → IsRegion region → is_readable region ≡ true → length steps < 2 ^ 64 → AreRightAfter p [] steps → IsProof (printed p path region steps)
printed_proof p path region steps whole x g d l r = record {
  region = g;
  readable = d;
  steps = steps_from p [] steps whole x (right_named p steps whole r) (all_within p steps r) r (omega (arith, l));
  count = omega (arith, length-map steps (named_step p));
}
