-- A problem that nothing serves has a derivation that is accepted.
use Rattle.std.proofs.Common.{◌≡◌, ℕ, zero, suc, ◌<◌, ◌⊎◌, inl, inr, List, [], ◌∷◌, true, false, not, Option, Some, None, length, arith, refl, sym, ap, ◌∙◌, subst}
use Rattle.std.specs.Prelude.{Contains}
use Rattle.std.proofs.lemmas.Bool.{cases_Bool, cases_eq, true≢false}
use Rattle.std.proofs.lemmas.Option.{none-some}
use Rattle.ul_ranges.specs.Flags.{has, is_blank}
use Rattle.ul_ranges.proofs.ForCallers.{blank_none}
use Rattle.ul_problem.specs.Terms.{IsOrdered, Selection, allows, may_hold, node_of, term_on}
use Rattle.ul_problem.specs.Plain.{Plain, size_of}
use Rattle.ul_problem.specs.Problems.{IsWellFormed}
use Rattle.ul_problem.specs.Steps.{AreRootTerms, AreTermsOf, AreWritten, IsRootTerm, IsTermOf, says, term_to_say}
use Rattle.ul_problem.specs.declared.term.Term.{Term}
use Rattle.ul_problem.specs.declared.term.Term.TheVariants.{In, NotIn}
use Rattle.ul_problem.proofs.ForCallers.{at_head, head_or_rest, in_none, in_rest, on_here, on_past, ordered_more, root_single, term_on-before}
use Rattle.laws_trees.specs.Decided.{Decided}
use Rattle.laws_refutations.proofs.Growing.{closed_from, fits_at_place, whole_at}
use Rattle.laws_refutations.proofs.Refuting.{all_barred, blank_unwritten, refuted}
use Rattle.laws_refutations.proofs.Selections.{IsTried, is_listed, roots_alone, roots_tried}
use Rattle.laws_refutations.specs.Exists.{DerivationExists}

-- the nodes that aren't roots
with_node : {A : Type 0} → Decided A → ℕ → List ℕ → List ℕ
with_node (inl a) n ns = ns
with_node (inr z) n ns = n ∷ ns

others : Plain → ℕ → List ℕ
others p zero = []
others p (suc n) = with_node (is_listed p.roots n) n (others p n)

with_free : (p : Plain) (m : ℕ) (ns : List ℕ) (d : Decided (Contains p.roots m))
    → ((n : ℕ) → Contains ns n → Contains p.roots n → ⊥) → (n : ℕ) → Contains (with_node d m ns) n → Contains p.roots n
    → ⊥
unfolding with_node
with_free p m ns (inl a) free n i = free n i
with_free p m ns (inr z) free n i =
    elim (head_or_rest m ns n i) [ inl e ↦ λ j. z (subst (λ (k : ℕ). Contains p.roots k) (sym e) j) | inr j ↦ free n j ]

others_free : (p : Plain) (count n : ℕ) → Contains (others p count) n → Contains p.roots n → ⊥
unfolding others
others_free p zero n i = absurd (in_none n i)
others_free p (suc m) n i = with_free p m (others p m) (is_listed p.roots m) (others_free p m) n i

with_one : (p : Plain) (m n : ℕ) (ns : List ℕ) (d : Decided (Contains p.roots m))
    → (Contains p.roots n → ⊥) → (m ≡ n) ⊎ Contains ns n → Contains (with_node d m ns) n
unfolding with_node
with_one p m n ns (inl a) z (inl e) = absurd (z (subst (λ (k : ℕ). Contains p.roots k) e a))
with_one p m n ns (inl a) z (inr i) = i
with_one p m n ns (inr y) z (inl e) = at_head m ns n e
with_one p m n ns (inr y) z (inr i) = in_rest m ns n i

others_all : (p : Plain) (count n : ℕ) → n < count → (Contains p.roots n → ⊥) → Contains (others p count) n
unfolding others
others_all p zero n h z = absurd (omega arith)
others_all p (suc m) n h z =
    with_one p m n (others p m) (is_listed p.roots m) z
    (elim (cases_eq m n) [ inl e ↦ inl e | inr d ↦ inr (others_all p m n (omega arith) z) ])

-- a term that holds of a root at its one version
root_term : (p : Plain) (σ : Selection) (t : Term) → IsWellFormed p → IsTried p σ → Contains p.roots (node_of t)
    → IsTermOf p t → term_to_say t ≡ Some t → allows t (σ (node_of t)) ≡ true → IsRootTerm p t
root_term p σ (In n s) wf tried c i w h = (c, i, some)
  where
    one : has 0 s ≡ true
    one = subst (λ (o : Option ℕ). allows (In n s) o ≡ true) (tried.rooted n c) h

    some : is_blank s ≡ false
    some = elim (cases_Bool (is_blank s)) [ inl e ↦ absurd (true≢false (sym one ∙ blank_none s e 0)) | inr e ↦ e ]
root_term p σ (NotIn n s) wf tried c i w h =
    blank_unwritten n s w (all_barred (size_of p n) s i.1 (λ v l. at v (root_single p n wf c) l))
  where
    none : not (has 0 s) ≡ true
    none = subst (λ (o : Option ℕ). allows (NotIn n s) o ≡ true) (tried.rooted n c) h

    at : (v : ℕ) → size_of p n ≡ 1 → v < size_of p n → not (has v s) ≡ true
    at zero e l = none
    at (suc v) e l = absurd (omega arith)

-- terms that hold, and none of which is on another node than a root
root_terms : (p : Plain) (σ : Selection) (ts : List Term) → IsWellFormed p → IsTried p σ → IsOrdered ts
    → AreTermsOf p ts → AreWritten ts
    → ((n : ℕ) → may_hold (term_on n ts) (σ n) ≡ true)
    → ((n : ℕ) → n < length p.nodes → (Contains p.roots n → ⊥) → term_on n ts ≡ None) → AreRootTerms p ts
root_terms p σ [] wf tried o f w h none = tt
root_terms p σ (t ∷ ts) wf tried o f w h none = (
  root_term p σ t wf tried rooted f.0 w.0 holds_here,
  root_terms p σ ts wf tried (ordered_more (node_of t) ts o) f.1 w.1 (λ n. at n (cases_eq (node_of t) n))
      (λ n l z. off n z (none n l z)),
)
  where
    here : term_on (node_of t) (t ∷ ts) ≡ Some t
    here = on_here t (node_of t) ts refl

    rooted : Contains p.roots (node_of t)
    rooted =
        elim (is_listed p.roots (node_of t)) [
          | inl c ↦ c
          | inr z ↦ absurd (none-some t (sym (none (node_of t) f.0.0 z) ∙ here))
        ]

    holds_here : allows t (σ (node_of t)) ≡ true
    holds_here = subst (λ (x : Option Term). may_hold x (σ (node_of t)) ≡ true) here (h (node_of t))

    at : (n : ℕ) → (node_of t ≡ n) ⊎ (node_of t ≡ n → ⊥) → may_hold (term_on n ts) (σ n) ≡ true
    at n (inl e) = ap (λ (x : Option Term). may_hold x (σ n)) (term_on-before ts n (node_of t) o (omega arith))
    at n (inr d) = subst (λ (x : Option Term). may_hold x (σ n) ≡ true) (on_past t n ts d) (h n)

    off : (n : ℕ) → (Contains p.roots n → ⊥) → term_on n (t ∷ ts) ≡ None → term_on n ts ≡ None
    off n z e = sym (on_past t n ts (λ s. z (subst (λ (k : ℕ). Contains p.roots k) s rooted))) ∙ e

-- the steps are complete: what nothing serves has a derivation
pub derivation_exists : DerivationExists
derivation_exists p wf none =
    let nodes : List ℕ = others p (length p.nodes) in
    let tried = roots_tried p wf in
    let f = refuted p nodes wf none (others_free p (length p.nodes)) (roots_alone p) tried [] tt in
    let whole = whole_at p f.more f.place f.step f.right f.at in
    let fits = fits_at_place p f.more f.place f.step wf f.right f.at in
    let roots = root_terms p (roots_alone p) (says p f.step) wf tried whole.0 fits whole.1 f.such.each
    (λ n l z. f.such.clear n (others_all p (length p.nodes) n l z)) in
    let c = closed_from p [] f.more f.place f.step f.right f.at roots in
    (c.0, (c.1, c.2))
