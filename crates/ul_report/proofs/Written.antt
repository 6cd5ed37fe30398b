-- What is written, piece by piece.
use Rattle.std.proofs.Common.{◌≡◌, ℕ, zero, suc, ◌+◌, ◌<◌, true, false, Bool, cond, arith, List, [], ◌∷◌, ◌++◌, length, drop, get_or, refl, sym, ap, subst, ◌∙◌, append_assoc, Some, None, slice_get}
use Rattle.std.specs.Prelude.{flat_map, codes}
use Rattle.std.proofs.lemmas.Option.{slice_get_read}
use Rattle.std.proofs.lemmas.Bool.{true≢false}
use Rattle.std.proofs.lemmas.List.{append-nil}
use Rattle.ul_ranges.specs.Flags.{IsNextMember}
use Rattle.ul_version.specs.Fields.{Fields}
use Rattle.ul_version.specs.Texts.{version_text}
use Rattle.ul_problem.specs.Plain.{Plain, node_at}
use Rattle.ul_problem.specs.declared.problem.NodeFacts.{NodeFacts}
use Rattle.ul_problem.specs.Steps.{AreTermsOf, IsTermOf}
use Rattle.ul_problem.specs.declared.term.Term.{Term}
use Rattle.ul_problem.specs.declared.step.Step.{Step}
use Rattle.ul_report.specs.Naming.{flagged_elements, node_in, versions_in, node_of_place, versions_of_set, HasNames, HaveNames}
use Rattle.ul_report.specs.Texts.{comma, versions_text, node_text, placed_text}

-- ---- the members of a set

no_elements : {A : Type 0} (s : List Bool) → flagged_elements {A = A} s [] ≡ []
no_elements [] = refl
no_elements (b ∷ bs) = refl

tail_none : {A : Type 0} (s : List Bool) (vs : List A) → IsNextMember s 0 None → flagged_elements s vs ≡ []
tail_none [] vs h = refl
tail_none (b ∷ bs) [] h = refl
tail_none (b ∷ bs) (v ∷ vs) h =
    ap (λ z. cond z (v ∷ flagged_elements bs vs) (flagged_elements bs vs)) (h 0 (omega arith)) ∙ tail_none bs vs (λ k least. h (suc k) (omega arith))

-- where no member follows, nothing is left
pub none_left : {A : Type 0} (s : List Bool) (vs : List A) (from : ℕ) → IsNextMember s from None → flagged_elements (drop from s) (drop from vs) ≡ []
none_left s vs zero h = tail_none s vs h
none_left [] vs (suc n) h = refl
none_left (b ∷ bs) [] (suc n) h = no_elements (drop n bs)
none_left (b ∷ bs) (v ∷ vs) (suc n) h = none_left bs vs n (λ k below. h (suc k) (omega arith))

first_left : {A : Type 0} (s : List Bool) (vs : List A) (from m : ℕ) (v : A) → IsNextMember s from (Some m) → m < length vs → v ≡ get_or vs m v → flagged_elements (drop from s) (drop from vs) ≡ v ∷ flagged_elements (drop (suc m) s) (drop (suc m) vs)
first_left [] vs from m v h l e = absurd (true≢false (sym h.1))
first_left (b ∷ bs) [] from m v h l e = absurd (omega arith)
first_left (b ∷ bs) (w ∷ ws) zero zero v h l e =
    ap (λ z. cond z (w ∷ flagged_elements bs ws) (flagged_elements bs ws)) h.1 ∙ ap (λ z. z ∷ flagged_elements bs ws) (sym e)
first_left (b ∷ bs) (w ∷ ws) zero (suc m) v h l e =
    ap (λ z. cond z (w ∷ flagged_elements bs ws) (flagged_elements bs ws)) (h.2 0 (omega arith) (omega arith))
    ∙ first_left bs ws zero m v (omega arith, h.1, λ k least below. h.2 (suc k) (omega arith) (omega arith)) (omega arith) e
first_left (b ∷ bs) (w ∷ ws) (suc n) zero v h l e = absurd (omega (arith, h.0))
first_left (b ∷ bs) (w ∷ ws) (suc n) (suc m) v h l e =
    first_left bs ws n m v (omega (arith, h.0), h.1, λ k least below. h.2 (suc k) (omega arith) (omega arith)) (omega arith) e

-- the next member is the first that is left
pub next_left : {A : Type 0} (s : List Bool) (vs : List A) (from m : ℕ) (v : A) → IsNextMember s from (Some m) → m < length vs → v ≡ get_or vs m v → flagged_elements (drop from s) (drop from vs) ≡ v ∷ flagged_elements (drop (m + 1) s) (drop (m + 1) vs)
next_left s vs from m v h l e =
    let more : suc m ≡ m + 1 = omega arith in
    first_left s vs from m v h l e ∙ ap (λ k. v ∷ flagged_elements (drop k s) (drop k vs)) more

-- a version is written, and the others are left
pub version_written : (before out new : List ℕ) (first : Bool) (v : Fields) (rest all : List Fields) → new ≡ out ++ (comma first ++ version_text v) → out ++ versions_text first all ≡ before → all ≡ v ∷ rest → new ++ versions_text false rest ≡ before
version_written before out new first v rest all n h a =
    ap (λ z. z ++ versions_text false rest) n
    ∙ (regroup out (comma first) (version_text v) (versions_text false rest) ∙ (ap (λ z. out ++ versions_text first z) (sym a) ∙ h))
  where
    regroup : (o a b c : List ℕ) → (o ++ (a ++ b)) ++ c ≡ o ++ (a ++ (b ++ c))
    regroup o a b c = simp append_assoc

-- the last version is written
pub versions_written : (before out : List ℕ) (first : Bool) (all : List Fields) → out ++ versions_text first all ≡ before → all ≡ [] → out ≡ before
versions_written before out first all h a = sym (append-nil out) ∙ (ap (λ z. out ++ versions_text first z) (sym a) ∙ h)

-- ---- parts behind each other

-- eight texts behind others
pub eight_written : {X : Type 0} (f : X → List ℕ) (o : List ℕ) (a b c d e g h i : X) → (((((((o ++ f a) ++ f b) ++ f c) ++ f d) ++ f e) ++ f g) ++ f h) ++ f i ≡ o ++ flat_map f (a ∷ b ∷ c ∷ d ∷ e ∷ g ∷ h ∷ i ∷ [])
eight_written f o a b c d e g h i = simp (append_assoc, append-nil)

-- what stands behind `cut`
pub cut_written : (o a b c d e g h : List ℕ) → ((((((o ++ a) ++ b) ++ c) ++ d) ++ e) ++ g) ++ h ≡ o ++ (a ++ (b ++ (c ++ (d ++ (e ++ (g ++ h))))))
cut_written o a b c d e g h = simp append_assoc

-- ---- a node of the problem

-- what is known of a node, read from the problem's nodes
pub facts_found : (p : Plain) (nodes : List NodeFacts) (n : ℕ) (f : NodeFacts) → nodes ≡ p.nodes → n < length p.nodes → f ≡ get_or nodes n f → node_at p n ≡ Some f
facts_found p nodes n f e l r = ap (λ z. slice_get z n) (sym e) ∙ slice_get_read nodes (length p.nodes) n f (ap length (sym e)) l r

-- a node and a set of its versions
pub placed_written : (o : List ℕ) (p : Plain) (n : ℕ) (s : List Bool) (f : NodeFacts) → node_at p n ≡ Some f → (((o ++ node_text f.node) ++ codes " {") ++ versions_text true (flagged_elements s f.versions)) ++ codes "}" ≡ o ++ placed_text (node_of_place p n) (versions_of_set p n s)
unfolding placed_text
placed_written o p n s f e =
    regroup o (node_text f.node) (codes " {") (versions_text true (flagged_elements s f.versions)) (codes "}")
    ∙ ap (λ z. o ++ placed_text (node_in z) (flagged_elements s (versions_in z))) (sym e)
  where
    regroup : (o a b c d : List ℕ) → (((o ++ a) ++ b) ++ c) ++ d ≡ o ++ (a ++ (b ++ (c ++ d)))
    regroup o a b c d = simp append_assoc

-- ---- terms

-- the term at a place is one of the problem
pub term_at : (p : Plain) (ts : List Term) (i : ℕ) (t : Term) → AreTermsOf p ts → i < length ts → t ≡ get_or ts i t → IsTermOf p t
term_at p [] i t h l e = absurd (omega arith)
term_at p (u ∷ us) zero t h l e = subst (λ z. IsTermOf p z) (sym e) h.0
term_at p (u ∷ us) (suc i) t h l e = term_at p us i t h.1 (omega arith) e

-- ---- steps

-- the step at a place has names
pub step_at : (p : Plain) (ss : List Step) (i : ℕ) (s : Step) → HaveNames p ss → i < length ss → s ≡ get_or ss i s → HasNames p s
step_at p [] i s h l e = absurd (omega arith)
step_at p (u ∷ us) zero s h l e = subst (λ z. HasNames p z) (sym e) h.0
step_at p (u ∷ us) (suc i) s h l e = step_at p us i s h.1 (omega arith) e
