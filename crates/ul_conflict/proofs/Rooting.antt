-- Where the resolvent forbids the roots.
use Rattle.std.proofs.Common.{◌≡◌, ℕ, zero, suc, List, [], ◌∷◌, Bool, true, false, cond, not, Option, Some, None, refl, ap, ◌∙◌, sym, subst, ◌<◌, ◌≤◌, ◌⊎◌, inl, inr, arith, nat_eq, slice_get, length, take}
use Rattle.std.proofs.lemmas.Bool.{cases_eq, ne_eqb, eqb-true, true≢false}
use Rattle.std.proofs.lemmas.Option.{none-some, same_Some, slice_get_within}
use Rattle.ul_ranges.specs.Flags.{has, is_blank}
use Rattle.ul_ranges.proofs.ForCallers.{none_blank, blank_none}
use Rattle.ul_problem.specs.Plain.{Plain, size_of}
use Rattle.std.specs.List.{Contains}
use Rattle.ul_problem.specs.Problems.{IsWellFormed}
use Rattle.ul_problem.specs.Terms.{allows}
use Rattle.ul_problem.specs.Steps.{AreTermsOf, IsTermOf, AreWritten, term_to_say, IsRootTerm, AreRootTerms}
use Rattle.ul_problem.specs.declared.term.Term.{Term}
use Rattle.ul_problem.specs.declared.term.Term.TheVariants.{In, NotIn}
use Rattle.ul_problem.specs.declared.step.Step.{Step}
use Rattle.ul_problem.proofs.ForCallers.{root_single, at_head, in_rest, head_or_rest, in_none}
use Rattle.ul_trail.specs.Track.{Track}
use Rattle.ul_trail.specs.declared.fact.Fact.{Fact}
use Rattle.ul_trail.specs.Facts.{is_open, IsHeld, AreHeld, one_of, level_of}
use Rattle.ul_trail.specs.Propagation.{IsTrailOf, root_fact, root_facts, AreLater}
use Rattle.ul_trail.proofs.ForCallers.{one_has, take_front, get_cases}
use Rattle.ul_conflict.specs.Satisfiers.{IsSatisfier}
use Rattle.ul_conflict.specs.Resolved.{IsResolved}
use Rattle.ul_conflict.proofs.Deriving.{level_at}
use Rattle.ul_conflict.proofs.Turning.{IsJump, held_at_satisfier}

has_one : (k : ℕ) (ns : List ℕ) → Contains ns k ⊎ (Contains ns k → ⊥)
has_one k [] = inr (λ h. in_none k h)
has_one k (n ∷ ns) = elim (cases_eq n k) [
  | inl e ↦ inl (at_head n ns k e)
  | inr d ↦ elim (has_one k ns) [ inl h ↦ inl (in_rest n ns k h) | inr h ↦ inr (λ x. neither d h x) ]
]
  where
    neither : (n ≡ k → ⊥) → (Contains ns k → ⊥) → Contains (n ∷ ns) k → ⊥
    neither d h x = elim (head_or_rest n ns k x) [ inl e ↦ d e | inr e ↦ h e ]

roots_open : (p : Plain) (ns : List ℕ) (k : ℕ) (o : Option ℕ) → (Contains ns k → ⊥) → is_open (root_facts p ns) k o ≡ true
roots_open p [] k o h = refl
roots_open p (n ∷ ns) k o h =
    ap (λ (b : Bool). cond b (cond (allows (In n (one_of (size_of p n) 0)) o) (is_open (root_facts p ns) k o) false) (is_open (root_facts p ns) k o)) (ne_eqb n k (λ e. h (at_head n ns k e)))
    ∙ roots_open p ns k o (λ x. h (in_rest n ns k x))

roots_first : (p : Plain) (ns : List ℕ) (k : ℕ) → 0 < size_of p k → is_open (root_facts p ns) k (Some 0) ≡ true
roots_first p [] k h = refl
roots_first p (n ∷ ns) k h = which (nat_eq n k) refl (roots_first p ns k h)
  where
    which : (b : Bool) → nat_eq n k ≡ b → is_open (root_facts p ns) k (Some 0) ≡ true → cond b (cond (has 0 (one_of (size_of p n) 0)) (is_open (root_facts p ns) k (Some 0)) false) (is_open (root_facts p ns) k (Some 0)) ≡ true
    which true e i = let z : has 0 (one_of (size_of p n) 0) ≡ true = one_has (size_of p n) 0 (subst (λ (j : ℕ). 0 < size_of p j) (sym (eqb-true n k e)) h) in rw (z, i) refl
    which false e i = i

root_take : (p : Plain) (j : ℕ) (ns : List ℕ) → take j (root_facts p ns) ≡ root_facts p (take j ns)
root_take p zero ns = refl
root_take p (suc j) [] = refl
root_take p (suc j) (n ∷ ns) = ap (λ (l : List Fact). root_fact p n ∷ l) (root_take p j ns)

take_one : (k j : ℕ) (ns : List ℕ) → Contains (take j ns) k → Contains ns k
take_one k zero ns h = absurd (in_none k h)
take_one k (suc j) [] h = absurd (in_none k h)
take_one k (suc j) (n ∷ ns) h = elim (head_or_rest n (take j ns) k h) [
  | inl e ↦ at_head n ns k e
  | inr i ↦ in_rest n ns k (take_one k j ns i)
]

filled : (s : List Bool) → has 0 s ≡ true → is_blank s ≡ false
filled s h = which (is_blank s) refl
  where
    which : (b : Bool) → is_blank s ≡ b → b ≡ false
    which true e = absurd (true≢false (sym h ∙ blank_none s e 0))
    which false e = refl

blank_one : (s : List Bool) → length s ≡ 1 → has 0 s ≡ false → is_blank s ≡ true
blank_one [] l h = absurd (omega arith)
blank_one (b ∷ []) l h = ap (λ (x : Bool). cond x false true) h
blank_one (b ∷ c ∷ s) l h = absurd (omega arith)

not_true : (b : Bool) → not b ≡ true → b ≡ false
not_true true h = sym h
not_true false h = refl

unwritten : (n : ℕ) (s : List Bool) → term_to_say (NotIn n s) ≡ Some (NotIn n s) → is_blank s ≡ true → ⊥
unwritten n s h e = none-some (NotIn n s) (sym (ap (λ (b : Bool). cond b None (Some (NotIn n s))) e) ∙ h)

root_term : (p : Plain) (j : ℕ) (t : Term) → IsWellFormed p → IsTermOf p t → term_to_say t ≡ Some t → IsHeld (root_facts p (take j p.roots)) t → IsRootTerm p t
root_term p j (In n s) wf i w h = elim (has_one n (take j p.roots)) [
  | inl m ↦ (let o = take_one n j p.roots m in let z = root_single p n wf o in
      (o, i, filled s (h (Some 0) (roots_first p (take j p.roots) n (omega arith)))))
  | inr m ↦ absurd (true≢false (sym (h None (roots_open p (take j p.roots) n None m))))
]
root_term p j (NotIn n s) wf i w h = elim (has_one n (take j p.roots)) [
  | inl m ↦ (let o = take_one n j p.roots m in let z = root_single p n wf o in
      unwritten n s w (blank_one s (i.1 ∙ z) (not_true (has 0 s) (h (Some 0) (roots_first p (take j p.roots) n (omega arith))))))
  | inr m ↦ unwritten n s w (none_blank s (λ v. not_true (has v s) (h (Some v) (roots_open p (take j p.roots) n (Some v) m))))
]

root_terms : (p : Plain) (j : ℕ) (ts : List Term) → IsWellFormed p → AreTermsOf p ts → AreWritten ts → AreHeld (root_facts p (take j p.roots)) ts → AreRootTerms p ts
root_terms p j [] wf i w h = tt
root_terms p j (t ∷ ts) wf i w h = (root_term p j t wf i.0 w.0 h.0, root_terms p j ts wf i.1 w.1 h.1)

front_terms : (p : Plain) (t : Track) (at : ℕ) (ts : List Term) → IsWellFormed p → IsTrailOf p t → at ≤ length (root_facts p p.roots) → AreTermsOf p ts → AreWritten ts → AreHeld (take at t.facts) ts → AreRootTerms p ts
front_terms p t at ts wf w l i wr h =
    root_terms p at ts wf i wr (subst (λ (x : List Fact). AreHeld x ts) (ap (take at) w.begun.is ∙ (take_front (root_facts p p.roots) w.begun.rest at l ∙ root_take p at p.roots)) h)

pub closed_none : (p : Plain) (t : Track) (terms : List Term) (number : ℕ) (learned : List Step) (place at : ℕ) (read : List Term) → IsWellFormed p → IsTrailOf p t → IsResolved p t terms number learned place → IsSatisfier t.facts read None place at → read ≡ terms → at ≡ 0 → AreRootTerms p terms
closed_none p t terms number learned place at read wf w s sat e z =
    front_terms p t at terms wf w (omega arith) s.fits s.whole.1 (held_at_satisfier p t terms number learned place at s (subst (λ (x : List Term). IsSatisfier t.facts x None place at) e sat))

get_take : (xs : List Fact) (i k : ℕ) (f : Fact) → k < i → slice_get xs k ≡ Some f → slice_get (take i xs) k ≡ Some f
get_take xs zero k f h e = absurd (omega arith)
get_take [] (suc i) k f h e = absurd (none-some f e)
get_take (x ∷ xs) (suc i) zero f h e = e
get_take (x ∷ xs) (suc i) (suc k) f h e = get_take xs i k f (omega arith) e

later_at : (fs : List Fact) (j : ℕ) (f : Fact) → AreLater fs → slice_get fs j ≡ Some f → f.cause ≡ None → 0 < f.level
later_at [] j f h e n = absurd (none-some f e)
later_at (x ∷ xs) zero f h e n = let s = same_Some x f e in subst (λ (y : Fact). 0 < y.level) s (h.0 (ap (λ (y : Fact). y.cause) s ∙ n))
later_at (x ∷ xs) (suc j) f h e n = later_at xs j f h.1 e n

place_fact : (fs : List Fact) (j : ℕ) → j < length fs → (f : Fact) × (slice_get fs j ≡ Some f)
place_fact [] j q = absurd (omega arith)
place_fact (x ∷ xs) zero q = (x, refl)
place_fact (x ∷ xs) (suc j) q = place_fact xs j (omega arith)

before_level : (p : Plain) (t : Track) (terms : List Term) (number : ℕ) (learned : List Step) (place at before i level : ℕ) (f : Fact) → IsJump p t terms number learned place at before i level f → (b : ℕ) → before ≡ b → level ≤ level_of (take i t.facts)
before_level p t terms number learned place at before i level f j zero e = let z = j.at_level.none e in omega arith
before_level p t terms number learned place at before i level f j (suc k) e =
    let il = slice_get_within t.facts i f j.fact in
    let w = j.next.within in
    let g = place_fact t.facts k (omega arith) in
    let l = j.at_level.some k g.0 e g.1 in
    let r = level_at (take i t.facts) k g.0 (get_take t.facts i k g.0 (omega arith) g.1) in omega arith

pub closed_root : (p : Plain) (t : Track) (terms : List Term) (number : ℕ) (learned : List Step) (place at before i level : ℕ) (f : Fact) → IsWellFormed p → IsTrailOf p t → IsJump p t terms number learned place at before i level f → f.cause ≡ None → f.level ≤ level → AreRootTerms p terms
closed_root p t terms number learned place at before i level f wf w j n l =
    let low = before_level p t terms number learned place at before i level f j before refl in
    let zero' : 0 < f.level → ⊥ = (λ h. (let r = w.raised.at i f j.fact n h in omega arith)) in
    let s = j.state in
    elim (get_cases (root_facts p p.roots) w.begun.rest f i (subst (λ (x : List Fact). slice_get x i ≡ Some f) w.begun.is j.fact)) [
      | inl e ↦ front_terms p t at terms wf w (let a = slice_get_within (root_facts p p.roots) i f e in let b = j.last in omega arith) s.fits s.whole.1 (held_at_satisfier p t terms number learned place at s j.sat)
      | inr e ↦ absurd (zero' (later_at w.begun.rest e.0 f w.begun.later e.1 n))
    ]
