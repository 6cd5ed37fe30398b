-- Which facts hold terms.
use Rattle.std.proofs.Common.{◌≡◌, ℕ, zero, suc, ◌+◌, ◌-◌, List, [], ◌∷◌, ◌++◌, true, false, Option, Some, None, refl, ap, ◌∙◌, sym, subst, ◌<◌, ◌≤◌, inl, inr, arith, nat_eq, eq-eqb, slice_get, get_or, length, take}
use Rattle.std.specs.Option.{option_eq}
use Rattle.std.proofs.lemmas.Bool.{cases_eq, true≢false}
use Rattle.std.proofs.lemmas.Option.{none-some, same_Some, slice_get_read}
use Rattle.ul_problem.specs.Plain.{Plain, size_of}
use Rattle.ul_problem.specs.Terms.{node_of, set_of, term_on, relation_of, IsTold}
use Rattle.ul_problem.specs.Steps.{AreTermsOf, IsTermOf}
use Rattle.ul_problem.specs.declared.term.Term.{Term}
use Rattle.ul_problem.specs.declared.term.Relation.{Relation}
use Rattle.ul_problem.specs.declared.term.Relation.TheVariants.{Holds, Fails, Unknown}
use Rattle.ul_problem.proofs.ForCallers.{relation_exact, term_one, fits_at}
use Rattle.ul_trail.specs.declared.fact.Fact.{Fact}
use Rattle.ul_trail.specs.Facts.{is_open, IsHeld, AreHeld, IsMirror}
use Rattle.ul_trail.specs.Counts.{sizes_of}
use Rattle.ul_trail.proofs.ForCallers.{take_next, open_past, append_within, sizes_at}
use Rattle.ul_conflict.specs.Satisfiers.{IsHeldApart, TakesPart, LeavesOut}

pub skip_apart : (skip : Option ℕ) (n : ℕ) → false ≡ option_eq nat_eq skip (Some n) → skip ≡ Some n → ⊥
skip_apart skip n h e = true≢false (sym (eq-eqb n n refl) ∙ (sym (ap (λ (o : Option ℕ). option_eq nat_eq o (Some n)) e) ∙ sym h))

mirror_free : (facts : List Fact) (n size : ℕ) (q t : Term) (r : Relation) → IsMirror facts n size q → node_of t ≡ n → IsTold q t r → (r ≡ Holds → ⊥) → IsHeld facts t → ⊥
mirror_free facts n size q t Holds m e h x a = x refl
mirror_free facts n size q t Fails m e h x a = h.1 (λ o y. a o (subst (λ (k : ℕ). is_open facts k o ≡ true) (sym e) (sym (m.same o) ∙ y)))
mirror_free facts n size q t Unknown m e h x a = h.0 (λ o y. a o (subst (λ (k : ℕ). is_open facts k o ≡ true) (sym e) (sym (m.same o) ∙ y)))

pub told_free : (facts : List Fact) (n size : ℕ) (q t : Term) (r : Relation) → IsMirror facts n size q → node_of t ≡ n → r ≡ relation_of q t → (r ≡ Holds → ⊥) → IsHeld facts t → ⊥
told_free facts n size q t r m e f = mirror_free facts n size q t r m e (subst (λ (x : Relation). IsTold q t x) (sym f) (relation_exact q t))

pub told_held : (facts : List Fact) (n size : ℕ) (q t : Term) (r : Relation) → IsMirror facts n size q → node_of t ≡ n → r ≡ relation_of q t → r ≡ Holds → IsHeld facts t
told_held facts n size q t r m e f g =
    let h : IsTold q t Holds = subst (λ (x : Relation). IsTold q t x) (sym f ∙ g) (relation_exact q t) in
    λ o x. h o (m.same o ∙ subst (λ (k : ℕ). is_open facts k o ≡ true) e x)

-- as the code has it
pub fact_at : (facts items : List Fact) (i : ℕ) (f : Fact) → items ≡ facts → i < length facts → f ≡ get_or items i f → slice_get facts i ≡ Some f
fact_at facts items i f e l g = slice_get_read facts (length facts) i f refl l (subst (λ (x : List Fact). f ≡ get_or x i f) e g)

pub term_fits : (p : Plain) (ts : List Term) (n : ℕ) (t : Term) → AreTermsOf p ts → Some t ≡ term_on n ts → (node_of t ≡ n) × IsTermOf p t
term_fits p ts n t h e = let o = term_one n ts t (sym e) in (o.1, fits_at p ts t h o.0)

pub term_size : (p : Plain) (ts : List Term) (n : ℕ) (f : Fact) (t q : Term) (sizes : List ℕ) (facts : List Fact) → AreTermsOf p ts → Some t ≡ term_on n ts → n ≡ node_of f.term → sizes ≡ sizes_of p → IsMirror facts (node_of f.term) (get_or sizes (node_of f.term) 0) q
    → (length (set_of t) ≡ length (set_of q)) × (node_of t ≡ node_of q)
term_size p ts n f t q sizes facts h e g s m =
    let o = term_fits p ts n t h e in
    let a : length (set_of t) ≡ get_or sizes (node_of f.term) 0 = o.1.1 ∙ (ap (size_of p) (o.0 ∙ g) ∙ (sym (sizes_at p (node_of f.term)) ∙ ap (λ (z : List ℕ). get_or z (node_of f.term) 0) (sym s))) in
    (a ∙ sym m.fits, (o.0 ∙ g) ∙ sym m.node)

pub part_yes : (p : Plain) (facts : List Fact) (ts : List Term) (skip : Option ℕ) (i n size : ℕ) (f : Fact) (t q : Term) (r : Relation) → slice_get facts i ≡ Some f → n ≡ node_of f.term → (skip ≡ Some n → ⊥) → AreTermsOf p ts → Some t ≡ term_on n ts
    → IsMirror (take i facts) (node_of f.term) size q → r ≡ relation_of q t → (r ≡ Holds → ⊥) → TakesPart facts ts skip i
part_yes p facts ts skip i n size f t q r e g s h o m w x = record {
  fact = f;
  is = e;
  term = t;
  on = subst (λ (k : ℕ). term_on k ts ≡ Some t) g (sym o);
  apart = λ y. s (y ∙ ap Some (sym g));
  free = told_free (take i facts) (node_of f.term) size q t r m ((term_fits p ts n t h o).0 ∙ g) w x;
}

pub part_held : (p : Plain) (facts : List Fact) (ts : List Term) (skip : Option ℕ) (i n size : ℕ) (f : Fact) (t q : Term) (r : Relation) → slice_get facts i ≡ Some f → n ≡ node_of f.term → AreTermsOf p ts → Some t ≡ term_on n ts
    → IsMirror (take i facts) (node_of f.term) size q → r ≡ relation_of q t → r ≡ Holds → LeavesOut facts ts skip i
part_held p facts ts skip i n size f t q r e g h o m w x = record {
  fact = f;
  is = e;
  held = λ u y z. subst (IsHeld (take i facts)) (same_Some t u (o ∙ (ap (λ (k : ℕ). term_on k ts) g ∙ z))) (told_held (take i facts) (node_of f.term) size q t r m ((term_fits p ts n t h o).0 ∙ g) w x);
}

pub part_none : (facts : List Fact) (ts : List Term) (skip : Option ℕ) (i n : ℕ) (f : Fact) → slice_get facts i ≡ Some f → n ≡ node_of f.term → None ≡ term_on n ts → LeavesOut facts ts skip i
part_none facts ts skip i n f e g o = record { fact = f; is = e; held = λ u y z. absurd (none-some u (o ∙ (ap (λ (k : ℕ). term_on k ts) g ∙ z))) }

-- one fact less
pub held_down : (facts : List Fact) (i : ℕ) (f : Fact) (t : Term) → slice_get facts i ≡ Some f → (node_of f.term ≡ node_of t → ⊥) → IsHeld (take (i + 1) facts) t → IsHeld (take i facts) t
held_down facts i f t e n h = λ o x. h o (subst (λ (l : List Fact). is_open l (node_of t) o ≡ true) (sym (take_next facts f i e)) (open_past (take i facts) f (node_of t) o n ∙ x))

down_one : (facts : List Fact) (ts : List Term) (skip : Option ℕ) (i : ℕ) → LeavesOut facts ts skip i → IsHeldApart (take (i + 1) facts) ts skip → IsHeldApart (take i facts) ts skip
down_one facts ts skip i l h = record {
  at = λ k t s e. elim (cases_eq (node_of l.fact.term) k) [
    | inl q ↦ l.held t (λ y. s (y ∙ ap Some q)) (ap (λ (j : ℕ). term_on j ts) q ∙ e)
    | inr d ↦ held_down facts i l.fact t l.is (λ y. d (y ∙ (term_one k ts t e).1)) (h.at k t s e)
  ];
}

pub down_step : (facts : List Fact) (ts : List Term) (skip : Option ℕ) (place : ℕ) → 0 < place → LeavesOut facts ts skip (place - 1) → IsHeldApart (take place facts) ts skip → IsHeldApart (take (place - 1) facts) ts skip
down_step facts ts skip place z l h = down_one facts ts skip (place - 1) l (subst (λ (j : ℕ). IsHeldApart (take j facts) ts skip) (omega arith) h)

pub part_here : (facts : List Fact) (ts : List Term) (skip : Option ℕ) (place : ℕ) → TakesPart facts ts skip (place - 1) → (i : ℕ) → place ≡ suc i → TakesPart facts ts skip i
part_here facts ts skip place h i e = subst (TakesPart facts ts skip) (omega arith) h

pub more_held : (xs ys : List Fact) (t : Term) → IsHeld xs t → IsHeld (xs ++ ys) t
more_held xs ys t h = λ o x. h o (append_within xs ys (node_of t) o x)

pub all_more_held : (xs ys : List Fact) (ts : List Term) → AreHeld xs ts → AreHeld (xs ++ ys) ts
all_more_held xs ys [] h = tt
all_more_held xs ys (t ∷ ts) h = (more_held xs ys t h.0, all_more_held xs ys ts h.1)

-- a front of a front
pub take_more : {A : Type 0} (xs : List A) (i j : ℕ) → i ≤ j → (rest : List A) × (take j xs ≡ take i xs ++ rest)
take_more {A} xs zero j h = (take j xs, refl)
take_more {A} xs (suc i) zero h = absurd (omega arith)
take_more {A} [] (suc i) (suc j) h = ([], refl)
take_more {A} (x ∷ xs) (suc i) (suc j) h = let r = take_more xs i j (omega arith) in (r.0, ap (λ (l : List A). x ∷ l) r.1)

pub take_held : (facts : List Fact) (i j : ℕ) (ts : List Term) → i ≤ j → AreHeld (take i facts) ts → AreHeld (take j facts) ts
take_held facts i j ts h a = let r = take_more facts i j h in subst (λ (l : List Fact). AreHeld l ts) (sym r.1) (all_more_held (take i facts) r.0 ts a)

pub take_held_one : (facts : List Fact) (i j : ℕ) (t : Term) → i ≤ j → IsHeld (take i facts) t → IsHeld (take j facts) t
take_held_one facts i j t h a = let r = take_more facts i j h in subst (λ (l : List Fact). IsHeld l t) (sym r.1) (more_held (take i facts) r.0 t a)
