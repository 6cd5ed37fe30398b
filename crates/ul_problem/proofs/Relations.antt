-- What a known term tells of another.
use Rattle.std.proofs.Common.{◌≡◌, ℕ, List, Bool, true, false, cond, not, Some, None, refl, ap, ◌∙◌, sym}
use Rattle.std.proofs.lemmas.Bool.{true≢false}
use Rattle.ul_ranges.specs.Flags.{has, both, less, is_blank}
use Rattle.ul_problem.specs.Terms.{Tells, Denies, relation_of, relation_from_of, IsTold}
use Rattle.ul_problem.specs.declared.term.Term.{Term}
use Rattle.ul_problem.specs.declared.term.Term.TheVariants.{In, NotIn}
use Rattle.ul_ranges.proofs.ForCallers.{has-both, has-less, blank_none, blank_some}

-- a test that is true exactly where a fact holds
abbrev IsTest : Bool → Type 0 → Type 0
IsTest b P = (b ≡ true → P) × (b ≡ false → P → ⊥)

told : (known t : Term) (h f : Bool) → IsTest h (Tells known t) → IsTest f (Denies known t) → IsTold known t (relation_from_of h f)
told known t true f th tf = th.0 refl
told known t false true th tf = (tf.0 refl, th.1 refl)
told known t false false th tf = (th.1 refl, tf.1 refl)

never : (P : Type 0) → (P → ⊥) → IsTest false P
never P n = ((λ e. absurd (true≢false (sym e))), λ e. n)

out_of : (x y : Bool) → cond y false x ≡ false → x ≡ true → y ≡ true
out_of x true h e = refl
out_of x false h e = cc

apart_of : (x y : Bool) → cond x y false ≡ false → x ≡ true → y ≡ false
apart_of true y h e = h
apart_of false y h e = cc

less_both : (x y : Bool) → cond y false x ≡ true → (x ≡ true) × (y ≡ false)
less_both x true h = cc
less_both x false h = (h, refl)

both_both : (x y : Bool) → cond x y false ≡ true → (x ≡ true) × (y ≡ true)
both_both true y h = (refl, h)
both_both false y h = cc

inside : (s t : List Bool) → is_blank (less s t) ≡ true → (k : ℕ) → has k s ≡ true → has k t ≡ true
inside s t e k h = out_of (has k s) (has k t) (sym (has-less k s t) ∙ blank_none (less s t) e k) h

outside : (s t : List Bool) → is_blank (less s t) ≡ false → (k : ℕ) × (has k s ≡ true) × (has k t ≡ false)
outside s t e = let r = blank_some (less s t) e in let b = less_both (has r.0 s) (has r.0 t) (sym (has-less r.0 s t) ∙ r.1) in (r.0, b.0, b.1)

parted : (s t : List Bool) → is_blank (both s t) ≡ true → (k : ℕ) → has k s ≡ true → has k t ≡ false
parted s t e k h = apart_of (has k s) (has k t) (sym (has-both k s t) ∙ blank_none (both s t) e k) h

shared : (s t : List Bool) → is_blank (both s t) ≡ false → (k : ℕ) × (has k s ≡ true) × (has k t ≡ true)
shared s t e = let r = blank_some (both s t) e in let b = both_both (has r.0 s) (has r.0 t) (sym (has-both r.0 s t) ∙ r.1) in (r.0, b.0, b.1)

-- In, In
tells_in : (n m : ℕ) (s t : List Bool) → is_blank (less s t) ≡ true → Tells (In n s) (In m t)
tells_in n m s t e None h = h
tells_in n m s t e (Some v) h = inside s t e v h

tells_in_not : (n m : ℕ) (s t : List Bool) → is_blank (less s t) ≡ false → Tells (In n s) (In m t) → ⊥
tells_in_not n m s t e h = let r = outside s t e in true≢false (sym (h (Some r.0) r.1) ∙ r.2)

denies_in : (n m : ℕ) (s t : List Bool) → is_blank (both s t) ≡ true → Denies (In n s) (In m t)
denies_in n m s t e None h = refl
denies_in n m s t e (Some v) h = parted s t e v h

denies_in_not : (n m : ℕ) (s t : List Bool) → is_blank (both s t) ≡ false → Denies (In n s) (In m t) → ⊥
denies_in_not n m s t e h = let r = shared s t e in true≢false (sym r.2 ∙ h (Some r.0) r.1)

-- In, NotIn
tells_not : (n m : ℕ) (s t : List Bool) → is_blank (both s t) ≡ true → Tells (In n s) (NotIn m t)
tells_not n m s t e None h = refl
tells_not n m s t e (Some v) h = ap not (parted s t e v h)

tells_not_not : (n m : ℕ) (s t : List Bool) → is_blank (both s t) ≡ false → Tells (In n s) (NotIn m t) → ⊥
tells_not_not n m s t e h = let r = shared s t e in true≢false (sym (h (Some r.0) r.1) ∙ ap not r.2)

denies_not : (n m : ℕ) (s t : List Bool) → is_blank (less s t) ≡ true → Denies (In n s) (NotIn m t)
denies_not n m s t e None h = cc
denies_not n m s t e (Some v) h = ap not (inside s t e v h)

denies_not_not : (n m : ℕ) (s t : List Bool) → is_blank (less s t) ≡ false → Denies (In n s) (NotIn m t) → ⊥
denies_not_not n m s t e h = let r = outside s t e in true≢false (sym (ap not r.2) ∙ h (Some r.0) r.1)

-- NotIn, In
back_not : (x y : Bool) → (y ≡ true → x ≡ true) → not x ≡ true → y ≡ false
back_not x true f h = cc (f refl)
back_not x false f h = refl

denies_from : (n m : ℕ) (s t : List Bool) → is_blank (less t s) ≡ true → Denies (NotIn n s) (In m t)
denies_from n m s t e None h = refl
denies_from n m s t e (Some v) h = back_not (has v s) (has v t) (inside t s e v) h

denies_from_not : (n m : ℕ) (s t : List Bool) → is_blank (less t s) ≡ false → Denies (NotIn n s) (In m t) → ⊥
denies_from_not n m s t e h = let r = outside t s e in true≢false (sym r.1 ∙ h (Some r.0) (ap not r.2))

-- NotIn, NotIn
tells_both : (n m : ℕ) (s t : List Bool) → is_blank (less t s) ≡ true → Tells (NotIn n s) (NotIn m t)
tells_both n m s t e None h = refl
tells_both n m s t e (Some v) h = ap not (back_not (has v s) (has v t) (inside t s e v) h)

tells_both_not : (n m : ℕ) (s t : List Bool) → is_blank (less t s) ≡ false → Tells (NotIn n s) (NotIn m t) → ⊥
tells_both_not n m s t e h = let r = outside t s e in true≢false (sym (h (Some r.0) (ap not r.2)) ∙ ap not r.1)

pub relation_exact : (known t : Term) → IsTold known t (relation_of known t)
relation_exact (In n s) (In m t) = told (In n s) (In m t) (is_blank (less s t)) (is_blank (both s t)) (tells_in n m s t, tells_in_not n m s t) (denies_in n m s t, denies_in_not n m s t)
relation_exact (In n s) (NotIn m t) = told (In n s) (NotIn m t) (is_blank (both s t)) (is_blank (less s t)) (tells_not n m s t, tells_not_not n m s t) (denies_not n m s t, denies_not_not n m s t)
relation_exact (NotIn n s) (In m t) = told (NotIn n s) (In m t) false (is_blank (less t s)) (never (Tells (NotIn n s) (In m t)) (λ h. true≢false (sym (h None refl)))) (denies_from n m s t, denies_from_not n m s t)
relation_exact (NotIn n s) (NotIn m t) = told (NotIn n s) (NotIn m t) (is_blank (less t s)) false (tells_both n m s t, tells_both_not n m s t) (never (Denies (NotIn n s) (NotIn m t)) (λ h. true≢false (h None refl)))
