-- The worked example.
use Rattle.std.proofs.Common.{◌≡◌, ℕ, zero, suc, [], ◌∷◌, true, false, None, refl, inl, inr, arith, ◌<◌}
use Rattle.std.proofs.lemmas.Bool.{ne_eqb}
use Rattle.std.proofs.Common.{nat_eq, subst, sym}
use Rattle.std.proofs.lemmas.Option.{same_Some, none-some}
use Rattle.std.specs.List.{Contains}
use Rattle.ul_problem.proofs.ForCallers.{at_head, head_or_rest, in_none}
use Rattle.ul_problem.specs.Steps.{says}
use Rattle.ul_problem.specs.declared.step.Step.{Step}
use Rattle.ul_ranges.specs.Flags.{has}
use Rattle.ul_problem.specs.Plain.{needs_of}
use Rattle.ul_problem.specs.Terms.{term_on}
use Rattle.ul_problem.specs.Steps.{HasNeed, IsRight, IsResolvent, resolvent_term}
use Rattle.ul_problem.specs.declared.term.Term.TheVariants.{In, NotIn}
use Rattle.ul_problem.specs.declared.step.Step.TheVariants.{Cut}
use Rattle.ul_derivation.specs.Rows.{clash, first_step, second_step, ClashAccepted, ClashShort, ClashUncut}

first_need : (v : ℕ) → has v (true ∷ []) ≡ true → HasNeed (needs_of clash 0 v) 1 (true ∷ false ∷ [])
first_need zero h = (record { node = 1; permitted = true ∷ false ∷ [] }, at_head (record { node = 1; permitted = true ∷ false ∷ [] }) [] (record { node = 1; permitted = true ∷ false ∷ [] }) refl, refl, λ u e. e)
first_need (suc v) h = cc

second_need : (v : ℕ) → has v (true ∷ false ∷ []) ≡ true → HasNeed (needs_of clash 1 v) 2 []
second_need zero h = (record { node = 2; permitted = [] }, at_head (record { node = 2; permitted = [] }) [] (record { node = 2; permitted = [] }) refl, refl, λ u e. e)
second_need (suc zero) h = cc
second_need (suc (suc v)) h = cc

first_right : IsRight clash [] first_step
first_right = (omega arith, omega arith, refl, refl, first_need)

second_right : IsRight clash (first_step ∷ []) second_step
second_right = (omega arith, omega arith, refl, refl, second_need)

abbrev EachAt : ℕ → Type 0
EachAt k = term_on k (In 0 (true ∷ []) ∷ []) ≡ resolvent_term 1 k (term_on k (In 0 (true ∷ []) ∷ NotIn 1 (true ∷ false ∷ []) ∷ [])) (term_on k (In 1 (true ∷ false ∷ []) ∷ []))

beyond : (k : ℕ) → 1 < k → EachAt k
beyond k h =
    let a : nat_eq 0 k ≡ false = ne_eqb 0 k (omega arith) in
    let b : nat_eq 1 k ≡ false = ne_eqb 1 k (omega arith) in
    let c : nat_eq k 1 ≡ false = ne_eqb k 1 (omega arith) in
    rw (a, b, c) refl

cut_each : IsResolvent 1 (In 0 (true ∷ []) ∷ NotIn 1 (true ∷ false ∷ []) ∷ []) (In 1 (true ∷ false ∷ []) ∷ []) (In 0 (true ∷ []) ∷ [])
cut_each = record { is_ordered = tt; each = elim [ zero ↦ refl | suc k ↦ elim k as (λ j. EachAt (suc j)) [ zero ↦ refl | suc j ↦ beyond (suc (suc j)) (omega arith) ] ] }

pub accepted : ClashAccepted
accepted = ((first_right, (second_right, ((((omega arith, refl), tt), (first_step, second_step, refl, refl, (NotIn 1 (true ∷ false ∷ []), refl), (In 1 (true ∷ false ∷ []), refl), cut_each)), tt))), ((at_head 0 [] 0 refl, (omega arith, refl), refl), tt))

pub short : ClashShort
short = record { is_number = omega arith; before = (first_right, (second_right, tt)); bad = inl (Cut 1 2 1 [], refl, bad_cut) }
  where
    bad_cut : IsRight clash (first_step ∷ second_step ∷ []) (Cut 1 2 1 []) → ⊥
    bad_cut (of, (left, right, el, er, tl, tr, res)) =
        let l = same_Some first_step left el in
        let r = same_Some second_step right er in
        let e = subst (λ (x : Step). None ≡ resolvent_term 1 0 (term_on 0 (says clash x)) (term_on 0 (says clash right))) (sym l) (res.each 0) in
        let g = subst (λ (x : Step). None ≡ resolvent_term 1 0 (term_on 0 (says clash first_step)) (term_on 0 (says clash x))) (sym r) e in
        none-some (In 0 (true ∷ [])) g

pub uncut : ClashUncut
uncut = record { is_number = omega arith; before = (first_right, (second_right, tt)); bad = inr (refl, λ h. not_root h.0.0) }
  where
    not_root : Contains {X = ℕ} (0 ∷ []) 1 → ⊥
    not_root i = elim (head_or_rest 0 [] 1 i) [ inl e ↦ absurd (omega arith) | inr j ↦ in_none 1 j ]
