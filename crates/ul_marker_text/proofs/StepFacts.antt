-- Comparisons of the code, cut into steps.
use Rattle.std.proofs.Common.{◌≡◌, ℕ, zero, suc, ◌+◌, ◌-◌, List, [], ◌∷◌, ◌++◌, map, take, drop, length, true, false, refl, ap, sym, ◌∙◌, arith, append_assoc, append-nil, add-one, Some, None}
use Rattle.std.proofs.lemmas.List.{take_all, length-drop, map-append}
use Rattle.ul_marker.specs.declared.printed.Comparison.{Comparison}
use Rattle.ul_marker.specs.declared.printed.Comparison.TheVariants.{Bound, Extra, Text, Opaque}
use Rattle.ul_tree.specs.Comparisons as Plain
use Rattle.ul_tree.specs.PathList as PathList
use Rattle.ul_marker_text.specs.Rows.{is_other, front_keys, after_keys, interval_from, front_step, steps_with, steps_of}
use Rattle.ul_marker_text.specs.StepViews.{plain_comparison, comparison_key, row_view, step_view}
use Rattle.ul_marker_text.specs.declared.steps.Step.{Step}

-- ---- keys in front

pub front_more : (l : List ℕ) (x : Comparison) (cs : List Plain.Comparison) → is_other l (plain_comparison x) ≡ true
    → (front_keys l (plain_comparison x ∷ cs) ≡ comparison_key x ∷ front_keys l cs) × (after_keys l (plain_comparison x ∷ cs) ≡ after_keys l cs)
front_more l (Bound true python) cs e = absurd cc
front_more l (Bound false python) cs e = absurd cc
front_more l (Extra literal true) cs e = absurd cc
front_more l (Extra literal false) cs e = rw e (refl, refl)
front_more l (Text variable literal true) cs e = absurd cc
front_more l (Text variable literal false) cs e = rw e (refl, refl)
front_more l (Opaque atom true) cs e = absurd cc
front_more l (Opaque atom false) cs e = rw e (refl, refl)

-- what has been counted in front
pub record Counted (l : List ℕ) (row : List Comparison) (i : ℕ) : Type 0 where
  pub keys : map comparison_key (take i row) ++ front_keys l (row_view (drop i row)) ≡ front_keys l (row_view row)
  pub rest : after_keys l (row_view (drop i row)) ≡ after_keys l (row_view row)

-- ---- steps

pub steps_more : (found : List Step) (s : Step) (row rest : List Plain.Comparison) (n m : ℕ) (all : List PathList.Step) → n ≡ suc m → Some (step_view s, rest) ≡ front_step row
    → map step_view found ++ steps_of n row ≡ all → map step_view (found ++ s ∷ []) ++ steps_of m rest ≡ all
steps_more found s row rest n m all e f h =
    ap (λ z. z ++ steps_of m rest) (map-append step_view found (s ∷ []))
    ∙ append_assoc (map step_view found) (step_view s ∷ []) (steps_of m rest)
    ∙ ap (λ z. map step_view found ++ steps_with (steps_of m) z) f
    ∙ ap (λ k. map step_view found ++ steps_of k row) (sym e)
    ∙ h

pub steps_none : (found : List Step) (row : List Plain.Comparison) (n : ℕ) (all : List PathList.Step) → None ≡ front_step row → map step_view found ++ steps_of n row ≡ all → map step_view found ≡ all
steps_none found row zero all f h = sym (append-nil (map step_view found)) ∙ h
steps_none found row (suc n) all f h = sym (append-nil (map step_view found)) ∙ ap (λ z. map step_view found ++ steps_with (steps_of n) z) f ∙ h

-- ---- the step in front

pub lower_front : (row rest : List Comparison) (x : Comparison) (n k : ℕ) (s : PathList.Step) → row ≡ x ∷ rest → Plain.at_least n ≡ plain_comparison x → Some (s, row_view (drop k rest)) ≡ interval_from n (row_view rest)
    → Some (s, row_view (drop (k + 1) row)) ≡ front_step (row_view row)
lower_front row rest x n k s e a h =
    ap (λ z. Some (s, row_view (drop (k + 1) z))) e
    ∙ ap (λ j. Some (s, row_view (drop j (x ∷ rest)))) (add-one k)
    ∙ h
    ∙ ap (λ c. front_step (c ∷ row_view rest)) a
    ∙ ap (λ z. front_step (row_view z)) (sym e)

pub upper_front : (row rest : List Comparison) (x : Comparison) (n : ℕ) → row ≡ x ∷ rest → Plain.below n ≡ plain_comparison x → Some (PathList.interval 0 n, row_view (drop 1 row)) ≡ front_step (row_view row)
upper_front row rest x n e a =
    ap (λ z. Some (PathList.interval 0 n, row_view (drop 1 z))) e ∙ ap (λ c. front_step (c ∷ row_view rest)) a ∙ ap (λ z. front_step (row_view z)) (sym e)

-- a row from a place on, as a slice
pub tail_slice : (row : List Comparison) (at : ℕ) → take (length row - at) (drop at row) ≡ drop at row
tail_slice row at = take_all (length row - at) (drop at row) (let e = length-drop at row in omega (arith, e))
