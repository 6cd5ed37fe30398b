-- Loops over parts of a line.
use Rattle.std.proofs.Common.{◌≡◌, ℕ, ◌+◌, ◌<◌, ◌≤◌, List, [], ◌∷◌, ◌++◌, Bool, true, false, drop, take, length, get_or, refl, sym, ap, subst, ◌∙◌, append_assoc, Option, Some, None}
use Rattle.std.specs.Prelude.{option_and_then, option_map}
use Rattle.std.specs.List.{slice_split}
use Rattle.std.proofs.lemmas.Bool.{cases_lt}
use Rattle.std.proofs.lemmas.List.{drop_more, take_all}
use Rattle.std.proofs.Common.{inl, inr, eqb, ◌&&◌}
use Rattle.ul_report_read.specs.Tokens.{rises_from}
use Rattle.ul_report.specs.declared.text_steps.TextTerm.{TextTerm}
use Rattle.ul_report_read.specs.StepReading.{each_term, onto_terms, parted_at}
use Rattle.ul_report_read.proofs.Cutting.{parted}

-- in front of what may be there
abbrev pub in_front : {A : Type 0} → List A → Option (List A) → Option (List A)
in_front before o = option_map (λ xs. before ++ xs) o

-- one more of what is there
pub next_front : {B : Type 0} (before : List B) (k : B) (more all : Option (List B)) → in_front before (option_map (λ ks. k ∷ ks) more) ≡ all → in_front (before ++ k ∷ []) more ≡ all
next_front before k None all h = h
next_front {B} before k (Some ks) all h = ap (λ (l : List B). Some l) (append_assoc before (k ∷ []) ks) ∙ h

-- ---- parts between bytes

-- the first part, as it was measured
pub record IsMeasured (p : ℕ → Bool) (rest : List ℕ) (count : ℕ) : Type 0 where
  pub fits : count ≤ length rest
  pub last : length rest ≤ count → slice_split p rest ≡ rest ∷ []
  pub more : count < length rest → slice_split p rest ≡ take count rest ∷ slice_split p (drop (count + 1) rest)

-- the first part, and the others
pub record HasFirst (p : ℕ → Bool) (rest : List ℕ) (count : ℕ) : Type 0 where
  pub others : List (List ℕ)
  pub is : slice_split p rest ≡ take count rest ∷ others

first_part : (p : ℕ → Bool) (rest : List ℕ) (count : ℕ) → IsMeasured p rest count → HasFirst p rest count
first_part p rest count m = elim (cases_lt count (length rest)) [
  | inl less ↦ record { others = slice_split p (drop (count + 1) rest); is = m.more less }
  | inr more ↦ record { others = []; is = m.last more ∙ ap (λ (t : List ℕ). t ∷ []) (sym (take_all count rest more)) }
]

-- lists of which each part gives one element
module _ {B : Type 0} (part : List ℕ → Option B) (each : List (List ℕ) → Option (List B)) (none : each [] ≡ Some []) (steps : (t : List ℕ) (ts : List (List ℕ)) → each (t ∷ ts) ≡ option_and_then (λ k. option_map (λ ks. k ∷ ks) (each ts)) (part t)) where
  pub part_none : (p : ℕ → Bool) (rest : List ℕ) (count : ℕ) (before : List B) (all : Option (List B)) → IsMeasured p rest count → part (take count rest) ≡ None → in_front before (each (slice_split p rest)) ≡ all → None ≡ all
  part_none p rest count before all m q h =
      let f = first_part p rest count m in
      sym (ap (in_front before) (ap each f.is ∙ (steps (take count rest) f.others ∙ ap (option_and_then (λ k. option_map (λ ks. k ∷ ks) (each f.others))) q))) ∙ h

  pub part_more : (p : ℕ → Bool) (rest : List ℕ) (count : ℕ) (before : List B) (k : B) (all : Option (List B)) → IsMeasured p rest count → count < length rest → part (take count rest) ≡ Some k → in_front before (each (slice_split p rest)) ≡ all
      → in_front (before ++ k ∷ []) (each (slice_split p (drop (count + 1) rest))) ≡ all
  part_more p rest count before k all m l q h =
      let others = slice_split p (drop (count + 1) rest) in
      next_front before k (each others) all
      (sym (ap (in_front before) (ap each (m.more l) ∙ (steps (take count rest) others ∙ ap (option_and_then (λ j. option_map (λ ks. j ∷ ks) (each others))) q))) ∙ h)

-- ---- terms

-- a term, and those behind it
each_step : (first : Bool) (t r : List ℕ) → each_term first (t ∷ slice_split (λ b. eqb b 125) r) ≡ option_and_then (onto_terms (each_term false (slice_split (λ b. eqb b 125) r))) (parted_at first t)
each_step first t r =
    let q = parted 125 r in
    subst (λ (ts : List (List ℕ)). each_term first (t ∷ ts) ≡ option_and_then (onto_terms (each_term false ts)) (parted_at first t)) (sym q.is) refl

pub term_more : (first : Bool) (rest : List ℕ) (count : ℕ) (before : List TextTerm) (u : TextTerm) (all : Option (List TextTerm)) → IsMeasured (λ b. eqb b 125) rest count → count < length rest → parted_at first (take count rest) ≡ Some u
    → in_front before (each_term first (slice_split (λ b. eqb b 125) rest)) ≡ all → in_front (before ++ u ∷ []) (each_term false (slice_split (λ b. eqb b 125) (drop (count + 1) rest))) ≡ all
term_more first rest count before u all m l q h =
    let others = slice_split (λ b. eqb b 125) (drop (count + 1) rest) in
    next_front before u (each_term false others) all
    (sym (ap (in_front before) (ap (each_term first) (m.more l) ∙ (each_step first (take count rest) (drop (count + 1) rest) ∙ ap (option_and_then (onto_terms (each_term false others))) q))) ∙ h)

pub term_none : (first : Bool) (rest : List ℕ) (count : ℕ) (before : List TextTerm) (all : Option (List TextTerm)) → IsMeasured (λ b. eqb b 125) rest count → count < length rest → parted_at first (take count rest) ≡ None
    → in_front before (each_term first (slice_split (λ b. eqb b 125) rest)) ≡ all → None ≡ all
term_none first rest count before all m l q h =
    let others = slice_split (λ b. eqb b 125) (drop (count + 1) rest) in
    sym (ap (in_front before) (ap (each_term first) (m.more l) ∙ (each_step first (take count rest) (drop (count + 1) rest) ∙ ap (option_and_then (onto_terms (each_term false others))) q))) ∙ h

-- ---- a list, element by element

front_is : {A : Type 0} (xs : List A) (i : ℕ) (x : A) → i < length xs → x ≡ get_or xs i x → drop i xs ≡ x ∷ drop (i + 1) xs
front_is xs i x h e = drop_more xs i x h ∙ ap (λ y. y ∷ drop (i + 1) xs) (sym e)

module _ {A B : Type 0} (part : A → Option B) (whole : List A → Option (List B)) (steps : (x : A) (xs : List A) → whole (x ∷ xs) ≡ option_and_then (λ k. option_map (λ ks. k ∷ ks) (whole xs)) (part x)) where
  opened : (xs : List A) (i : ℕ) (x : A) → i < length xs → x ≡ get_or xs i x → whole (drop i xs) ≡ option_and_then (λ k. option_map (λ ks. k ∷ ks) (whole (drop (i + 1) xs))) (part x)
  opened xs i x l e = ap whole (front_is xs i x l e) ∙ steps x (drop (i + 1) xs)

  pub next_made : (before : List B) (xs : List A) (i : ℕ) (x : A) (k : B) → i < length xs → x ≡ get_or xs i x → part x ≡ Some k → in_front before (whole (drop i xs)) ≡ whole xs → in_front (before ++ k ∷ []) (whole (drop (i + 1) xs)) ≡ whole xs
  next_made before xs i x k l e q h =
      next_front before k (whole (drop (i + 1) xs)) (whole xs)
      (sym (ap (in_front before) (opened xs i x l e ∙ ap (option_and_then (λ j. option_map (λ ks. j ∷ ks) (whole (drop (i + 1) xs)))) q)) ∙ h)

  pub none_made : (before : List B) (xs : List A) (i : ℕ) (x : A) → i < length xs → x ≡ get_or xs i x → part x ≡ None → in_front before (whole (drop i xs)) ≡ whole xs → None ≡ whole xs
  none_made before xs i x l e q h =
      sym (ap (in_front before) (opened xs i x l e ∙ ap (option_and_then (λ j. option_map (λ ks. j ∷ ks) (whole (drop (i + 1) xs)))) q)) ∙ h

-- ---- a list of numbers, one by one

module _ {B : Type 0} (part : ℕ → Option B) (whole : List ℕ → Option (List B)) (steps : (x : ℕ) (xs : List ℕ) → whole (x ∷ xs) ≡ option_and_then (λ k. option_map (λ ks. k ∷ ks) (whole xs)) (part x)) where
  number_opened : (xs : List ℕ) (i : ℕ) → i < length xs → whole (drop i xs) ≡ option_and_then (λ k. option_map (λ ks. k ∷ ks) (whole (drop (i + 1) xs))) (part (get_or xs i 0))
  number_opened xs i l = ap whole (drop_more xs i 0 l) ∙ steps (get_or xs i 0) (drop (i + 1) xs)

  pub next_number : (before : List B) (xs : List ℕ) (i : ℕ) (k : B) → i < length xs → part (get_or xs i 0) ≡ Some k → in_front before (whole (drop i xs)) ≡ whole xs → in_front (before ++ k ∷ []) (whole (drop (i + 1) xs)) ≡ whole xs
  next_number before xs i k l q h =
      next_front before k (whole (drop (i + 1) xs)) (whole xs)
      (sym (ap (in_front before) (number_opened xs i l ∙ ap (option_and_then (λ j. option_map (λ ks. j ∷ ks) (whole (drop (i + 1) xs)))) q)) ∙ h)

  pub none_number : (before : List B) (xs : List ℕ) (i : ℕ) → i < length xs → part (get_or xs i 0) ≡ None → in_front before (whole (drop i xs)) ≡ whole xs → None ≡ whole xs
  none_number before xs i l q h =
      sym (ap (in_front before) (number_opened xs i l ∙ ap (option_and_then (λ j. option_map (λ ks. j ∷ ks) (whole (drop (i + 1) xs)))) q)) ∙ h

-- ---- lists that increase

module _ {A : Type 0} (less : A → A → Bool) where
  pub rise_next : (x y : A) (ys : List A) (i : ℕ) (all : Bool) → i < length ys → y ≡ get_or ys i y → less x y ≡ true → rises_from less x (drop i ys) ≡ all → rises_from less y (drop (i + 1) ys) ≡ all
  rise_next x y ys i all l e q h =
      sym (ap (rises_from less x) (front_is ys i y l e) ∙ ap (λ b. b && rises_from less y (drop (i + 1) ys)) q) ∙ h

  pub rise_stop : (x y : A) (ys : List A) (i : ℕ) (all : Bool) → i < length ys → y ≡ get_or ys i y → less x y ≡ false → rises_from less x (drop i ys) ≡ all → false ≡ all
  rise_stop x y ys i all l e q h =
      sym (ap (rises_from less x) (front_is ys i y l e) ∙ ap (λ b. b && rises_from less y (drop (i + 1) ys)) q) ∙ h
