-- Laws of pieces.
use Rattle.std.proofs.Common.{◌≡◌, ℕ, zero, suc, List, [], ◌∷◌, ◌∙◌, get_or, ◌+◌, ◌-◌, ◌^◌, ◌<◌, ◌≤◌, length, arith, inl, inr, ap, Some, Result, Ok, Err, nat_cmp}
use Rattle.std.specs.Prelude.{slice_get, Contains, MatchResult}
use Rattle.std.specs.List.Sorted.{IsBinarySearchResult, IsStrictlyIncreasing}
use Rattle.std.proofs.lemmas.Bool.{cases_lt, cases_order}
use Rattle.std.proofs.lemmas.List.{get_or_past, get_or_default}
use Rattle.std.proofs.lemmas.List.Sorted.{searched}
use Rattle.ul_ranges.specs.Pieces.{AreStarts, IsPiece, IsRefinement}

-- each start is below each later one
pub rises : (xs : List ℕ) → IsStrictlyIncreasing xs → (i j : ℕ) → i < j → j < length xs → get_or xs i 0 < get_or xs j 0
rises xs inc i zero h l = absurd (omega arith)
rises xs inc i (suc j) h l =
    let next : get_or xs j 0 < get_or xs (j + 1) 0 = inc j (omega arith) in
    let e : j + 1 ≡ suc j = omega arith in
    let there : get_or xs j 0 < get_or xs (suc j) 0 = rw e at next in
    elim (cases_lt i j) [
      | inl below ↦ let g = rises xs inc i j below (omega arith) in omega arith
      | inr same ↦ let s : i ≡ j = omega arith in rw s there
    ]

pub first_is_zero : (xs : List ℕ) → slice_get xs 0 ≡ Some 0 → (0 < length xs) × (get_or xs 0 0 ≡ 0)
first_is_zero [] e = cc
first_is_zero (x ∷ xs) e = let s : x ≡ 0 = cc in (omega arith, s)

-- no start is below an earlier one
no_lower : (xs : List ℕ) → IsStrictlyIncreasing xs → (i j : ℕ) → i ≤ j → j < length xs → get_or xs i 0 ≤ get_or xs j 0
no_lower xs inc i j le l =
    elim (cases_lt i j) [
      | inl lt ↦ let g = rises xs inc i j lt l in omega arith
      | inr ge ↦ let e : i ≡ j = omega arith in omega (arith, ap (λ (k : ℕ). get_or xs k 0) e)
    ]

-- the piece of a number is the one that starts there, or the one before the place where the number would be inserted
pub searched_piece : (xs : List ℕ) (x : ℕ) (r : Result ℕ ℕ) → AreStarts xs → x < 2 ^ 96 → IsBinarySearchResult (λ y. nat_cmp y x) xs r
    → MatchResult r (λ i. IsPiece xs i x) (λ i. (1 ≤ i) × IsPiece xs (i - 1) x)
searched_piece xs x (Ok i) starts small h =
    let s = searched xs x (Ok i) h (no_lower xs starts.rising) in
    record {
      piece = s.0;
      from = omega (arith, s.1);
      to = elim (cases_lt (i + 1) (length xs)) [
        | inl l ↦
            let e = get_or_default xs (i + 1) (2 ^ 96) 0 l in
            let g = rises xs starts.rising i (i + 1) (omega arith) l in omega (arith, s.1)
        | inr l ↦ rw (get_or_past xs (i + 1) (2 ^ 96) l) small
      ];
    }
searched_piece xs x (Err i) starts small h =
    let s = searched xs x (Err i) h (no_lower xs starts.rising) in
    let first = first_is_zero xs starts.first in
    let some : 1 ≤ i = elim (cases_lt 0 i) [
      | inl l ↦ omega arith
      | inr l ↦ absurd (omega (arith, s.2 0 l first.0, first.1))
    ] in
    let at : i - 1 + 1 ≡ i = omega arith in (
      some,
      record {
        piece = omega (arith, s.0);
        from = omega (arith, s.1 (i - 1) (omega arith));
        to = rw at (elim (cases_lt i (length xs)) [
          | inl l ↦ omega (arith, get_or_default xs i (2 ^ 96) 0 l, s.2 i (omega arith) l)
          | inr l ↦ rw (get_or_past xs i (2 ^ 96) l) small
        ]);
      },
    )

-- ---- one piece
-- the last of the first n + 1 starts that is at or before x
last_start : (xs : List ℕ) (x n : ℕ) → get_or xs 0 0 ≤ x → (k : ℕ) × (k ≤ n) × (get_or xs k 0 ≤ x) × ((j : ℕ) → k < j → j ≤ n → x < get_or xs j 0)
last_start xs x zero h = (0, omega arith, h, λ j a b. absurd (omega arith))
last_start xs x (suc n) h =
    elim (cases_lt x (get_or xs (suc n) 0)) [
      | inl past ↦
          let r = last_start xs x n h in (
            r.0,
            omega (arith, r.1),
            r.2,
            λ j a b. elim (cases_lt j (suc n)) [
              | inl l ↦ r.3 j a (omega arith)
              | inr l ↦ let e : j ≡ suc n = omega arith in rw e past
            ],
          )
      | inr here ↦ (suc n, omega arith, here, λ j a b. absurd (omega arith))
    ]

piece_once : (xs : List ℕ) (j k x : ℕ) → IsStrictlyIncreasing xs → IsPiece xs j x → IsPiece xs k x → j < k → ⊥
piece_once xs j k x inc p q h =
    let l : j + 1 < length xs + 1 = let e = q.piece in omega arith in
    let inside : j + 1 < length xs = let e = q.piece in omega arith in
    let next = get_or_default xs (j + 1) (2 ^ 96) 0 inside in
    let to = p.to in
    let from = q.from in
    elim (cases_lt (j + 1) k) [
      | inl less ↦ let g = rises xs inc (j + 1) k less q.piece in omega arith
      | inr same ↦ let e : k ≡ j + 1 = omega arith in let there = rw e at from in omega arith
    ]

pub one_piece : (xs : List ℕ) (x : ℕ) → AreStarts xs → x < 2 ^ 96 → (k : ℕ) × IsPiece xs k x × ((j : ℕ) → IsPiece xs j x → j ≡ k)
one_piece xs x starts small =
    let first = first_is_zero xs starts.first in
    let begin : get_or xs 0 0 ≤ x = let e = first.1 in omega arith in
    let r = last_start xs x (length xs - 1) begin in
    let inside : r.0 < length xs = let a = r.1 in let b = first.0 in omega arith in
    let here : IsPiece xs r.0 x = record {
      piece = inside;
      from = r.2;
      to = elim (cases_lt (r.0 + 1) (length xs)) [
        | inl h ↦ let e = get_or_default xs (r.0 + 1) (2 ^ 96) 0 h in let g = r.3 (r.0 + 1) (omega arith) (omega arith) in omega arith
        | inr h ↦ rw (get_or_past xs (r.0 + 1) (2 ^ 96) h) small
      ];
    } in (
      r.0,
      here,
      λ j p. elim (cases_order j r.0) [
        | inl e ↦ e
        | inr (inl h) ↦ absurd (piece_once xs j r.0 x starts.rising p here h)
        | inr (inr h) ↦ absurd (piece_once xs r.0 j x starts.rising here p h)
      ],
    )

-- ---- a refinement
-- two numbers of one piece are on one side of each start
one_side : (c : List ℕ) (k x y s : ℕ) → IsStrictlyIncreasing c → IsPiece c k x → IsPiece c k y → Contains c s → s ≤ x → s ≤ y
one_side c k x y s inc p q h le =
    let at : get_or c h.0 0 ≡ s = get_or_default c h.0 0 s h.1 ∙ h.2 in
    let from = q.from in
    let to = p.to in
    elim (cases_order h.0 k) [
      | inl e ↦ let there = rw e at at in omega arith
      | inr (inl l) ↦ let g = rises c inc h.0 k l q.piece in omega arith
      | inr (inr l) ↦
          let inside : k + 1 < length c = let b = h.1 in omega arith in
          let next = get_or_default c (k + 1) (2 ^ 96) 0 inside in
          elim (cases_lt (k + 1) h.0) [
            | inl m ↦ let g = rises c inc (k + 1) h.0 m h.1 in absurd (omega arith)
            | inr m ↦ let e : h.0 ≡ k + 1 = let b = l in omega arith in let there = rw e at at in absurd (omega arith)
          ]
    ]

piece_small : (c : List ℕ) (k x : ℕ) → AreStarts c → IsPiece c k x → x < 2 ^ 96
piece_small c k x starts p =
    let to = p.to in
    elim (cases_lt (k + 1) (length c)) [
      | inl h ↦ let g = starts.below (k + 1) (2 ^ 96) h in omega arith
      | inr h ↦ let e = get_or_past c (k + 1) (2 ^ 96) h in omega arith
    ]

one_of_piece : (a c : List ℕ) (j k x y : ℕ) → AreStarts c → ((s : ℕ) → Contains a s → Contains c s)
    → IsPiece c k x → IsPiece c k y → IsPiece a j x → IsPiece a j y
one_of_piece a c j k x y starts has p q r =
    record {
      piece = r.piece;
      from = one_side c k x y (get_or a j 0) starts.rising p q (has (get_or a j 0) (j, r.piece, get_or_default a j (get_or a j 0) 0 r.piece)) r.from;
      to = elim (cases_lt (j + 1) (length a)) [
        | inl h ↦
            let s : ℕ = get_or a (j + 1) (2 ^ 96) in
            elim (cases_lt y s) [
              | inl l ↦ l
              | inr g ↦
                  let back = one_side c k y x s starts.rising q p (has s (j + 1, h, get_or_default a (j + 1) s (2 ^ 96) h)) g in
                  let to = r.to in absurd (omega arith)
            ]
        | inr h ↦ rw (get_or_past a (j + 1) (2 ^ 96) h) (piece_small c k y starts q)
      ];
    }

pub refined_pieces : (a b c : List ℕ) (i j k x y : ℕ) → IsRefinement a b c → IsPiece c k x → IsPiece c k y
    → (IsPiece a i x → IsPiece a i y) × (IsPiece b j x → IsPiece b j y)
refined_pieces a b c i j k x y r p q = (
  one_of_piece a c i k x y r.cuts (λ s h. (r.members s).1 (inl h)) p q,
  one_of_piece b c j k x y r.cuts (λ s h. (r.members s).1 (inr h)) p q,
)
