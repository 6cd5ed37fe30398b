-- Loops over the parts of markers, one part on and at the end.
use Rattle.std.proofs.Common.{◌≡◌, ◌∙◌, ℕ, ◌+◌, ◌<◌, ◌≤◌, ◌&&◌, ◌||◌, ◌++◌, ◌∷◌, [], Bool, true, false, List, Result, length, get_or, take, drop, map, ap, sym, append_assoc}
use Rattle.std.specs.Prelude.{IfOk}
use Rattle.std.specs.declared.alloc.AllocError.{AllocError}
use Rattle.std.proofs.lemmas.List.{append-nil, drop_all, drop_more, map_more, map_push, take_all, take_more}
use Rattle.ul_base.proofs.ForCallers.{made_holds}
use Rattle.ul_base.specs.Owned.{HasOneMore}
use Rattle.ul_comparison.specs.Atoms.{AtomFields}
use Rattle.ul_comparison.specs.Truth.{all_hold, any_holds, marker_holds}
use Rattle.ul_comparison.specs.Worlds.{WorldFields}
use Rattle.ul_version.specs.Fields.{Fields}
use Rattle.ul_marker.specs.Parts.{asks_extra, atoms_in, atoms_of, some_asks_extra}
use Rattle.ul_marker.specs.Views.{marker_view, markers_view}
use Rattle.ul_marker.specs.declared.marker.Marker.{Marker}

-- ---- copies

-- a copy of one part more
pub copied_next : (parts before after : List Marker) (i : ℕ) (x : Marker) (made : Result Marker AllocError) →
    HasOneMore before made after → IfOk made (λ m. marker_view m ≡ marker_view x) → i < length parts → x ≡ get_or parts i x →
    map marker_view before ≡ map marker_view (take i parts) → map marker_view after ≡ map marker_view (take (i + 1) parts)
copied_next parts before after i x made h same l at so_far =
    let one : marker_view h.0 ≡ marker_view (get_or parts i x) = made_holds made h.0 (λ m. marker_view m ≡ marker_view x) h.1 same ∙ ap marker_view at in
    ap (map marker_view) h.2 ∙ map_push marker_view before h.0 ∙ (λ j. so_far j ++ one j ∷ []) ∙ sym (map_more marker_view parts i x l)

-- copies of all parts
pub copied_all : (parts copied : List Marker) (i : ℕ) → length parts ≤ i → map marker_view copied ≡ map marker_view (take i parts) → map marker_view copied ≡ map marker_view parts
copied_all parts copied i l so_far = so_far ∙ ap (map marker_view) (take_all i parts l)

-- a copy of one version more
pub versions_next : (versions before after : List Fields) (i : ℕ) (x : Fields) (made : Result Fields AllocError) →
    HasOneMore before made after → IfOk made (λ v. v ≡ x) → i < length versions → x ≡ get_or versions i x → before ≡ take i versions → after ≡ take (i + 1) versions
versions_next versions before after i x made h same l at so_far =
    let one : h.0 ≡ get_or versions i x = made_holds made h.0 (λ v. v ≡ x) h.1 same ∙ at in
    h.2 ∙ (λ j. so_far j ++ one j ∷ []) ∙ sym (take_more versions i x l)

-- ---- the part in front of what is left

rest_of : (parts : List Marker) (i : ℕ) (x : Marker) → i < length parts → x ≡ get_or parts i x → drop i parts ≡ x ∷ drop (i + 1) parts
rest_of parts i x l at = drop_more parts i x l ∙ ap (λ y. y ∷ drop (i + 1) parts) (sym at)

-- ---- atoms

-- the atoms of one part more
pub atoms_next : (parts : List Marker) (i : ℕ) (x : Marker) (before after all : List AtomFields) → after ≡ before ++ atoms_of (marker_view x) →
    i < length parts → x ≡ get_or parts i x → before ++ atoms_in (markers_view (drop i parts)) ≡ all → after ++ atoms_in (markers_view (drop (i + 1) parts)) ≡ all
atoms_next parts i x before after all is l at so_far =
    let rest = atoms_in (markers_view (drop (i + 1) parts)) in
    ap (λ found. found ++ rest) is ∙ append_assoc before (atoms_of (marker_view x)) rest
    ∙ ap (λ ms. before ++ atoms_in (markers_view ms)) (sym (rest_of parts i x l at)) ∙ so_far

-- the atoms of all parts
pub atoms_end : (parts : List Marker) (i : ℕ) (found all : List AtomFields) → length parts ≤ i → found ++ atoms_in (markers_view (drop i parts)) ≡ all → found ≡ all
atoms_end parts i found all l so_far =
    sym (append-nil found) ∙ ap (λ ms. found ++ atoms_in (markers_view ms)) (sym (drop_all i parts l)) ∙ so_far

-- ---- truth

module _ (parts : List Marker) (w : WorldFields) (extra : List ℕ) (whole : Bool) where
  all_here : (i : ℕ) (x : Marker) (b : Bool) → b ≡ marker_holds (marker_view x) w extra → i < length parts → x ≡ get_or parts i x →
      all_hold (markers_view (drop i parts)) w extra ≡ whole → (b && all_hold (markers_view (drop (i + 1) parts)) w extra) ≡ whole
  all_here i x b is l at so_far =
      ap (λ c. c && all_hold (markers_view (drop (i + 1) parts)) w extra) is
      ∙ ap (λ ms. all_hold (markers_view ms) w extra) (sym (rest_of parts i x l at)) ∙ so_far

  -- a part that holds leaves the truth of all to the others
  pub all_next : (i : ℕ) (x : Marker) (b : Bool) → b ≡ marker_holds (marker_view x) w extra → b ≡ true → i < length parts → x ≡ get_or parts i x →
      all_hold (markers_view (drop i parts)) w extra ≡ whole → all_hold (markers_view (drop (i + 1) parts)) w extra ≡ whole
  all_next i x b is e l at so_far = all_here i x true (sym e ∙ is) l at so_far

  -- a part that fails makes all fail
  pub all_fail : (i : ℕ) (x : Marker) (b : Bool) → b ≡ marker_holds (marker_view x) w extra → b ≡ false → i < length parts → x ≡ get_or parts i x →
      all_hold (markers_view (drop i parts)) w extra ≡ whole → false ≡ whole
  all_fail i x b is e l at so_far = all_here i x false (sym e ∙ is) l at so_far

  -- where no part is left, all hold
  pub all_end : (i : ℕ) → length parts ≤ i → all_hold (markers_view (drop i parts)) w extra ≡ whole → true ≡ whole
  all_end i l so_far = ap (λ ms. all_hold (markers_view ms) w extra) (sym (drop_all i parts l)) ∙ so_far

  any_here : (i : ℕ) (x : Marker) (b : Bool) → b ≡ marker_holds (marker_view x) w extra → i < length parts → x ≡ get_or parts i x →
      any_holds (markers_view (drop i parts)) w extra ≡ whole → (b || any_holds (markers_view (drop (i + 1) parts)) w extra) ≡ whole
  any_here i x b is l at so_far =
      ap (λ c. c || any_holds (markers_view (drop (i + 1) parts)) w extra) is
      ∙ ap (λ ms. any_holds (markers_view ms) w extra) (sym (rest_of parts i x l at)) ∙ so_far

  -- a part that fails leaves the truth of some to the others
  pub any_next : (i : ℕ) (x : Marker) (b : Bool) → b ≡ marker_holds (marker_view x) w extra → b ≡ false → i < length parts → x ≡ get_or parts i x →
      any_holds (markers_view (drop i parts)) w extra ≡ whole → any_holds (markers_view (drop (i + 1) parts)) w extra ≡ whole
  any_next i x b is e l at so_far = any_here i x false (sym e ∙ is) l at so_far

  -- a part that holds is one that holds
  pub any_found : (i : ℕ) (x : Marker) (b : Bool) → b ≡ marker_holds (marker_view x) w extra → b ≡ true → i < length parts → x ≡ get_or parts i x →
      any_holds (markers_view (drop i parts)) w extra ≡ whole → true ≡ whole
  any_found i x b is e l at so_far = any_here i x true (sym e ∙ is) l at so_far

  -- where no part is left, none holds
  pub any_end : (i : ℕ) → length parts ≤ i → any_holds (markers_view (drop i parts)) w extra ≡ whole → false ≡ whole
  any_end i l so_far = ap (λ ms. any_holds (markers_view ms) w extra) (sym (drop_all i parts l)) ∙ so_far

-- ---- comparisons with `extra`

module _ (parts : List Marker) (whole : Bool) where
  asks_here : (i : ℕ) (x : Marker) (b : Bool) → b ≡ asks_extra (marker_view x) → i < length parts → x ≡ get_or parts i x →
      some_asks_extra (markers_view (drop i parts)) ≡ whole → (b || some_asks_extra (markers_view (drop (i + 1) parts))) ≡ whole
  asks_here i x b is l at so_far =
      ap (λ c. c || some_asks_extra (markers_view (drop (i + 1) parts))) is
      ∙ ap (λ ms. some_asks_extra (markers_view ms)) (sym (rest_of parts i x l at)) ∙ so_far

  -- a part that doesn't ask leaves the answer to the others
  pub asks_next : (i : ℕ) (x : Marker) (b : Bool) → b ≡ asks_extra (marker_view x) → b ≡ false → i < length parts → x ≡ get_or parts i x →
      some_asks_extra (markers_view (drop i parts)) ≡ whole → some_asks_extra (markers_view (drop (i + 1) parts)) ≡ whole
  asks_next i x b is e l at so_far = asks_here i x false (sym e ∙ is) l at so_far

  -- a part that asks is one that does
  pub asks_found : (i : ℕ) (x : Marker) (b : Bool) → b ≡ asks_extra (marker_view x) → b ≡ true → i < length parts → x ≡ get_or parts i x →
      some_asks_extra (markers_view (drop i parts)) ≡ whole → true ≡ whole
  asks_found i x b is e l at so_far = asks_here i x true (sym e ∙ is) l at so_far

  -- where no part is left, none asks
  pub asks_end : (i : ℕ) → length parts ≤ i → some_asks_extra (markers_view (drop i parts)) ≡ whole → false ≡ whole
  asks_end i l so_far = ap (λ ms. some_asks_extra (markers_view ms)) (sym (drop_all i parts l)) ∙ so_far
