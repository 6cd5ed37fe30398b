-- A text that stands somewhere in another.
use Rattle.std.proofs.Common.{◌≡◌, ◌==◌, ◌↔◌, ℕ, Bool, true, false, true≢false, List, [], ◌∷◌, ◌++◌, refl, sym, ap, inl, inr}
use borrow.Author.Tests.{eq-eqb, eqb-true}
use Rattle.std.proofs.lemmas.Bool.{cases_Bool}
use Rattle.std.specs.Str.Iter.{HasSubslice}
use Rattle.ul_comparison.specs.Machines.{begins_with, is_part}

begins_from : (piece text : List ℕ) → begins_with piece text ≡ true → (rest : List ℕ) × (text ≡ piece ++ rest)
begins_from [] text h = (text, refl)
begins_from (p ∷ piece) [] h = absurd (true≢false (sym h))
begins_from (p ∷ piece) (b ∷ text) h = elim (cases_Bool (b == p)) [
  | inl same ↦
      let more : begins_with piece text ≡ true = rw same at h in
      let rest = begins_from piece text more in
      (rest.0, rw (eqb-true b p same) (ap (λ t. p ∷ t) rest.1))
  | inr other ↦ absurd (true≢false (sym (rw other at h)))
]

begins_to : (piece rest : List ℕ) → begins_with piece (piece ++ rest) ≡ true
begins_to [] rest = refl
begins_to (p ∷ piece) rest = rw (eq-eqb p p refl) (begins_to piece rest)

found_in : (piece text : List ℕ) → is_part piece text ≡ true → HasSubslice text piece
unfolding is_part
found_in [] [] h = ([], [], refl)
found_in (p ∷ piece) [] h = absurd (true≢false (sym h))
found_in piece (b ∷ text) h = elim (cases_Bool (begins_with piece (b ∷ text))) [
  | inl front ↦ let rest = begins_from piece (b ∷ text) front in ([], rest.0, rest.1)
  | inr other ↦
      let more : is_part piece text ≡ true = rw other at h in
      let found = found_in piece text more in
      (b ∷ found.0, found.1, ap (λ t. b ∷ t) found.2)
]

stands_in : (piece before after : List ℕ) → is_part piece (before ++ (piece ++ after)) ≡ true
unfolding is_part
stands_in [] [] [] = refl
stands_in [] [] (b ∷ after) = refl
stands_in (p ∷ piece) [] after = rw (begins_to (p ∷ piece) after) refl
stands_in piece (b ∷ before) after = elim (cases_Bool (begins_with piece (b ∷ (before ++ (piece ++ after))))) [
  | inl front ↦ rw front refl
  | inr other ↦ rw other (stands_in piece before after)
]

-- a text is part of another exactly where it stands between two others in it
pub part_is_between : (piece text : List ℕ) → (is_part piece text ≡ true) ↔ HasSubslice text piece
part_is_between piece text = (found_in piece text, λ between. let e : text ≡ between.0 ++ (piece ++ between.1) = between.2 in rw e (stands_in piece between.0 between.1))

-- a test that answers so is this one
pub decides_part : (r : Bool) (piece text : List ℕ) → (r ≡ true) ↔ HasSubslice text piece → r ≡ is_part piece text
decides_part true piece text h = sym ((part_is_between piece text).1 (h.0 refl))
decides_part false piece text h = elim (cases_Bool (is_part piece text)) [
  | inl holds ↦ absurd (true≢false (sym (h.1 (found_in piece text holds))))
  | inr fails ↦ sym fails
]
