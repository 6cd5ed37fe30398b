-- The names between commas.
use Rattle.std.proofs.Common.{◌≡◌, ℕ, ◌+◌, ◌<◌, ◌≤◌, List, [], ◌∷◌, ◌++◌, length, drop, take, refl, sym, ap, ◌∙◌, append_assoc, Option, Some, None, inl, inr}
use Rattle.std.proofs.lemmas.List.{take_all}
use Rattle.std.proofs.lemmas.Bool.{cases_lt}
use Rattle.std.specs.Prelude.{◌==◌}
use Rattle.std.specs.List.{slice_split}
use Rattle.std.specs.List.Sorted.{IsStrictlySortedBy}
use Rattle.ul_base.specs.Names.{name_cmp, name_of}
use Rattle.ul_version.specs.Reading.{◌>>=◌}
use Rattle.ul_version.specs.Ascii.{comma, is_blank, text_between}
use Rattle.ul_requirement.specs.Reading.{names_of}

-- names before those that follow
abbrev pub added : List (List ℕ) → Option (List (List ℕ)) → Option (List (List ℕ))
added xs names = names >>= λ ys. Some (xs ++ ys)

-- the pieces between commas
abbrev pub pieces : List ℕ → List (List ℕ)
pieces = slice_split (λ b. b == comma)

-- the names of a text
abbrev pub names_in_text : List ℕ → Option (List (List ℕ))
names_in_text text = names_of (pieces text)

added_one : (xs : List (List ℕ)) (x : List ℕ) (names : Option (List (List ℕ))) → added xs (names >>= λ ys. Some (x ∷ ys)) ≡ added (xs ++ x ∷ []) names
added_one xs x None = refl
added_one xs x (Some ys) = ap Some (sym (append_assoc xs (x ∷ []) ys))

front-none : (piece : List ℕ) (more : List (List ℕ)) → name_of (text_between is_blank piece) ≡ None → names_of (piece ∷ more) ≡ None
unfolding names_of
front-none piece more e = rw e refl

front-some : (piece : List ℕ) (more : List (List ℕ)) (x : List ℕ) → name_of (text_between is_blank piece) ≡ Some x → names_of (piece ∷ more) ≡ (names_of more >>= λ ys. Some (x ∷ ys))
unfolding names_of
front-some piece more x e = rw e refl

names-empty : names_of [] ≡ Some []
unfolding names_of
names-empty = refl

-- the pieces of a text that was cut at its first comma, after so many bytes
abbrev pub IsLast : List ℕ → ℕ → Type 0
IsLast ts n = length ts ≤ n → pieces ts ≡ ts ∷ []

abbrev pub IsMore : List ℕ → ℕ → Type 0
IsMore ts n = n < length ts → pieces ts ≡ take n ts ∷ pieces (drop (n + 1) ts)

-- the first piece is no name
pub names-none : (ts : List ℕ) (n : ℕ) (list : List (List ℕ)) → IsLast ts n → IsMore ts n → name_of (text_between is_blank (take n ts)) ≡ None → added list (names_in_text ts) ≡ None
names-none ts n list last more e = elim (cases_lt n (length ts)) [
  | inl lt ↦ ap (λ ps. added list (names_of ps)) (more lt) ∙ ap (added list) (front-none (take n ts) (pieces (drop (n + 1) ts)) e)
  | inr le ↦
      let whole : take n ts ≡ ts = take_all n ts le in
      ap (λ ps. added list (names_of ps)) (last le) ∙ ap (added list) (front-none ts [] (rw whole at e))
]

-- the first piece is a name, and the last
pub names-last : (ts : List ℕ) (n : ℕ) (list after : List (List ℕ)) (x : List ℕ) → IsLast ts n → length ts ≤ n
    → name_of (text_between is_blank (take n ts)) ≡ Some x → after ≡ list ++ x ∷ [] → added list (names_in_text ts) ≡ Some after
names-last ts n list after x last le e same =
    let whole : take n ts ≡ ts = take_all n ts le in
    ap (λ ps. added list (names_of ps)) (last le) ∙ ap (added list) (front-some ts [] x (rw whole at e) ∙ ap (λ o. o >>= λ ys. Some (x ∷ ys)) names-empty) ∙ ap Some (sym same)

-- the first piece is a name, and others follow
pub names-more : (ts : List ℕ) (n : ℕ) (list after : List (List ℕ)) (x : List ℕ) → IsMore ts n → n < length ts
    → name_of (text_between is_blank (take n ts)) ≡ Some x → after ≡ list ++ x ∷ [] → added list (names_in_text ts) ≡ added after (names_in_text (drop (n + 1) ts))
names-more ts n list after x more lt e same =
    ap (λ ps. added list (names_of ps)) (more lt) ∙ ap (added list) (front-some (take n ts) (pieces (drop (n + 1) ts)) x e)
    ∙ added_one list x (names_in_text (drop (n + 1) ts)) ∙ ap (λ xs. added xs (names_in_text (drop (n + 1) ts))) (sym same)

-- nothing was read yet
pub names-start : (list : List (List ℕ)) → list ≡ [] → (names : Option (List (List ℕ))) → names ≡ added list names
names-start list e None = refl
names-start list e (Some ys) = ap (λ xs. Some (xs ++ ys)) (sym e)

-- no names are in order
pub sorted_none : (xs : List (List ℕ)) → xs ≡ [] → IsStrictlySortedBy name_cmp xs
unfolding IsStrictlySortedBy
sorted_none xs e = rw e tt
