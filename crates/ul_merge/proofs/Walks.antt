-- Lists that a loop makes piece by piece.
use Rattle.std.proofs.Common.{◌≡◌, ℕ, ◌<◌, ◌≤◌, ◌+◌, List, [], ◌∷◌, ◌++◌, length, get_or, take, drop, map, sym, ap, subst, ◌∙◌}
use Rattle.std.proofs.lemmas.List.{append-nil, append_assoc, drop_all, drop_more, get_or_default, map_more, take_all, take_more}

-- a piece more
pub piece_more : {X : Type 0} (before now piece rest all : List X) → now ≡ before ++ piece → before ++ (piece ++ rest) ≡ all → now ++ rest ≡ all
piece_more before now piece rest all is have = ap (λ xs. xs ++ rest) is ∙ append_assoc before piece rest ∙ have

here : {A : Type 0} (xs : List A) (i : ℕ) (x : A) → i < length xs → x ≡ get_or xs i x → drop i xs ≡ x ∷ drop (i + 1) xs
here {A = A} xs i x lt at = drop_more xs i x lt ∙ ap (λ (y : A). y ∷ drop (i + 1) xs) (sym at)

module _ {A X : Type 0} where
  -- a step over a list
  pub walk_more : (f : List A → List X) (piece : A → List X) → ((x : A) (xs : List A) → f (x ∷ xs) ≡ piece x ++ f xs) → (xs : List A) (i : ℕ) (x : A) (before now all : List X)
      → i < length xs → x ≡ get_or xs i x → now ≡ before ++ piece x → before ++ f (drop i xs) ≡ all → now ++ f (drop (i + 1) xs) ≡ all
  walk_more f piece steps xs i x before now all lt at is have =
      piece_more before now (piece x) (f (drop (i + 1) xs)) all is (ap (λ ys. before ++ ys) (sym (ap f (here xs i x lt at) ∙ steps x (drop (i + 1) xs))) ∙ have)

  -- a step over a list whose element isn't held
  pub walk_read : (f : List A → List X) (piece : A → List X) → ((x : A) (xs : List A) → f (x ∷ xs) ≡ piece x ++ f xs) → (xs : List A) (i : ℕ) (d : A) (before now all : List X)
      → i < length xs → now ≡ before ++ piece (get_or xs i d) → before ++ f (drop i xs) ≡ all → now ++ f (drop (i + 1) xs) ≡ all
  walk_read f piece steps xs i d before now all lt is have = walk_more f piece steps xs i (get_or xs i d) before now all lt (get_or_default xs i d (get_or xs i d) lt) is have

  -- a step over a list whose places count
  pub walk_on : (f : ℕ → List A → List X) (piece : ℕ → A → List X) → ((i : ℕ) (x : A) (xs : List A) → f i (x ∷ xs) ≡ piece i x ++ f (i + 1) xs) → (xs : List A) (i : ℕ) (x : A) (before now all : List X)
      → i < length xs → x ≡ get_or xs i x → now ≡ before ++ piece i x → before ++ f i (drop i xs) ≡ all → now ++ f (i + 1) (drop (i + 1) xs) ≡ all
  walk_on f piece steps xs i x before now all lt at is have =
      piece_more before now (piece i x) (f (i + 1) (drop (i + 1) xs)) all is (ap (λ ys. before ++ ys) (sym (ap (f i) (here xs i x lt at) ∙ steps i x (drop (i + 1) xs))) ∙ have)

  -- a walk's end
  pub walk_end : (f : List A → List X) → f [] ≡ [] → (xs : List A) (i : ℕ) (now all : List X) → length xs ≤ i → now ++ f (drop i xs) ≡ all → now ≡ all
  walk_end f none xs i now all past have = sym (append-nil now) ∙ ap (λ ys. now ++ ys) (sym (ap f (drop_all i xs past) ∙ none)) ∙ have

  -- one more of what a function gives
  pub mapped_more : (f : A → X) (xs : List A) (i : ℕ) (x : A) (before now : List X) (y : X) → i < length xs → x ≡ get_or xs i x → y ≡ f x → now ≡ before ++ y ∷ [] → before ≡ map f (take i xs)
      → now ≡ map f (take (i + 1) xs)
  mapped_more f xs i x before now y lt at made is have = is ∙ (λ j. have j ++ (made ∙ ap f at) j ∷ []) ∙ sym (map_more f xs i x lt)

-- one more of what stays as it is
pub taken_more : {A : Type 0} (xs : List A) (i : ℕ) (x : A) (before now : List A) (y : A) → i < length xs → x ≡ get_or xs i x → y ≡ x → now ≡ before ++ y ∷ [] → before ≡ take i xs → now ≡ take (i + 1) xs
taken_more xs i x before now y lt at made is have = is ∙ (λ j. have j ++ (made ∙ at) j ∷ []) ∙ sym (take_more xs i x lt)

-- what holds of as many as there are holds of all
pub of_all : {A : Type 0} (P : List A → Type 0) (xs : List A) (i : ℕ) → length xs ≤ i → P (take i xs) → P xs
of_all P xs i past = subst P (take_all i xs past)
