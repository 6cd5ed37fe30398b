-- Lemmas on lists of versions in literals.
use Rattle.std.proofs.Common.{◌≡◌, ℕ, ◌+◌, ◌<◌, List, [], ◌∷◌, ◌++◌, length, drop, take, get_or, refl, sym, ap, ◌∙◌, arith, Bool, true, false, Option, Some, None}
use Rattle.std.specs.Prelude.{All}
use Rattle.std.specs.List.{slice_split}
use Rattle.std.proofs.lemmas.List.{drop_more, get_or-take, length-take, take-append-drop, append-nil, append_assoc}
use Rattle.std.proofs.lemmas.List.Splits.{slice_split_none, slice_split_at}
use Rattle.std.proofs.lemmas.Grind.{get_or_default_zero}
use Rattle.ul_version.specs.Fields.{Fields}
use Rattle.ul_version.specs.Reading.{◌>>=◌, version_of}
use Rattle.ul_marker.specs.Comparisons.{parts_versions, version_list, versions_of}
use Rattle.ul_marker.specs.Readers.{added_versions}

-- ---- the pieces of a list

none-pass : (p : ℕ → Bool) (xs : List ℕ) → ((k : ℕ) → k < length xs → p (get_or xs k 0) ≡ false) → All (λ x. p x ≡ false) xs
none-pass p xs h k d lt = rw (get_or_default_zero xs k d lt) (h k lt)

pub split-last : (p : ℕ → Bool) (xs : List ℕ) → ((k : ℕ) → k < length xs → p (get_or xs k 0) ≡ false) → slice_split p xs ≡ xs ∷ []
split-last p xs h = slice_split_none p xs (none-pass p xs h)

pub split-more : (p : ℕ → Bool) (xs : List ℕ) (n : ℕ) → n < length xs → p (get_or xs n 0) ≡ true → ((k : ℕ) → k < n → p (get_or xs k 0) ≡ false)
    → slice_split p xs ≡ take n xs ∷ slice_split p (drop (n + 1) xs)
split-more p xs n lt passes none =
    let whole : xs ≡ take n xs ++ (get_or xs n 0 ∷ drop (n + 1) xs) = sym (take-append-drop n xs) ∙ ap (λ (l : List ℕ). take n xs ++ l) (drop_more xs n 0 lt) in
    let front : All (λ x. p x ≡ false) (take n xs) = none-pass p (take n xs) (λ k inner.
    let below : k < n = omega (arith, length-take n xs) in rw (get_or-take n xs k 0 below) (none k below)) in
    ap (λ (l : List ℕ). slice_split p l) whole
    ∙ slice_split_at p (take n xs) (get_or xs n 0) (drop (n + 1) xs) front passes

-- ---- versions

added-push : (vs : List Fields) (v : Fields) (part : Option (List Fields)) → added_versions vs (part >>= λ us. Some (v ∷ us)) ≡ added_versions (vs ++ v ∷ []) part
added-push vs v None = refl
added-push vs v (Some us) = ap (λ (l : List Fields). Some l) (sym (append_assoc vs (v ∷ []) us))

-- the versions of a piece, and then those of the others
piece-first : (vs : List Fields) (piece : List ℕ) (pieces : List (List ℕ))
    → added_versions vs (versions_of (piece ∷ pieces)) ≡ (added_versions vs (versions_of (piece ∷ [])) >>= λ us. added_versions us (versions_of pieces))
unfolding versions_of
piece-first vs [] pieces = rw (append-nil vs) refl
piece-first vs (b ∷ piece) pieces = go (version_of (b ∷ piece))
  where
    go : (read : Option Fields) → added_versions vs (read >>= λ v. versions_of pieces >>= λ us. Some (v ∷ us))
        ≡ (added_versions vs (read >>= λ v. Some (v ∷ [])) >>= λ us. added_versions us (versions_of pieces))
    go None = refl
    go (Some v) = added-push vs v (versions_of pieces)

pub piece-added : (vs us : List Fields) (piece : List ℕ) (pieces : List (List ℕ)) → added_versions vs (versions_of (piece ∷ [])) ≡ Some us
    → added_versions vs (versions_of (piece ∷ pieces)) ≡ added_versions us (versions_of pieces)
piece-added vs us piece pieces e = piece-first vs piece pieces ∙ rw e refl

pub piece-none : (vs : List Fields) (piece : List ℕ) (pieces : List (List ℕ)) → versions_of (piece ∷ []) ≡ None
    → added_versions vs (versions_of (piece ∷ pieces)) ≡ None
piece-none vs piece pieces e = piece-first vs piece pieces ∙ rw e refl

pub list-end : (text : List ℕ) (vs : List Fields) → length text ≡ 0 → added_versions vs (version_list text) ≡ Some vs
unfolding versions_of
list-end [] vs e = ap (λ (l : List Fields). Some l) (append-nil vs)
list-end (b ∷ text) vs e = absurd (omega arith)

pub empty-added : (piece : List ℕ) (vs : List Fields) → length piece ≡ 0 → added_versions vs (versions_of (piece ∷ [])) ≡ Some vs
unfolding versions_of
empty-added [] vs e = ap (λ (l : List Fields). Some l) (append-nil vs)
empty-added (b ∷ piece) vs e = absurd (omega arith)

pub one-added : (piece : List ℕ) (vs us : List Fields) (v : Fields) → 0 < length piece → version_of piece ≡ Some v → us ≡ vs ++ v ∷ []
    → added_versions vs (versions_of (piece ∷ [])) ≡ Some us
unfolding versions_of
one-added [] vs us v h e so = absurd (omega arith)
one-added (b ∷ piece) vs us v h e so = rw (e, so) refl

pub one-none : (piece : List ℕ) → 0 < length piece → version_of piece ≡ None → versions_of (piece ∷ []) ≡ None
unfolding versions_of
one-none [] h e = absurd (omega arith)
one-none (b ∷ piece) h e = rw e refl

pub list-more : (text piece rest : List ℕ) (vs us : List Fields) → slice_split parts_versions text ≡ piece ∷ slice_split parts_versions rest
    → added_versions vs (versions_of (piece ∷ [])) ≡ Some us → added_versions vs (version_list text) ≡ added_versions us (version_list rest)
list-more text piece rest vs us e added = rw e (piece-added vs us piece (slice_split parts_versions rest) added)

pub list-last : (text piece : List ℕ) (vs us : List Fields) → slice_split parts_versions text ≡ text ∷ [] → piece ≡ text
    → added_versions vs (versions_of (piece ∷ [])) ≡ Some us → added_versions vs (version_list text) ≡ Some us
list-last text piece vs us e same added = rw (e, ← same) added

pub list-none : (text piece : List ℕ) (pieces : List (List ℕ)) (vs : List Fields) → slice_split parts_versions text ≡ piece ∷ pieces
    → versions_of (piece ∷ []) ≡ None → added_versions vs (version_list text) ≡ None
list-none text piece pieces vs e none = rw e (piece-none vs piece pieces none)
