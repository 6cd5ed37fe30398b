-- Places that are kept by a test, as loops keep them.
use Rattle.std.proofs.Common.{◌≡◌, ◌<◌, ◌+◌, ℕ, Bool, true, false, List, [], ◌∷◌, ◌++◌, append_assoc, cond, filter, length, get_or, take, sym, ap, ◌∙◌}
use Rattle.std.proofs.lemmas.List.{append-nil, take_more}
use Rattle.std.proofs.lemmas.List.Elements.{filter-append}

-- what is kept of one number more
kept_of : (p : ℕ → Bool) (xs : List ℕ) (i : ℕ) (b : Bool) → p (get_or xs i 0) ≡ b → i < length xs → filter p (take (i + 1) xs) ≡ filter p (take i xs) ++ cond b (get_or xs i 0 ∷ []) []
kept_of p xs i b t l =
    ap (filter p) (take_more xs i 0 l)
    ∙ (filter-append p (take i xs) (get_or xs i 0 ∷ []) ∙ ap (λ (c : Bool). filter p (take i xs) ++ cond c (get_or xs i 0 ∷ []) []) t)

-- a number that is kept, behind others
pub kept_more : (p : ℕ → Bool) (first xs done now : List ℕ) (i : ℕ) → now ≡ done ++ get_or xs i 0 ∷ [] → done ≡ first ++ filter p (take i xs) → p (get_or xs i 0) ≡ true → i < length xs
    → now ≡ first ++ filter p (take (i + 1) xs)
kept_more p first xs done now i e h t l =
    e ∙ (ap (λ (z : List ℕ). z ++ get_or xs i 0 ∷ []) h ∙ (append_assoc first (filter p (take i xs)) (get_or xs i 0 ∷ []) ∙ ap (λ (z : List ℕ). first ++ z) (sym (kept_of p xs i true t l))))

-- and one that isn't
pub kept_same : (p : ℕ → Bool) (first xs done : List ℕ) (i : ℕ) → done ≡ first ++ filter p (take i xs) → p (get_or xs i 0) ≡ false → i < length xs → done ≡ first ++ filter p (take (i + 1) xs)
kept_same p first xs done i h t l = h ∙ ap (λ (z : List ℕ). first ++ z) (sym (kept_of p xs i false t l ∙ append-nil (filter p (take i xs))))
