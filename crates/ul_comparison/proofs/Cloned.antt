-- Clones of lists of texts.
use Rattle.std.proofs.Common.{◌≡◌, List, [], ◌∷◌, refl, map, Global, String, string_bytes}
use Rattle.std.specs.List.{AllZip}

-- texts of which each has the bytes of the other at its place are the same
pub texts_cloned : (xs ys : List (String Global)) → AllZip (λ s t. string_bytes t ≡ string_bytes s) xs ys → map string_bytes ys ≡ map string_bytes xs
texts_cloned [] [] same = refl
texts_cloned [] (y ∷ ys) same = absurd same
texts_cloned (x ∷ xs) [] same = absurd same
texts_cloned (x ∷ xs) (y ∷ ys) same = rw (same.0, texts_cloned xs ys same.1) refl
