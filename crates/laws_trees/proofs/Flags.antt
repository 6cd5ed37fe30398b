-- Tests of the elements of a list as flags by their places.
use Rattle.std.proofs.Common.{◌≡◌, ℕ, List, get_or, map, option_map, Bool, false, Some, ap, ◌∙◌}
use Rattle.std.specs.Prelude.{slice_get}
use Rattle.std.proofs.lemmas.Option.{get_or_from_slice_get, slice_get-map}

-- the flag at the place of an element
pub flag_at : {A : Type 0} (f : A → Bool) (xs : List A) (k : ℕ) (x : A) → slice_get xs k ≡ Some x
    → get_or (map f xs) k false ≡ f x
flag_at f xs k x e = get_or_from_slice_get (map f xs) k (f x) false (slice_get-map f xs k ∙ ap (option_map f) e)
