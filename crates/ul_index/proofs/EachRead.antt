-- What was read, before what is left to read.
use Rattle.std.proofs.Common.{◌≡◌, ◌++◌, List, [], ◌∷◌, Option, Some, None, true, false, is_some, refl, ap, sym, append_assoc}
use Rattle.std.specs.Prelude.{ℕ, Ok, Err}
use Rattle.serde_json.specs.Data.{Data}
use Rattle.serde_json.specs.Find.{as_str}
use Rattle.ul_requirement.specs.Fields.{RequirementFields}
use Rattle.ul_requirement.specs.Reading.{requirement_of}
use Rattle.ul_index.specs.Documents.{Reading, requirement_in, shape, texts_at}
use Rattle.ul_index.specs.Results.{◌>>=◌, option_bind, or_fault, read_each}
use Rattle.ul_index.specs.declared.place.Place.{Place}

-- the values found, and then those that are found of the rest
abbrev pub found_then : {B : Type 0} → List B → Option (List B) → Option (List B)
found_then found rest = option_bind rest (λ ys. Some (found ++ ys))

then_one : {B : Type 0} (found : List B) (y : B) (rest : Option (List B)) → found_then found (option_bind rest (λ ys. Some (y ∷ ys))) ≡ found_then (found ++ y ∷ []) rest
then_one found y (Some ys) = ap Some (sym (append_assoc found (y ∷ []) ys))
then_one found y None = refl

-- one more is read
pub found_then-one : {A B : Type 0} (f : A → Option B) (found after : List B) (x : A) (xs : List A) (y : B) → f x ≡ Some y → after ≡ found ++ y ∷ []
    → found_then found (read_each f (x ∷ xs)) ≡ found_then after (read_each f xs)
found_then-one f found after x xs y e s = rw (e, s) (then_one found y (read_each f xs))

-- ---- values of an array

-- texts are read as the values that they are
each_text : (d : Data) (ds : List Data) (o : Option (List ℕ)) (rest : Option (List (List ℕ))) → as_str d ≡ o
    → ((ts : List (List ℕ)) → rest ≡ Some ts → read_each requirement_of ts ≡ read_each requirement_in ds)
    → (ts : List (List ℕ)) → option_bind o (λ t. option_bind rest (λ us. Some (t ∷ us))) ≡ Some ts
    → read_each requirement_of ts ≡ option_bind (option_bind o requirement_of) (λ y. option_bind (read_each requirement_in ds) (λ ys. Some (y ∷ ys)))
each_text d ds None rest is more ts e = cc
each_text d ds (Some t) None is more ts e = cc
each_text d ds (Some t) (Some us) is more ts e =
    let same : t ∷ us ≡ ts = cc in rw (← same, more us refl) refl

texts_read : (ds : List Data) (ts : List (List ℕ)) → read_each as_str ds ≡ Some ts → read_each requirement_of ts ≡ read_each requirement_in ds
texts_read [] ts e = let same : [] ≡ ts = cc in rw (← same) refl
texts_read (d ∷ ds) ts e = each_text d ds (as_str d) (read_each as_str ds) refl (λ us f. texts_read ds us f) ts e

abbrev requirements_after : Place → Option (List (List ℕ)) → Reading (Option (List RequirementFields))
requirements_after place o = or_fault (shape place) o >>= λ texts. Ok (read_each requirement_of texts)

all_texts : (place : Place) (ds : List Data) (o : Option (List (List ℕ))) → read_each as_str ds ≡ o → is_some o ≡ true
    → requirements_after place o ≡ Ok (read_each requirement_in ds)
all_texts place ds None e h = cc
all_texts place ds (Some ts) e h = ap Ok (texts_read ds ts e)

no_texts : (place : Place) (o : Option (List (List ℕ))) → is_some o ≡ false → requirements_after place o ≡ Err (shape place)
no_texts place None h = refl
no_texts place (Some ts) h = cc

-- where all values are texts, their requirements are those of the values; else the place has another shape
pub texts_then : (place : Place) (ds : List Data) → true ≡ is_some (read_each as_str ds)
    → (texts_at place ds >>= λ texts. Ok (read_each requirement_of texts)) ≡ Ok (read_each requirement_in ds)
texts_then place ds h = all_texts place ds (read_each as_str ds) refl (sym h)

pub texts_fail : (place : Place) (ds : List Data) → false ≡ is_some (read_each as_str ds)
    → (texts_at place ds >>= λ texts. Ok (read_each requirement_of texts)) ≡ Err (shape place)
texts_fail place ds h = no_texts place (read_each as_str ds) (sym h)
