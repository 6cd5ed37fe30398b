-- Readings of a project file, one after another.
use Rattle.std.proofs.Common.{◌≡◌, ℕ, ◌+◌, List, [], ◌∷◌, Option, Some, None, Result, Ok, Err, refl, subst}
use Rattle.std.specs.List.{AllByRecursion}
use Rattle.ul_project.specs.Results.{◌>>=◌, each_from, or_fault}
use Rattle.ul_project.specs.Shapes.{Reading}

-- where a reading and what follows it give a value, both were read
pub went_on : {A B F : Type 0} (first : Result A F) (next : A → Result B F) (y : B) → (first >>= next) ≡ Ok y
    → (x : A) × (first ≡ Ok x) × (next x ≡ Ok y)
went_on (Ok x) next y e = (x, refl, e)
went_on (Err f) next y e = absurd (cc e)

-- what has to be there was
pub was_there : {A F : Type 0} (f : F) (o : Option A) (x : A) → or_fault f o ≡ Ok x → o ≡ Some x
was_there f None x e = absurd (cc e)
was_there f (Some y) x e = cc

-- one value is read
pub same_ok : {A : Type 0} (x y : A) → (let r : Reading A = Ok x in r) ≡ Ok y → x ≡ y
same_ok x y e = cc

-- where each that is read is such, each of a list is
pub each_all : {A B : Type 0} (P : B → Type 0) (read : ℕ → A → Reading B)
    → ((i : ℕ) (d : A) (y : B) → read i d ≡ Ok y → P y)
    → (i : ℕ) (ds : List A) (ys : List B) → each_from read i ds ≡ Ok ys → AllByRecursion P ys
unfolding each_from
each_all P read h i [] ys e = subst (λ zs. AllByRecursion P zs) (same_ok [] ys e) tt
each_all P read h i (d ∷ ds) ys e =
    let one = went_on (read i d) _ ys e in
    let rest = went_on (each_from read (i + 1) ds) _ ys one.2 in
    subst (λ zs. AllByRecursion P zs) (same_ok (one.0 ∷ rest.0) ys rest.2)
    (h i d one.0 one.1, each_all P read h (i + 1) ds rest.0 rest.1)
