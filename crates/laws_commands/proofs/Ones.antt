-- What files say is one result, where each part of it is.
use Rattle.std.proofs.Common.{◌≡◌, ◌∙◌, ℕ, List, Result, Ok, Err, refl, sym, subst, inl, inr}
use Rattle.ul_files.specs.Files.{FileMap}
use Rattle.ul_inputs.specs.Inputs.{Said, just, said_on, file_at, present, present_file}
use Rattle.ul_inputs.specs.Refused.{Refused}

-- any two results that are given are so related
abbrev pub AreAlike : {A : Type 0} → (Result A Refused → Result A Refused → Type 0) → Said A → Type 0
AreAlike {A} Same said = (a b : Result A Refused) → said.gives a → said.gives b → Same a b

-- at most one result is given
abbrev pub IsOne : {A : Type 0} → Said A → Type 0
IsOne {A} said = (a b : Result A Refused) → said.gives a → said.gives b → a ≡ b

-- equal results have equal values
pub ok_same : (A : Type 0) (x y : A) → (let r : Result A Refused = Ok x in r) ≡ Ok y → x ≡ y
ok_same A x y e = cc

err_same : (A : Type 0) (e f : Refused) → (let r : Result A Refused = Err e in r) ≡ Err f → e ≡ f
err_same A e f h = cc

-- and no value is a refusal
pub not_both : (A : Type 0) (x : A) (e : Refused) → (let r : Result A Refused = Ok x in r) ≡ Err e → ⊥
not_both A x e h = cc

-- where the first gives at most one result, and what two ways to go on give on each value is related, so is what both give
-- after the first
pub related_on : {A B : Type 0} (Same : Result B Refused → Result B Refused → Type 0) → ((e : Refused) → Same (Err e) (Err e))
    → (first : Said A) (next other : A → Said B) → IsOne first
    → ((x : A) (a b : Result B Refused) → (next x).gives a → (other x).gives b → Same a b)
    → (a b : Result B Refused) → (said_on first next).gives a → (said_on first other).gives b → Same a b
related_on {A} {B} Same itself first next other one each (Ok x) b (inl g) h = absurd g
related_on {A} {B} Same itself first next other one each a (Ok y) g (inl h) = absurd h
related_on {A} {B} Same itself first next other one each (Err e) (Err f) (inl g) (inl h) =
    subst (λ x. Same (Err e) (Err x)) (err_same A e f (one (Err e) (Err f) g h)) (itself e)
related_on {A} {B} Same itself first next other one each (Err e) b (inl g) (inr h) =
    absurd (not_both A h.value e (one (Ok h.value) (Err e) h.gave g))
related_on {A} {B} Same itself first next other one each a (Err f) (inr g) (inl h) =
    absurd (not_both A g.value f (one (Ok g.value) (Err f) g.gave h))
related_on {A} {B} Same itself first next other one each a b (inr g) (inr h) =
    let same = ok_same A g.value h.value (one (Ok g.value) (Ok h.value) g.gave h.gave) in
    each h.value a b (subst (λ x. (next x).gives a) same g.answers) h.answers

-- the same of one way to go on
pub alike_on : {A B : Type 0} (Same : Result B Refused → Result B Refused → Type 0) → ((e : Refused) → Same (Err e) (Err e))
    → (first : Said A) (next : A → Said B) → IsOne first → ((x : A) → AreAlike Same (next x)) → AreAlike Same (said_on first next)
alike_on Same itself first next one each = related_on Same itself first next next one each

-- two inputs of one result, one after the other
pub one_on : {A B : Type 0} (first : Said A) (next : A → Said B) → IsOne first → ((x : A) → IsOne (next x)) → IsOne (said_on first next)
one_on {A} {B} first next one each = alike_on (λ (a b : Result B Refused). a ≡ b) (λ e. refl) first next one each

-- what follows a value that is given, where the first gives at most one result
pub given_on : {A B : Type 0} (first : Said A) (next : A → Said B) → IsOne first → (x : A) → first.gives (Ok x) → (b : Result B Refused)
    → (said_on first next).gives b → (next x).gives b
given_on {A} {B} first next one x gave (Ok y) (inl h) = absurd h
given_on {A} {B} first next one x gave (Err e) (inl h) = absurd (not_both A x e (one (Ok x) (Err e) gave h))
given_on {A} {B} first next one x gave b (inr h) =
    subst (λ z. (next z).gives b) (ok_same A h.value x (one (Ok h.value) (Ok x) h.gave gave)) h.answers

-- exactly this
pub one_just : {A : Type 0} (r : Result A Refused) (m : FileMap) → IsOne (just r m)
one_just r m a b g h = g ∙ sym h

-- a file that has to be there
pub one_file : (name : List ℕ) (most : ℕ) (path : List ℕ) (m : FileMap) → IsOne (present_file name most path m)
one_file name most path m =
    one_on (file_at name most path m) (λ found. just (present path found) m) (λ a b g h. g ∙ sym h) (λ found. one_just (present path found) m)
