-- Sets of names, as a loop over what has names fills them.
use Rattle.std.proofs.Common.{◌≡◌, ◌<◌, ◌+◌, ◌||◌, ℕ, Bool, List, cond, get_or, length, take, true, false, refl, sym, ap, ◌∙◌}
use Rattle.std.specs.List.{list_any}
use Rattle.std.specs.Str.{bytes_eq}
use Rattle.std.proofs.lemmas.List.Folds.{list_any_more}

-- a choice with true on one side, as a disjunction
either : (b x : Bool) → cond b true x ≡ (x || b)
either true true = refl
either true false = refl
either false true = refl
either false false = refl

-- a name is among those of one thing more where it is that one's, or was among them
pub named_more : {A : Type 0} (name : A → List ℕ) (qs : List A) (i : ℕ) (k : List ℕ) (q : A) (n : List ℕ) (before now : Bool) → k ≡ name q → now ≡ cond (bytes_eq k n) true before
    → before ≡ list_any (λ (x : A). bytes_eq (name x) n) (take i qs) → i < length qs → q ≡ get_or qs i q → now ≡ list_any (λ (x : A). bytes_eq (name x) n) (take (i + 1) qs)
named_more {A} name qs i k q n before now same put was l at =
    let p = λ (x : A). bytes_eq (name x) n in
    put
    ∙ (either (bytes_eq k n) before
    ∙ (ap (λ (b : Bool). b || bytes_eq k n) was
    ∙ (ap (λ (m : List ℕ). list_any p (take i qs) || bytes_eq m n) same ∙ (ap (λ (x : A). list_any p (take i qs) || bytes_eq (name x) n) at ∙ sym (list_any_more p qs i q l)))))
