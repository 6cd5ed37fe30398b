-- The order of preference has the eligible versions and no other.
use Rattle.std.proofs.Common.{◌≡◌, ◌⊎◌, List, [], ◌∷◌, filter, reverse, cond, not, Bool, true, false, Contains, refl, sym, subst, inl, inr, ⊎_elim}
use Rattle.std.proofs.lemmas.List.Elements.{Contains-append_left, Contains-append_right, Contains-append_cases}
use Rattle.std.proofs.lemmas.List.{reverse-reverse}
use Rattle.std.proofs.lemmas.List.Sorted.{Contains-permutation, IsPermutation-reverse}
use Rattle.ul_version.specs.Fields.{Fields}
use Rattle.ul_index.specs.Eligible.{eligible}
use Rattle.ul_index.specs.Preference.{preference, is_kept, is_direct, is_oldest_first}
use Rattle.ul_index.specs.Laws.{PreferenceSame}
use Rattle.ul_base.proofs.ForCallers.{contains_first, contains_later, none_in}
use Rattle.ul_base.proofs.ForCallers.{contains_cases}

from_cond : {A : Type 0} (b : Bool) (z x : A) (zs ys : List A) → (Contains ys x → Contains zs x) → Contains (cond b (z ∷ ys) ys) x → Contains (z ∷ zs) x
from_cond true z x zs ys later m = ⊎_elim (λ e. subst (Contains (z ∷ zs)) (sym e) (contains_first z zs)) (λ r. contains_later z zs x (later r)) (contains_cases z ys x m)
from_cond false z x zs ys later m = contains_later z zs x (later m)

pub filter_in : {A : Type 0} (test : A → Bool) (xs : List A) (x : A) → Contains (filter test xs) x → Contains xs x
filter_in test [] x m = absurd (none_in x m)
filter_in test (z ∷ zs) x m = from_cond (test z) z x zs (filter test zs) (filter_in test zs x) m

to_cond : {A : Type 0} (b : Bool) (z x : A) (ys : List A) → (x ≡ z → b ≡ true) → (x ≡ z) ⊎ Contains ys x → Contains (cond b (z ∷ ys) ys) x
to_cond true z x ys t (inl e) = subst (Contains (z ∷ ys)) (sym e) (contains_first z ys)
to_cond false z x ys t (inl e) = cc (t e)
to_cond true z x ys t (inr m) = contains_later z ys x m
to_cond false z x ys t (inr m) = m

filter_has : {A : Type 0} (test : A → Bool) (xs : List A) (x : A) → test x ≡ true → Contains xs x → Contains (filter test xs) x
filter_has test [] x t m = absurd (none_in x m)
filter_has test (z ∷ zs) x t m = to_cond (test z) z x (filter test zs) (λ e. subst (λ a. test a ≡ true) e t) (⊎_elim inl (λ r. inr (filter_has test zs x t r)) (contains_cases z zs x m))

reverse_has : (xs : List Fields) (x : Fields) → Contains xs x → Contains (reverse xs) x
reverse_has xs x m = Contains-permutation xs (reverse xs) x (IsPermutation-reverse xs) m

reverse_in : (xs : List Fields) (x : Fields) → Contains (reverse xs) x → Contains xs x
reverse_in xs x m = subst (λ l. Contains l x) (reverse-reverse xs) (reverse_has (reverse xs) x m)

by_test : (b : Bool) → (b ≡ true) ⊎ (not b ≡ true)
by_test true = inl refl
by_test false = inr refl

ways_in : (b : Bool) (xs : List Fields) (x : Fields) → Contains (cond b xs (reverse xs)) x → Contains xs x
ways_in true xs x m = m
ways_in false xs x m = reverse_in xs x m

ways_has : (b : Bool) (xs : List Fields) (x : Fields) → Contains xs x → Contains (cond b xs (reverse xs)) x
ways_has true xs x m = m
ways_has false xs x m = reverse_has xs x m

pub preference_same : PreferenceSame
unfolding preference
preference_same c wish n v =
    let old : List Fields = filter (is_kept wish n) (reverse (eligible c n)) in
    let way : Bool = is_oldest_first wish.mode (is_direct c n) in
    let rest : List Fields = filter (λ u. not (is_kept wish n u)) (cond way (eligible c n) (reverse (eligible c n))) in (
      (λ m. ⊎_elim (λ r. reverse_in (eligible c n) v (filter_in (is_kept wish n) (reverse (eligible c n)) v r))
          (λ r. ways_in way (eligible c n) v (filter_in (λ u. not (is_kept wish n u)) (cond way (eligible c n) (reverse (eligible c n))) v r)) (Contains-append_cases old rest v m)),
      (λ m. ⊎_elim (λ t. Contains-append_left old rest v (filter_has (is_kept wish n) (reverse (eligible c n)) v t (reverse_has (eligible c n) v m)))
          (λ t. Contains-append_right old rest v (filter_has (λ u. not (is_kept wish n u)) (cond way (eligible c n) (reverse (eligible c n))) v t (ways_has way (eligible c n) v m))) (by_test (is_kept wish n v))),
    )
