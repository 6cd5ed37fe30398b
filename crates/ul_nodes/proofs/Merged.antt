-- Keys of two trees in one row.
use Rattle.std.proofs.Common.{arith, ◌≡◌, ℕ, ◌-◌, List, [], ◌∷◌, ◌++◌, take, drop, length, refl, ap, sym, ◌∙◌, length-drop, true}
use Rattle.std.specs.List.{All}
use Rattle.std.proofs.lemmas.List.{append-nil, take_all}
use Rattle.std.proofs.lemmas.List.Elements.{All-append, All-drop}
use Rattle.ul_nodes.specs.Apply.{key_union}
use Rattle.ul_nodes.specs.Keys.{keys_view, key_view, has_kind}
use Rattle.ul_nodes.specs.declared.level.Key.{Key}

pub merged_none : (xs : List (List ℕ)) → key_union xs [] ≡ xs
merged_none [] = refl
merged_none (x ∷ xs) = ap (λ zs. x ∷ zs) (merged_none xs)

keys_append : (xs ys : List Key) → keys_view (xs ++ ys) ≡ keys_view xs ++ keys_view ys
keys_append [] ys = refl
keys_append (x ∷ xs) ys = ap (λ zs. key_view x ∷ zs) (keys_append xs ys)

pub rest_taken : (xs : List Key) (i : ℕ) → take (length xs - i) (drop i xs) ≡ drop i xs
rest_taken xs i = take_all (length xs - i) (drop i xs) (omega (arith, length-drop i xs))

-- one list is at its end
pub ended_first : (made xs ys : List Key) → xs ≡ [] → keys_view ((made ++ xs) ++ ys) ≡ keys_view made ++ key_union (keys_view xs) (keys_view ys)
ended_first made xs ys e = ap (λ z. keys_view ((made ++ z) ++ ys)) e ∙ ap (λ z. keys_view (z ++ ys)) (append-nil made) ∙ keys_append made ys ∙ ap (λ z. keys_view made ++ key_union (keys_view z) (keys_view ys)) (sym e)

pub ended_second : (made xs ys : List Key) → ys ≡ [] → keys_view ((made ++ xs) ++ ys) ≡ keys_view made ++ key_union (keys_view xs) (keys_view ys)
ended_second made xs ys e =
    ap (λ z. keys_view ((made ++ xs) ++ z)) e ∙ ap keys_view (append-nil (made ++ xs)) ∙ keys_append made xs ∙ ap (λ z. keys_view made ++ z) (sym (merged_none (keys_view xs)))
    ∙ ap (λ z. keys_view made ++ key_union (keys_view xs) (keys_view z)) (sym e)

pub kinds_ended : (l : List ℕ) (made xs ys : List Key) (i j : ℕ) → All (λ k. has_kind l k ≡ true) made → All (λ k. has_kind l k ≡ true) xs → All (λ k. has_kind l k ≡ true) ys
    → All (λ k. has_kind l k ≡ true) ((made ++ drop i xs) ++ drop j ys)
kinds_ended l made xs ys i j a b c =
    All-append (λ k. has_kind l k ≡ true) (made ++ drop i xs) (drop j ys) (All-append (λ k. has_kind l k ≡ true) made (drop i xs) a (All-drop (λ k. has_kind l k ≡ true) i xs b))
    (All-drop (λ k. has_kind l k ≡ true) j ys c)
