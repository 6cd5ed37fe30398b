-- The nodes of a project: its base, and then its extras.
use Rattle.std.proofs.Common.{◌≡◌, ◌<◌, ◌≤◌, ◌+◌, ◌++◌, ◌∷◌, ◌∙◌, ℕ, List, [], length, take, get_or, sym, ap}
use Rattle.std.proofs.lemmas.List.{map-append, take_all, take_more}
use Rattle.ul_base.specs.declared.node.Node.{Node}
use Rattle.ul_requirement.specs.Truth.{base, with_extra}
use Rattle.ul_region.specs.Laws.{roots}

-- the base alone
pub roots_begun : (name : List ℕ) (extras : List (List ℕ)) (none now : List Node) (n : Node) → none ≡ [] → now ≡ none ++ n ∷ [] → n ≡ base name → now ≡ roots name (take 0 extras)
roots_begun name [] none now n empty is same = is ∙ ap (λ z. z ++ n ∷ []) empty ∙ ap (λ m. m ∷ []) same
roots_begun name (x ∷ xs) none now n empty is same = is ∙ ap (λ z. z ++ n ∷ []) empty ∙ ap (λ m. m ∷ []) same

-- one extra more
pub roots_more : (name : List ℕ) (extras : List (List ℕ)) (i : ℕ) (x : List ℕ) (before after : List Node) (n : Node) → i < length extras → x ≡ get_or extras i x
    → before ≡ roots name (take i extras) → after ≡ before ++ n ∷ [] → n ≡ with_extra name x → after ≡ roots name (take (i + 1) extras)
roots_more name extras i x before after n lt is so_far more same =
    more ∙ (λ j. so_far j ++ (same ∙ ap (with_extra name) is) j ∷ []) ∙ ap (λ z. base name ∷ z) (sym (map-append (with_extra name) (take i extras) (get_or extras i x ∷ [])))
    ∙ ap (roots name) (sym (take_more extras i x lt))

-- all extras
pub roots_all : (name : List ℕ) (extras : List (List ℕ)) (i : ℕ) (now : List Node) → length extras ≤ i → now ≡ roots name (take i extras) → now ≡ roots name extras
roots_all name extras i now past so_far = so_far ∙ ap (roots name) (take_all i extras past)
