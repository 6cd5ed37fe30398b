-- Lists that are made of those that are left, one by one.
use Rattle.std.proofs.Common.{◌≡◌, ◌∙◌, ◌++◌, ℕ, List, [], ◌∷◌, map, ap, sym, append_assoc, append-nil}
use Rattle.ul_requirement.specs.Fields.{RequirementFields}
use Rattle.ul_groups.specs.Expanded.{ExtraLists, joined_lists}

-- one more was made of the first that is left
pub left_next : {X Y : Type 0} (f : X → Y) (before after all : List Y) (xs rest : List X) (x : X) (y : Y) → after ≡ before ++ y ∷ []
    → y ≡ f x → xs ≡ x ∷ rest → before ++ map f xs ≡ all → after ++ map f rest ≡ all
left_next f before after all xs rest x y made is first so_far =
    ap (λ ys. ys ++ map f rest) made ∙ append_assoc before (y ∷ []) (map f rest) ∙ ap (λ z. before ++ z ∷ map f rest) is
    ∙ ap (λ zs. before ++ map f zs) (sym first) ∙ so_far

-- the requirements of the first list that is left were added
pub joined_next : (before after list all : List RequirementFields) (lists rest : ExtraLists) (name : List ℕ) → after ≡ before ++ list
    → lists ≡ (name, list) ∷ rest → before ++ joined_lists lists ≡ all → after ++ joined_lists rest ≡ all
joined_next before after list all lists rest name made first so_far =
    ap (λ ys. ys ++ joined_lists rest) made ∙ append_assoc before list (joined_lists rest)
    ∙ ap (λ ls. before ++ joined_lists ls) (sym first) ∙ so_far

-- nothing is left
pub left_none : {X Y : Type 0} (of : List X → List Y) (made all : List Y) (xs : List X) → of [] ≡ [] → xs ≡ [] → made ++ of xs ≡ all
    → made ≡ all
left_none of made all xs none empty so_far =
    sym (append-nil made) ∙ ap (λ ys. made ++ ys) (sym none) ∙ ap (λ zs. made ++ of zs) (sym empty) ∙ so_far
