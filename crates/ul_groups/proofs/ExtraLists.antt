-- Lists of extras, one by one.
use Rattle.std.proofs.Common.{◌≡◌, ◌+◌, ◌<◌, ◌++◌, ◌∙◌, ℕ, List, [], ◌∷◌, drop, get_or, length, take, ap, sym, append_assoc}
use Rattle.std.specs.Prelude.{zip}
use Rattle.ul_project.specs.Lists.{by_name}
use Rattle.ul_requirement.specs.Fields.{RequirementFields}
use Rattle.ul_groups.specs.Expanded.{ExtraLists, lists_by, lists_with, own_size}
use Rattle.ul_groups.proofs.GroupLists.{left}

one_made : (found after : ExtraLists) (name : List ℕ) (names : List (List ℕ)) (left more : List ℕ) (n : ℕ) (qs list rest : List RequirementFields)
    → left ≡ n ∷ more → list ≡ take n qs → rest ≡ drop n qs → after ≡ found ++ (name, list) ∷ []
    → found ++ zip (name ∷ names) (lists_by left qs) ≡ after ++ zip names (lists_by more rest)
one_made found after name names left more n qs list rest l t d a =
    rw (l, a, t, d) (sym (append_assoc found ((name, take n qs) ∷ []) (zip names (lists_by more (drop n qs)))))

-- the list of one more extra was made
pub extra_next : (found after : ExtraLists) (before : List (List ℕ)) (name : List ℕ) (names : List (List ℕ)) (sizes : List ℕ) (i n : ℕ) (qs list rest : List RequirementFields)
    → before ≡ name ∷ names → i < length sizes → n ≡ get_or sizes i n → list ≡ take n qs → rest ≡ drop n qs → after ≡ found ++ (name, list) ∷ []
    → found ++ zip before (lists_by (drop i sizes) qs) ≡ after ++ zip names (lists_by (drop (i + 1) sizes) rest)
extra_next found after before name names sizes i n qs list rest b lt is l r a =
    ap (λ (ns : List (List ℕ)). found ++ zip ns (lists_by (drop i sizes) qs)) b
    ∙ one_made found after name names (drop i sizes) (drop (i + 1) sizes) n qs list rest (left sizes i n lt is) l r a

-- the lists that were made are those of the extras behind the own requirements, and the others
pub lists_are : (qs rest : List RequirementFields) (extras : List (List ℕ)) (sizes used : List ℕ) (lists made : ExtraLists)
    → rest ≡ drop (own_size sizes qs) qs → used ≡ sizes → made ≡ by_name (zip extras (lists_by used rest) ++ lists)
    → made ≡ lists_with extras sizes qs lists
lists_are qs rest extras sizes used lists made r u e = e ∙ (λ i. by_name (zip extras (lists_by (u i) (r i)) ++ lists))
