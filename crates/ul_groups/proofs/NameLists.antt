-- Requirements in a map from their names.
use Rattle.std.proofs.Common.{◌≡◌, ◌+◌, ◌<◌, ◌++◌, ◌∙◌, ℕ, List, [], ◌∷◌, Bool, true, false, cond, Option, length, take, get_or, refl, ap, sym, subst, append-nil}
use Rattle.std.proofs.lemmas.List.{take_more}
use Rattle.std.proofs.lemmas.List.Elements.{filter-append}
use Rattle.std.proofs.lemmas.Map.Lookups.{exact_bytes}
use Rattle.std.specs.BTreeMap.{is_at}
use Rattle.std.specs.Ordering.{is_eq}
use Rattle.std.specs.declared.cmp.Ordering.{Ordering}
use Rattle.std.specs.declared.cmp.Ordering.TheVariants.{Less, Equal, Greater}
use Rattle.ul_base.specs.Names.{name_cmp}
use Rattle.ul_requirement.specs.Fields.{RequirementFields}
use Rattle.ul_groups.specs.Adjusted.{all_on, is_on}
use Rattle.ul_groups.specs.NameLists.{Entries, HasEach, at_name, list_or_none}

-- what a map has at a name that was replaced
pub listed_at : (b : Bool) (here rest : Option (List RequirementFields)) → list_or_none (cond b here rest) ≡ cond b (list_or_none here) (list_or_none rest)
listed_at true here rest = refl
listed_at false here rest = refl

equal_test : (o : Ordering) → is_eq o ≡ true → o ≡ Equal
equal_test Less h = cc
equal_test Equal h = refl
equal_test Greater h = cc

-- names that are level in their order are equal
pub same_name : (name other : List ℕ) → is_at (name_cmp name) other ≡ true → name ≡ other
same_name name other h = exact_bytes name other (equal_test (name_cmp name other) h)

added_where : (b : Bool) (q : RequirementFields) (taken list old : List RequirementFields) → (b ≡ true → taken ≡ old) → list ≡ taken ++ q ∷ []
    → cond b list (cond b [] old) ≡ cond b (old ++ q ∷ []) old
added_where true q taken list old same e = e ∙ ap (λ (xs : List RequirementFields). xs ++ q ∷ []) (same refl)
added_where false q taken list old same e = refl

-- a list is taken out, gets one more, and is put back
pub added : (name : List ℕ) (q : RequirementFields) (taken list : List RequirementFields) (old mid new : Entries) → name ≡ q.name
    → taken ≡ at_name old name → list ≡ taken ++ q ∷ []
    → ((other : List ℕ) → at_name mid other ≡ cond (is_at (name_cmp name) other) [] (at_name old other))
    → ((other : List ℕ) → at_name new other ≡ cond (is_at (name_cmp name) other) list (at_name mid other))
    → (other : List ℕ) → at_name new other ≡ cond (is_on other q) (at_name old other ++ q ∷ []) (at_name old other)
added name q taken list old mid new named out more without with_list other =
    with_list other
    ∙ ap (λ (xs : List RequirementFields). cond (is_at (name_cmp name) other) list xs) (without other)
    ∙ added_where (is_at (name_cmp name) other) q taken list (at_name old other) (λ h. out ∙ ap (at_name old) (same_name name other h)) more
    ∙ ap (λ (n : List ℕ). cond (is_at (name_cmp n) other) (at_name old other ++ q ∷ []) (at_name old other)) named

one_more : (b : Bool) (q : RequirementFields) (xs : List RequirementFields) → xs ++ cond b (q ∷ []) [] ≡ cond b (xs ++ q ∷ []) xs
one_more true q xs = refl
one_more false q xs = append-nil xs

on_more : (qs : List RequirementFields) (q : RequirementFields) (name : List ℕ)
    → all_on (qs ++ q ∷ []) name ≡ cond (is_on name q) (all_on qs name ++ q ∷ []) (all_on qs name)
on_more qs q name = filter-append (is_on name) qs (q ∷ []) ∙ one_more (is_on name q) q (all_on qs name)

-- one more requirement was added
pub has_more : (before after : Entries) (qs : List RequirementFields) (q : RequirementFields) → HasEach before qs
    → ((other : List ℕ) → at_name after other ≡ cond (is_on other q) (at_name before other ++ q ∷ []) (at_name before other))
    → HasEach after (qs ++ q ∷ [])
has_more before after qs q h step = λ name.
    step name ∙ ap (λ (xs : List RequirementFields). cond (is_on name q) (xs ++ q ∷ []) xs) (h name) ∙ sym (on_more qs q name)

-- the next element of a list stands behind those before it
pub taken_next : {X : Type 0} (xs : List X) (i : ℕ) (x : X) → i < length xs → x ≡ get_or xs i x → take (i + 1) xs ≡ take i xs ++ x ∷ []
taken_next {X} xs i x lt is = take_more xs i x lt ∙ ap (λ (y : X). take i xs ++ y ∷ []) (sym is)

-- the next requirement of a list was added
pub has_next : (before after : Entries) (qs : List RequirementFields) (i : ℕ) (q : RequirementFields) → HasEach before (take i qs)
    → i < length qs → q ≡ get_or qs i q
    → ((other : List ℕ) → at_name after other ≡ cond (is_on other q) (at_name before other ++ q ∷ []) (at_name before other))
    → HasEach after (take (i + 1) qs)
has_next before after qs i q h lt is step =
    subst (HasEach after) (sym (taken_next qs i q lt is)) (has_more before after (take i qs) q h step)
