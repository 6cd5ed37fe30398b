-- Requirements adjusted one by one.
use Rattle.std.proofs.Common.{◌≡◌, ◌+◌, ◌<◌, ◌++◌, ◌∙◌, ℕ, List, [], ◌∷◌, length, map, take, get_or, Option, Some, None, Result, ap, sym, subst, append_assoc, append-nil}
use Rattle.std.specs.Prelude.{IfOk}
use Rattle.std.specs.List.Sorted.{IsStrictlySortedBy}
use Rattle.std.specs.declared.alloc.AllocError.{AllocError}
use Rattle.ul_base.specs.Names.{name_cmp}
use Rattle.ul_comparison.specs.Formulas.{Formula}
use Rattle.ul_requirement.specs.Fields.{MayBeFormula, ReleaseFields, RequirementFields}
use Rattle.ul_project.specs.Extras.{joined_markers}
use Rattle.ul_groups.specs.Adjusted.{ByName, adjusted_list, adjusted_release, overridden_list, overridden_by, replaced_by, with_requirements}
use Rattle.ul_groups.proofs.NameLists.{taken_next}

-- a requirement with overrides is replaced
pub replaced_some : (q : RequirementFields) (os : List RequirementFields) (o : RequirementFields) (rest : List RequirementFields) → os ≡ o ∷ rest
    → map (overridden_by q) os ≡ replaced_by q os
replaced_some q os o rest e = ap (map (overridden_by q)) e ∙ sym (ap (replaced_by q) e)

-- one more requirement stands behind others
pub overridden_more : (overrides : ByName) (qs : List RequirementFields) (q : RequirementFields)
    → overridden_list overrides (qs ++ q ∷ []) ≡ overridden_list overrides qs ++ replaced_by q (overrides q.name)
overridden_more overrides [] q = append-nil (replaced_by q (overrides q.name))
overridden_more overrides (p ∷ ps) q =
    ap (λ (rest : List RequirementFields). replaced_by p (overrides p.name) ++ rest) (overridden_more overrides ps q)
    ∙ sym (append_assoc (replaced_by p (overrides p.name)) (overridden_list overrides ps) (replaced_by q (overrides q.name)))

-- the next requirement of a list is overridden behind those before it
pub overridden_next : (overrides : ByName) (qs : List RequirementFields) (i : ℕ) (q : RequirementFields) (before after : List RequirementFields)
    → before ≡ overridden_list overrides (take i qs) → i < length qs → q ≡ get_or qs i q → after ≡ before ++ replaced_by q (overrides q.name)
    → after ≡ overridden_list overrides (take (i + 1) qs)
overridden_next overrides qs i q before after h lt is e =
    e ∙ ap (λ (xs : List RequirementFields). xs ++ replaced_by q (overrides q.name)) h
    ∙ sym (ap (overridden_list overrides) (taken_next qs i q lt is) ∙ overridden_more overrides (take i qs) q)

-- a release that was made with the adjusted requirements is adjusted
pub release_adjusted : (constraints overrides sources : ByName) (x : ReleaseFields) (made requirements : List RequirementFields)
    (r : Result ReleaseFields AllocError) → made ≡ adjusted_list constraints overrides sources requirements
    → requirements ≡ x.requirements → IfOk r (λ y. y ≡ with_requirements x made)
    → IfOk r (λ y. y ≡ adjusted_release constraints overrides sources x)
release_adjusted constraints overrides sources x made requirements r is own h =
    subst (λ (z : ReleaseFields). IfOk r (λ y. y ≡ z))
    (ap (with_requirements x) (is ∙ ap (adjusted_list constraints overrides sources) own)) h

joined_formula : (a b : Option Formula) → MayBeFormula a → MayBeFormula b → MayBeFormula (joined_markers a b)
joined_formula None b h k = k
joined_formula (Some a) None h k = h
joined_formula (Some a) (Some b) h k = (h, (k, tt))

-- two markers that texts can spell, joined by `and`
pub joined_valid : (a b m : Option Formula) → m ≡ joined_markers a b → MayBeFormula a → MayBeFormula b → MayBeFormula m
joined_valid a b m e h k = subst MayBeFormula (sym e) (joined_formula a b h k)

none_rise : IsStrictlySortedBy name_cmp []
unfolding IsStrictlySortedBy
none_rise = tt

-- no extras stand in order
pub no_extras : (extras : List (List ℕ)) → extras ≡ [] → IsStrictlySortedBy name_cmp extras
no_extras extras e = subst (IsStrictlySortedBy name_cmp) (sym e) none_rise
