-- The names of groups are those of their lists.
use Rattle.std.proofs.Common.{◌≡◌, ◌∙◌, List, [], ◌∷◌, map, refl, ap, sym, subst}
use Rattle.std.specs.List.Sorted.{IsStrictlySortedBy}
use Rattle.std.specs.Map.{keys_of}
use Rattle.ul_base.specs.Names.{name_cmp}
use Rattle.ul_project.specs.GroupLists.{group_of}
use Rattle.ul_project.specs.Groups.{GroupFields}
use Rattle.ul_project.specs.Lists.{Named}
use Rattle.ul_project.specs.declared.group.GroupEntry.{GroupEntry}

named : (lists : List (Named (List GroupEntry))) → map (λ (g : GroupFields). g.name) (map group_of lists) ≡ keys_of lists
named [] = refl
named (l ∷ ls) = ap (λ ns. l.0 ∷ ns) (named ls)

-- groups of lists in order are in order
pub groups_rise : (lists : List (Named (List GroupEntry))) (groups : List GroupFields) → groups ≡ map group_of lists → IsStrictlySortedBy name_cmp (keys_of lists)
    → IsStrictlySortedBy name_cmp (map (λ (g : GroupFields). g.name) groups)
groups_rise lists groups e h = subst (IsStrictlySortedBy name_cmp) (sym (ap (map (λ (g : GroupFields). g.name)) e ∙ named lists)) h
