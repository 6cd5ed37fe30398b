-- The extra that a group becomes is a name in its normal form.
use Rattle.std.proofs.Common.{◌≡◌, ◌++◌, ℕ, List, [], ◌∷◌, codes, true, false, Some, refl, sym, ap, ◌∙◌, arith}
use Rattle.std.proofs.lemmas.Bool.{and_parts}
use Rattle.std.proofs.lemmas.Bool.Decides.{nat_tests}
use Rattle.std.specs.Char.{is_ascii_alphanumeric}
use Rattle.std.specs.List.{list_all}
use Rattle.ul_base.specs.Names.{has_ends, is_name, is_name_byte, is_separator, leads_with_separator, name_of, normal_form}
use Rattle.ul_base.proofs.ForCallers.{name-is_name, name-normal_form}
use Rattle.ul_project.specs.Lists.{group_extra}

not_separator : (b : ℕ) → is_ascii_alphanumeric b ≡ true → is_separator b ≡ false
not_separator b h = grind (arith, nat_tests)

leads_not : (group : List ℕ) → has_ends group ≡ true → leads_with_separator group ≡ false
leads_not [] h = refl
leads_not (b ∷ bs) h = not_separator b (and_parts (is_ascii_alphanumeric b) _ h).0

ends : (group : List ℕ) → is_name group ≡ true → has_ends group ≡ true
unfolding is_name
ends group h = (and_parts (has_ends group) (list_all is_name_byte group) h).0

behind_prefix : (group : List ℕ) → leads_with_separator group ≡ false → normal_form (codes "group-" ++ group) ≡ codes "group-" ++ normal_form group
unfolding normal_form
behind_prefix group h = rw h refl

-- the name that the text of a group's extra is
pub extra_name : (group extra : List ℕ) → name_of group ≡ Some group → name_of (codes "group-" ++ group) ≡ Some extra → extra ≡ group_extra group
extra_name group extra named said =
    sym (name-normal_form (codes "group-" ++ group) extra said)
    ∙ behind_prefix group (leads_not group (ends group (name-is_name group group named)))
    ∙ ap (λ t. codes "group-" ++ t) (name-normal_form group group named)
