-- The extra of a group has a name in its normal form, where the group has.
use Rattle.std.proofs.Common.{◌≡◌, ◌∙◌, ℕ, suc, ◌-◌, List, [], ◌∷◌, ◌++◌, length, true, false, refl, ap, sym, arith}
use Rattle.std.specs.Prelude.{codes, slice_index}
use Rattle.std.specs.List.{list_all}
use Rattle.std.specs.Char.{is_ascii_alphanumeric}
use Rattle.std.proofs.lemmas.Bool.{and_parts}
use Rattle.std.proofs.lemmas.Bool.Decides.{nat_tests}
use Rattle.ul_base.specs.Names.{IsNormalName, has_ends, is_name, is_name_byte, is_separator, leads_with_separator, normal_form}
use Rattle.ul_base.proofs.ForCallers.{name-is_name, name-normal_form, name_reads}
use Rattle.ul_project.specs.Lists.{group_extra}

not_separator : (b : ℕ) → is_ascii_alphanumeric b ≡ true → is_separator b ≡ false
not_separator b h = grind (arith, nat_tests)

leads_not : (group : List ℕ) → has_ends group ≡ true → leads_with_separator group ≡ false
leads_not [] h = refl
leads_not (b ∷ bs) h = not_separator b (and_parts (is_ascii_alphanumeric b) _ h).0

parts_of_name : (group : List ℕ) → is_name group ≡ true → (has_ends group ≡ true) × (list_all is_name_byte group ≡ true)
unfolding is_name
parts_of_name group h = and_parts (has_ends group) (list_all is_name_byte group) h

behind_prefix : (group : List ℕ) → leads_with_separator group ≡ false
    → normal_form (codes "group-" ++ group) ≡ codes "group-" ++ normal_form group
unfolding normal_form
behind_prefix group h = rw h refl

long_ends : (group : List ℕ) → has_ends group ≡ true → has_ends (codes "group-" ++ group) ≡ true
long_ends [] h = absurd (cc h)
long_ends (b ∷ bs) h =
    let last : is_ascii_alphanumeric (slice_index (b ∷ bs) (length (b ∷ bs) - 1)) ≡ true =
    (and_parts (is_ascii_alphanumeric b) _ h).1 in
    let text = codes "group-" ++ (b ∷ bs) in
    let place : length text - 1 ≡ suc (suc (suc (suc (suc (suc (length (b ∷ bs) - 1)))))) = omega arith in
    ap (λ k. is_ascii_alphanumeric (slice_index text k)) place ∙ last

-- the extra of a group with a name has one
pub extra_normal : (group : List ℕ) → IsNormalName group → IsNormalName (group_extra group)
extra_normal group named =
    let parts = parts_of_name group (name-is_name group group named) in
    name_reads (codes "group-" ++ group) (codes "group-" ++ group) (long_ends group parts.0) parts.1
    (ap (λ t. codes "group-" ++ t) (sym (name-normal_form group group named))
    ∙ sym (behind_prefix group (leads_not group parts.0)))
