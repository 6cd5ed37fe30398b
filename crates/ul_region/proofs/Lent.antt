-- Requirements that are lent, as the list of what they say.
use Rattle.std.specs.Prelude.{slice_get}
use Rattle.std.specs.Borrow.{Bor}
use Rattle.std.proofs.Common.{◌≡◌, ◌<◌, ◌≤◌, ℕ, List, length, get_or, Some, sym, ap, subst, ◌∙◌}
use Rattle.std.proofs.lemmas.List.{get_or-map, length-map}
use Rattle.std.proofs.lemmas.Option.{slice_get-get_or}
use Rattle.ul_requirement.specs.Fields.{RequirementFields}
use Rattle.ul_region.specs.Numbers.{fields_in}

pub lent_size : (rs : List (Bor RequirementFields)) → length (fields_in rs) ≡ length rs
lent_size rs = length-map rs (λ (r : Bor RequirementFields). r.now)

pub lent_below : (rs : List (Bor RequirementFields)) (i : ℕ) → i < length rs → i < length (fields_in rs)
lent_below rs i l = subst (λ (n : ℕ). i < n) (sym (lent_size rs)) l

pub lent_end : (rs : List (Bor RequirementFields)) (i : ℕ) → length rs ≤ i → length (fields_in rs) ≤ i
lent_end rs i l = subst (λ (n : ℕ). n ≤ i) (sym (lent_size rs)) l

-- what one of them says stands at its place
pub lent_at : (rs : List (Bor RequirementFields)) (i : ℕ) (r : Bor RequirementFields) → i < length rs → r ≡ get_or rs i r → r.now ≡ get_or (fields_in rs) i r.now
lent_at rs i r l e = ap (λ (x : Bor RequirementFields). x.now) e ∙ sym (get_or-map (λ (x : Bor RequirementFields). x.now) rs i r r.now l)

pub lent_there : (rs : List (Bor RequirementFields)) (i : ℕ) (r : Bor RequirementFields) → i < length rs → r ≡ get_or rs i r → slice_get (fields_in rs) i ≡ Some r.now
lent_there rs i r l e = slice_get-get_or (fields_in rs) i r.now (lent_below rs i l) ∙ ap Some (sym (lent_at rs i r l e))
