-- The values of an array.
use Rattle.std.proofs.Common.{◌≡◌, ◌+◌, ◌<◌, ◌≤◌, ℕ, suc, List, [], ◌∷◌, refl, ap, sym, ◌∙◌, drop, length, get_or}
use Rattle.std.proofs.lemmas.List.{drop_more, drop_all}
use Rattle.serde_json.specs.Data.{Data}
use Rattle.serde_json.specs.View.{view, items_view}
use Rattle.serde_json.specs.declared.value.Value.{Value}
use Rattle.ul_index.specs.Json.{items_list}

-- the values from one place on
abbrev pub values_from : ℕ → List Value → List Data
values_from i vs = items_list (items_view (drop i vs))

pub values-next : (i : ℕ) (vs : List Value) (v : Value) → i < length vs → v ≡ get_or vs i v → values_from i vs ≡ view v ∷ values_from (i + 1) vs
values-next i vs v lt at = ap (λ l. items_list (items_view l)) (drop_more vs i v lt) ∙ ap (λ x. view x ∷ values_from (i + 1) vs) (sym at)

pub values-end : (i : ℕ) (vs : List Value) → length vs ≤ i → values_from i vs ≡ []
values-end i vs le = ap (λ l. items_list (items_view l)) (drop_all i vs le)

-- there are as many values as items
pub length-values : (vs : List Value) → length (items_list (items_view vs)) ≡ length vs
length-values [] = refl
length-values (v ∷ vs) = ap suc (length-values vs)
