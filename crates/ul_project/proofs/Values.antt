-- The values of an array.
use Rattle.std.proofs.Common.{◌≡◌, ◌+◌, ◌==◌, ◌<◌, ◌≤◌, ℕ, suc, List, [], ◌∷◌, Some, true≢false, false, arith, Vec, BTreeMap, String, Global, refl, ap, sym, ◌∙◌, drop, length, get_or}
use Rattle.std.proofs.lemmas.Bool.Decides.{nat_tests}
use Rattle.std.proofs.lemmas.List.{drop_more, drop_all}
use Rattle.std.specs.Prelude.{Ok}
use Rattle.toml.specs.Data.{Data, array, table}
use Rattle.toml.specs.View.{view, items_view, members_view}
use Rattle.toml.proofs.Views.{Entry, view-Array, view-Table}
use Rattle.toml.specs.declared.value.Value.{Value, Array, Table}
use Rattle.ul_project.specs.GroupLists.{member_count}
use Rattle.ul_project.specs.Sources.{some_items}
use Rattle.ul_project.specs.Toml.{items_list, says_nothing}
use Rattle.ul_project.specs.declared.path.ProjectPath.{ProjectPath}

-- the values from one place on
abbrev pub values_from : ℕ → List Value → List Data
values_from i vs = items_list (items_view (drop i vs))

pub values-next : (i : ℕ) (vs : List Value) (v : Value) → i < length vs → v ≡ get_or vs i v → values_from i vs ≡ view v ∷ values_from (i + 1) vs
values-next i vs v lt at = ap (λ l. items_list (items_view l)) (drop_more vs i v lt) ∙ ap (λ x. view x ∷ values_from (i + 1) vs) (sym at)

pub values-end : (i : ℕ) (vs : List Value) → length vs ≤ i → values_from i vs ≡ []
values-end i vs le = ap (λ l. items_list (items_view l)) (drop_all i vs le)

-- a table has as many keys as entries
pub count_view : (es : List Entry) → member_count (members_view es) ≡ length es
count_view [] = refl
count_view (e ∷ es) = ap suc (count_view es)

-- a number above another isn't 0
pub not_empty : (n : ℕ) → (suc n == 0) ≡ false
not_empty n = grind (arith, nat_tests)

nothing_items : (vs : List Value) → says_nothing (Some (array (items_view vs))) ≡ (length vs == 0)
nothing_items [] = refl
nothing_items (v ∷ vs) = sym (not_empty (length vs))

nothing_members : (es : List Entry) → says_nothing (Some (table (members_view es))) ≡ (length es == 0)
nothing_members [] = refl
nothing_members (e ∷ es) = sym (not_empty (length es))

-- an array says nothing where it is empty, and so does a table
pub nothing_array : (v : Vec Value Global) → says_nothing (Some (view (Array v))) ≡ (length v.items == 0)
nothing_array v = ap (λ d. says_nothing (Some d)) (view-Array v) ∙ nothing_items v.items

pub nothing_table : (m : BTreeMap (String Global) Value) → says_nothing (Some (view (Table m))) ≡ (length m.entries == 0)
nothing_table m = ap (λ d. says_nothing (Some d)) (view-Table m) ∙ nothing_members m.entries

-- values of which there are some are handed on
pub some_values : (path : ProjectPath) (vs : List Value) → (length vs == 0) ≡ false → some_items path (items_list (items_view vs)) ≡ Ok (items_list (items_view vs))
some_values path [] e = absurd (true≢false e)
some_values path (v ∷ vs) e = refl
