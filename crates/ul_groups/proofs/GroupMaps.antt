-- Groups in a map from their names.
use Rattle.std.proofs.Common.{◌≡◌, ◌+◌, ◌<◌, ◌++◌, ◌∙◌, ℕ, List, [], ◌∷◌, length, take, get_or, find, Bool, true, false, cond, Option, Some, None, option_map, is_some, refl, ap, sym, subst}
use Rattle.std.specs.Borrow.{Bor}
use Rattle.std.specs.BTreeMap.{is_at}
use Rattle.std.specs.Map.{lookup}
use Rattle.std.specs.Option.{option_or}
use Rattle.ul_base.specs.Names.{name_cmp}
use Rattle.ul_project.specs.Groups.{GroupFields}
use Rattle.ul_groups.specs.Expanded.{group_named}
use Rattle.ul_groups.specs.GroupMaps.{HasGroups, groups_in}
use Rattle.ul_groups.proofs.NameLists.{same_name, taken_next}

one_or : {X : Type 0} (b : Bool) (y : X) (rest here : Option X) (all : Option X) → all ≡ option_or rest here
    → cond b (Some y) all ≡ option_or (cond b (Some y) rest) here
one_or true y rest here all e = refl
one_or false y rest here all e = e

find_more : {X : Type 0} (p : X → Bool) (xs : List X) (x : X) → find p (xs ++ x ∷ []) ≡ option_or (find p xs) (cond (p x) (Some x) None)
find_more p [] x = refl
find_more p (y ∷ ys) x = one_or (p y) y (find p ys) (cond (p x) (Some x) None) (find p (ys ++ x ∷ [])) (find_more p ys x)

-- what a map has at a name where a group was put
pub group_listed_at : (b : Bool) (here rest : Option (Bor GroupFields))
    → option_map (λ (g : Bor GroupFields). g.now) (cond b here rest) ≡ cond b (option_map (λ (g : Bor GroupFields). g.now) here) (option_map (λ (g : Bor GroupFields). g.now) rest)
group_listed_at true here rest = refl
group_listed_at false here rest = refl

none_false : false ≡ true → ⊥
none_false e = cc

kept_where : (b : Bool) (found : Option GroupFields) (g : GroupFields) → (b ≡ true → is_some found ≡ true) → found ≡ option_or found (cond b (Some g) None)
kept_where b (Some f) g h = refl
kept_where true None g h = absurd (none_false (h refl))
kept_where false None g h = refl

some_still : {A B : Type 0} (f : A → B) (o : Option A) → is_some (option_map f o) ≡ is_some o
some_still f None = refl
some_still f (Some x) = refl

-- a group of a name that is there already is passed over
pub kept_at : (entries : List (List ℕ × Bor GroupFields)) (g : GroupFields) (own : List ℕ) (there : Bool) → own ≡ g.name
    → there ≡ is_some (lookup (is_at (name_cmp own)) entries) → there ≡ true → (name : List ℕ) → groups_in entries name ≡ option_or (groups_in entries name) (group_named (g ∷ []) name)
kept_at entries g own there named tested found name =
    kept_where (is_at (name_cmp g.name) name) (groups_in entries name) g
    (λ e. ap (λ (n : List ℕ). is_some (groups_in entries n)) (sym (named ∙ same_name g.name name e))
    ∙ some_still (λ (f : Bor GroupFields). f.now) (lookup (is_at (name_cmp own)) entries) ∙ sym tested ∙ found)

new_where : (b : Bool) (found : Option GroupFields) (g : GroupFields) → (b ≡ true → is_some found ≡ false) → cond b (Some g) found ≡ option_or found (cond b (Some g) None)
new_where true None g h = refl
new_where true (Some f) g h = absurd (none_false (sym (h refl)))
new_where false None g h = refl
new_where false (Some f) g h = refl

-- a group of a new name is put into the map
pub new_at : (before after : List (List ℕ × Bor GroupFields)) (g : GroupFields) (own : List ℕ) (there : Bool) → own ≡ g.name
    → there ≡ is_some (lookup (is_at (name_cmp own)) before) → there ≡ false
    → ((name : List ℕ) → groups_in after name ≡ cond (is_at (name_cmp g.name) name) (Some g) (groups_in before name))
    → (name : List ℕ) → groups_in after name ≡ option_or (groups_in before name) (group_named (g ∷ []) name)
new_at before after g own there named tested absent step name =
    step name
    ∙ new_where (is_at (name_cmp g.name) name) (groups_in before name) g
    (λ e. ap (λ (n : List ℕ). is_some (groups_in before n)) (sym (named ∙ same_name g.name name e))
    ∙ some_still (λ (f : Bor GroupFields). f.now) (lookup (is_at (name_cmp own)) before) ∙ sym tested ∙ absent)

-- the next group was put into the map
pub has_next : (before after : List (List ℕ × Bor GroupFields)) (gs : List GroupFields) (i : ℕ) (g : GroupFields) → HasGroups before (take i gs)
    → i < length gs → g ≡ get_or gs i g
    → ((name : List ℕ) → groups_in after name ≡ option_or (groups_in before name) (group_named (g ∷ []) name))
    → HasGroups after (take (i + 1) gs)
has_next before after gs i g h lt is step =
    subst (HasGroups after) (sym (taken_next gs i g lt is))
    (λ name. step name ∙ ap (λ o. option_or o (group_named (g ∷ []) name)) (h name) ∙ sym (find_more (λ (f : GroupFields). is_at (name_cmp f.name) name) (take i gs) g))

-- a map has at each name what the groups have there
pub same_groups : (entries : List (List ℕ × Bor GroupFields)) (gs : List GroupFields) → HasGroups entries gs → groups_in entries ≡ group_named gs
same_groups entries gs h = λ i name. h name i
