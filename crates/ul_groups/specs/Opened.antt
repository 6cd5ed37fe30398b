-- Groups whose entries are being added to a list, one inside the other, the innermost last; and what is left of them.
use Rattle.std.specs.Prelude.{◌≡◌, ℕ, ◌-◌, List, [], ◌∷◌, ◌++◌, drop, map, Option, Some, None, Result, Ok, Err}
use Rattle.std.specs.Borrow.{Bor}
use Rattle.ul_project.specs.Groups.{GroupFields}
use Rattle.ul_project.specs.Results.{◌>>=◌}
use Rattle.ul_project.specs.declared.fault.ProjectFault.{ProjectFault}
use Rattle.ul_project.specs.declared.fault.ProjectFault.TheVariants.{NotToml, Shape, Requirement, Unsupported, EmptyRegion, NoMemory}
use Rattle.ul_project.specs.declared.group.GroupEntry.{GroupEntry}
use Rattle.ul_groups.specs.Expanded.{Expand, Expanding, GroupByName, ListFields, deepest, refused, with_entries, with_entry, with_group, with_one}
use Rattle.ul_groups.specs.declared.expansion.Open.{Open}

-- the group of each name has this name
abbrev pub AreNamed : GroupByName → Type 0
AreNamed groups = (name : List ℕ) (g : GroupFields) → groups name ≡ Some g → g.name ≡ name

-- a group, and the number of its next entry
abbrev pub OpenFields : Type 0
OpenFields = GroupFields × ℕ

-- groups with the numbers of their next entries
abbrev pub opened : List Open → List OpenFields
opened opens = map (λ o. (o.group.now, o.number)) opens

-- these groups, and inside them the one that an entry includes, if it includes one
abbrev pub with_inner : List OpenFields → Option (Bor GroupFields) → List OpenFields
with_inner os None = os
with_inner os (Some g) = os ++ (g.now, 0) ∷ []

-- a list to which the whole of a group was added
abbrev pub ended : List ℕ → ListFields → ListFields
ended name list = record list { done = with_one list.done name }

-- what is left of a group whose includes may go through this many levels: its next entries, and its end
abbrev pub rest_of_one : GroupByName → ℕ → OpenFields → ListFields → Expanding ListFields
rest_of_one groups depth o list =
    with_entries groups (with_group depth groups) o.0.name o.1 (drop o.1 o.0.entries) list >>= λ after. Ok (ended o.0.name after)

-- what is left of groups, of which the first, the outermost, may go through this many levels
unfoldable pub rest_of : GroupByName → ℕ → List OpenFields → ListFields → Expanding ListFields
rest_of groups depth [] list = Ok list
rest_of groups depth (o ∷ os) list = rest_of groups (depth - 1) os list >>= rest_of_one groups depth o

-- what is left of groups that are expanded from the outermost level on
abbrev pub left_of : GroupByName → List OpenFields → ListFields → Expanding ListFields
left_of groups os list = rest_of groups (deepest - 1) os list

-- one step on the way from what was left to what is: want of memory says nothing of it
abbrev pub GoesOn : {X : Type 0} → Expanding ListFields → Expanding ListFields → Result X ProjectFault → Type 0
GoesOn before after (Ok x) = before ≡ after
GoesOn before after (Err NotToml) = ⊥
GoesOn before after (Err (Shape path)) = before ≡ Err (refused path)
GoesOn before after (Err (Requirement path)) = ⊥
GoesOn before after (Err (Unsupported path)) = ⊥
GoesOn before after (Err EmptyRegion) = ⊥
GoesOn before after (Err NoMemory) = Unit {0}

-- what an entry comes to: the list after it, and then the whole of the group that it opens, if it opens one
abbrev pub entered : Expand → ListFields → Option (Bor GroupFields) → Expanding ListFields
entered expand after None = Ok after
entered expand after (Some g) = expand g.now after >>= λ inner. Ok (ended g.now.name inner)

-- an entry of a group was added to a list, however groups are expanded, or is refused
abbrev pub Enters : GroupByName → (group : List ℕ) → ℕ → GroupEntry → (before after : ListFields)
    → Result (Option (Bor GroupFields)) ProjectFault → Type 0
Enters groups group i e before after (Ok opens) =
    (expand : Expand) → with_entry groups expand group i e before ≡ entered expand after opens
Enters groups group i e before after (Err NotToml) = ⊥
Enters groups group i e before after (Err (Shape path)) =
    (expand : Expand) → with_entry groups expand group i e before ≡ Err (refused path)
Enters groups group i e before after (Err (Requirement path)) = ⊥
Enters groups group i e before after (Err (Unsupported path)) = ⊥
Enters groups group i e before after (Err EmptyRegion) = ⊥
Enters groups group i e before after (Err NoMemory) = Unit {0}
