-- Tables whose keys are names and whose values are lists: the optional dependencies, and the groups.
use Rattle.std.specs.Prelude.{ℕ, List, [], ◌∷◌, ◌++◌, ◌&&◌, ◌||◌, codes, fold, map, Bool, true, false, not, Option, Some, None, Ok, Err, if◌then◌else◌}
use Rattle.std.specs.BTreeMap.{insert_entry, is_at}
use Rattle.std.specs.BTreeSet.{insert_key}
use Rattle.std.specs.List.{list_any}
use Rattle.toml.specs.Data.{Data, Members, no_members, member}
use Rattle.ul_base.specs.Names.{name_cmp, name_of}
use Rattle.ul_project.specs.Results.{◌>>=◌, or_fault}
use Rattle.ul_project.specs.Shapes.{Fault, Reading}

-- ---- keys

-- the extra that a group becomes
abbrev pub group_extra : List ℕ → List ℕ
group_extra group = codes "group-" ++ group

-- this name is one of the names
abbrev pub has_name : List (List ℕ) → List ℕ → Bool
has_name names name = list_any (is_at (name_cmp name)) names

-- a key is a name, which didn't come before and whose extra as a group isn't one of these extras
abbrev pub is_new : (extras earlier : List (List ℕ)) → Option (List ℕ) → Bool
is_new extras earlier None = false
is_new extras earlier (Some name) = not (has_name earlier name || has_name extras (group_extra name))

-- the set of the names of earlier keys, with that of one more
abbrev pub with_name : List (List ℕ) → Option (List ℕ) → List (List ℕ)
with_name earlier None = earlier
with_name earlier (Some name) = insert_key name_cmp earlier name

-- each key behind earlier ones is a name of its own
abbrev pub are_new : (extras earlier : List (List ℕ)) → Members → Bool
are_new extras earlier no_members = true
are_new extras earlier (member key d ms) =
    is_new extras earlier (name_of key) && are_new extras (with_name earlier (name_of key)) ms

-- each key is a name, no two have one normal form, and none is that of a group whose extra is one of these
abbrev pub are_names : List (List ℕ) → Members → Bool
are_names extras ms = are_new extras [] ms

-- ---- lists

-- a list and its name
abbrev pub Named : Type 0 → Type 0
Named L = List ℕ × L

-- the names of lists
abbrev pub names_of : {L : Type 0} → List (Named L) → List (List ℕ)
names_of lists = map (λ list. list.0) lists

-- the list at a key, under the normal form of the key
abbrev pub list_at : {L : Type 0} → Fault → (List ℕ → Option Data → Reading L) → List ℕ → Data → Reading (Named L)
list_at no_name read key d = or_fault no_name (name_of key) >>= λ name. read name (Some d) >>= λ list. Ok (name, list)

-- the list at each key, in byte order of the keys; the first fault answers
unfoldable pub lists_in : {L : Type 0} → Fault → (List ℕ → Option Data → Reading L) → Members → Reading (List (Named L))
lists_in no_name read no_members = Ok []
lists_in no_name read (member key d ms) = do
  list ← list_at no_name read key d
  lists ← lists_in no_name read ms
  Ok (list ∷ lists)

-- lists in byte order of their names, and one more
abbrev pub put_list : {L : Type 0} → List (Named L) → Named L → List (Named L)
put_list lists list = insert_entry name_cmp lists list.0 list.1

-- lists in byte order of their names
abbrev pub by_name : {L : Type 0} → List (Named L) → List (Named L)
by_name lists = fold put_list [] lists

-- the lists of a table, in byte order of their names
abbrev pub ordered_lists : {L : Type 0} → Fault → (List ℕ → Option Data → Reading L) → Members → Reading (List (Named L))
ordered_lists no_name read ms = lists_in no_name read ms >>= λ lists. Ok (by_name lists)

-- the lists of a table whose keys are names: its keys first, then its lists
abbrev pub named_lists : {L : Type 0} → Fault → List (List ℕ) → (List ℕ → Option Data → Reading L) → Members → Reading (List (Named L))
named_lists no_name extras read ms = if are_names extras ms then ordered_lists no_name read ms else Err no_name
