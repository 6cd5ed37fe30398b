-- Lists that were read, or put in order, before those that are left.
use Rattle.std.proofs.Common.{◌≡◌, ◌++◌, ◌||◌, ◌∙◌, not, ℕ, List, [], ◌∷◌, Bool, true, false, Option, Some, refl, ap, sym, append-nil, is_some, cond}
use Rattle.std.specs.Prelude.{Ok, Err}
use Rattle.std.specs.BTreeMap.{is_at}
use Rattle.std.specs.Map.{lookup}
use Rattle.toml.specs.Data.{Data, Members, no_members, member}
use Rattle.ul_base.specs.Names.{name_cmp}
use Rattle.ul_project.specs.Lists.{Named, group_extra, has_name, is_new, list_at, lists_in, names_of}
use Rattle.ul_project.specs.Shapes.{Fault, Reading}
use Rattle.ul_project.proofs.EachRead.{behind, then_one}

-- one more list is read
pub lists-next : {L : Type 0} (no_name : Fault) (read : List ℕ → Option Data → Reading L) (found after : List (Named L)) (key : List ℕ) (d : Data) (ms : Members) (list : Named L)
    → list_at no_name read key d ≡ Ok list → after ≡ found ++ list ∷ [] → behind found (lists_in no_name read (member key d ms)) ≡ behind after (lists_in no_name read ms)
unfolding lists_in
lists-next no_name read found after key d ms list e s = rw (e, s) (then_one found list (lists_in no_name read ms))

-- one list is refused
pub lists-fault : {L : Type 0} (no_name : Fault) (read : List ℕ → Option Data → Reading L) (found : List (Named L)) (key : List ℕ) (d : Data) (ms : Members) (f : Fault)
    → list_at no_name read key d ≡ Err f → behind found (lists_in no_name read (member key d ms)) ≡ Err f
unfolding lists_in
lists-fault no_name read found key d ms f e = rw e refl

-- no list is left
pub lists-end : {L : Type 0} (no_name : Fault) (read : List ℕ → Option Data → Reading L) (found : List (Named L)) → behind found (lists_in no_name read no_members) ≡ Ok found
unfolding lists_in
lists-end no_name read found = ap Ok (append-nil found)

-- ---- names

found_or_not : {L : Type 0} (here : Bool) (list : L) (rest : Option L) (more : Bool) → is_some rest ≡ more → is_some (cond here (Some list) rest) ≡ (here || more)
found_or_not true list rest more e = refl
found_or_not false list rest more e = e

-- a map has a list of a name exactly where the name is among those of its lists
pub list_found : {L : Type 0} (name : List ℕ) (lists : List (Named L)) → is_some (lookup (is_at (name_cmp name)) lists) ≡ has_name (names_of lists) name
list_found name [] = refl
list_found name (list ∷ lists) = found_or_not (is_at (name_cmp name) list.0) list.1 _ _ (list_found name lists)

not_other : (here : Bool) → not here ≡ not (here || false)
not_other true = refl
not_other false = refl

-- a key whose name wasn't there, and whose extra as a group isn't there, is new
pub name_new : (extras earlier : List (List ℕ)) (name : List ℕ) (said : Option (List ℕ)) (added : Bool) → said ≡ Some name
    → has_name extras (group_extra name) ≡ false → added ≡ not (has_name earlier name) → added ≡ is_new extras earlier said
name_new extras earlier name said added s t a = rw (s, t) (a ∙ not_other (has_name earlier name))
