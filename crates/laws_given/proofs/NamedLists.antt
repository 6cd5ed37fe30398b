-- Lists under names: what is true of each list of a table is true of each in the order of their names.
use Rattle.std.proofs.Common.{◌≡◌, ℕ, List, [], ◌∷◌, fold, Bool, true, false, cond, Option, Some, Ok, Err, subst}
use Rattle.std.specs.BTreeMap.{insert_entry}
use Rattle.std.specs.List.{AllByRecursion}
use Rattle.std.specs.Ordering.{match_ordering}
use Rattle.std.specs.declared.cmp.Ordering.{Ordering}
use Rattle.std.specs.declared.cmp.Ordering.TheVariants.{Less, Equal, Greater}
use Rattle.toml.specs.Data.{Data, Members, no_members, member}
use Rattle.ul_base.specs.Names.{IsNormalName, name_cmp, name_of}
use Rattle.ul_base.proofs.ForCallers.{name_reads_itself}
use Rattle.ul_project.specs.Lists.{Named, are_names, by_name, list_at, lists_in, named_lists, names_of, ordered_lists, put_list}
use Rattle.ul_project.specs.Results.{◌>>=◌, or_fault}
use Rattle.ul_project.specs.Shapes.{Fault, Reading}
use Rattle.laws_given.proofs.Readings.{same_ok, was_there, went_on}

-- a name, and a list that is such
abbrev pub IsNamedList : {L : Type 0} → (L → Type 0) → Named L → Type 0
IsNamedList P list = IsNormalName list.0 × P list.1

-- so do they with one more
pub put_named : {L : Type 0} (P : L → Type 0) (lists : List (Named L)) (name : List ℕ) (list : L)
    → AllByRecursion (IsNamedList P) lists
    → IsNormalName name → P list → AllByRecursion (IsNamedList P) (insert_entry name_cmp lists name list)
put_named P [] name list h n p = ((n, p), tt)
put_named {L = L} P (e ∷ es) name list h n p = go (name_cmp name e.0) (put_named P es name list h.1 n p)
  where
    go : (o : Ordering) → AllByRecursion (IsNamedList P) (insert_entry name_cmp es name list)
        → AllByRecursion (IsNamedList P)
        (match_ordering o ((name, list) ∷ e ∷ es) ((e.0, list) ∷ es) (e ∷ insert_entry name_cmp es name list))
    go Less rest = ((n, p), h)
    go Equal rest = ((h.0.0, p), h.1)
    go Greater rest = (h.0, rest)

-- lists that are such stay so in the order of their names
pub fold_named : {L : Type 0} (P : L → Type 0) (done lists : List (Named L)) → AllByRecursion (IsNamedList P) done
    → AllByRecursion (IsNamedList P) lists → AllByRecursion (IsNamedList P) (fold put_list done lists)
fold_named P done [] h k = h
fold_named P done (l ∷ lists) h k = fold_named P (put_list done l) lists (put_named P done l.0 l.1 h k.0.0 k.0.1) k.1

module _ {L : Type 0} (P : L → Type 0) (no_name : Fault) (read : List ℕ → Option Data → Reading L)
    (each : (name : List ℕ) (value : Option Data) (l : L) → read name value ≡ Ok l → P l) where
  one_read : (key : List ℕ) (d : Data) (list : Named L) → list_at no_name read key d ≡ Ok list → IsNamedList P list
  one_read key d list e =
      let name = went_on (or_fault no_name (name_of key)) (λ n. read n (Some d) >>= λ l. Ok (n, l)) list e in
      let l = went_on (read name.0 (Some d)) (λ x. Ok (name.0, x)) list name.2 in
      subst (IsNamedList P) (same_ok (name.0, l.0) list l.2)
      (name_reads_itself key name.0 (was_there no_name (name_of key) name.0 name.1), each name.0 (Some d) l.0 l.1)

  -- each list at the keys of a table is such
  pub all_read : (ms : Members) (lists : List (Named L)) → lists_in no_name read ms ≡ Ok lists
      → AllByRecursion (IsNamedList P) lists
  unfolding lists_in
  all_read no_members lists e = subst (λ zs. AllByRecursion (IsNamedList P) zs) (same_ok [] lists e) tt
  all_read (member key d ms) lists e =
      let one = went_on (list_at no_name read key d) _ lists e in
      let rest = went_on (lists_in no_name read ms) _ lists one.2 in
      subst (λ zs. AllByRecursion (IsNamedList P) zs) (same_ok (one.0 ∷ rest.0) lists rest.2)
      (one_read key d one.0 one.1, all_read ms rest.0 rest.1)

  -- each list that a table gives is such, where each that is read is
  pub named_read : (extras : List (List ℕ)) (ms : Members) (lists : List (Named L))
      → named_lists no_name extras read ms ≡ Ok lists
      → AllByRecursion (IsNamedList P) lists
  named_read extras ms lists e = by_test (are_names extras ms) e
    where
      by_test : (b : Bool) → cond b (ordered_lists no_name read ms) (Err no_name) ≡ Ok lists
          → AllByRecursion (IsNamedList P) lists
      by_test false e = absurd (cc e)
      by_test true e =
          let found = went_on (lists_in no_name read ms) (λ x. Ok (by_name x)) lists e in
          subst (λ zs. AllByRecursion (IsNamedList P) zs) (same_ok (by_name found.0) lists found.2)
          (fold_named P [] found.0 tt (all_read ms found.0 found.1))

-- the names of such lists are in their normal form
pub names_normal : {L : Type 0} (P : L → Type 0) (lists : List (Named L)) → AllByRecursion (IsNamedList P) lists
    → AllByRecursion IsNormalName (names_of lists)
names_normal P [] h = tt
names_normal P (l ∷ lists) h = (h.0.0, names_normal P lists h.1)
