-- What each document's package has.
use Rattle.std.proofs.Common.{◌≡◌, ◌≤◌, ◌+◌, ℕ, suc, List, [], ◌∷◌, length, codes, Option, Some, None, Ok, Err, refl, ap, sym, subst, ◌∙◌, arith}
use Rattle.serde_json.specs.Data.{Data}
use Rattle.serde_json.specs.Find.{get}
use Rattle.ul_base.specs.Names.{name_of}
use Rattle.ul_version.specs.Fields.{Fields}
use Rattle.ul_requirement.specs.Fields.{PackageFields, ReleaseFields}
use Rattle.ul_requirement.specs.declared.wish.Prereleases.TheVariants.{IfNecessaryOrExplicit}
use Rattle.ul_index.specs.Documents.{Reading, document_of, entries_from, entry_at, items_at, not_json, object_at, package_in, releases_of_items, right_name, text_at}
use Rattle.ul_index.specs.Json.{json_of}
use Rattle.ul_index.specs.Results.{◌>>=◌, or_fault}
use Rattle.ul_index.specs.Usable.{EntryFields, before, release_behind, usable, usable_after, versions_with}
use Rattle.ul_index.specs.declared.place.Place.TheVariants.{Document, Name, Versions}

-- a package of the name, with at most as many usable releases as entries
pub record IsPackageOf (name : List ℕ) (p : PackageFields) : Type 0 where
  pub named : p.name ≡ name
  pub few : length p.releases ≤ p.entries

few_before : (o : Option ReleaseFields) (rs : List ReleaseFields) (n : ℕ) → length rs ≤ n → length (before o rs) ≤ n + 1
few_before None rs n h = omega arith
few_before (Some r) rs n h = omega arith

few_usable : (earlier : List Fields) (es : List EntryFields) → length (usable_after earlier es) ≤ length es
few_usable earlier [] = omega arith
few_usable earlier (e ∷ es) =
    let rest = few_usable (versions_with earlier e.version) es in
    let here = few_before (release_behind earlier e) (usable_after (versions_with earlier e.version) es) (length es) rest in
    omega (arith, here)

entries_step : (r : Reading EntryFields) (s : Reading (List EntryFields)) (es : List EntryFields) (n : ℕ)
    → ((xs : List EntryFields) → s ≡ Ok xs → length xs ≡ n) → (r >>= λ e. s >>= λ xs. Ok (e ∷ xs)) ≡ Ok es → length es ≡ suc n
entries_step (Err f) s es n have h = cc
entries_step (Ok e) (Err f) es n have h = cc
entries_step (Ok e) (Ok xs) es n have h =
    let same : e ∷ xs ≡ es = cc in ap length (sym same) ∙ ap suc (have xs refl)

entries_all : (i : ℕ) (ds : List Data) (es : List EntryFields) → entries_from i ds ≡ Ok es → length es ≡ length ds
unfolding entries_from
entries_all i [] es h = let same : [] ≡ es = cc in ap length (sym same)
entries_all i (d ∷ ds) es h = entries_step (entry_at i d) (entries_from (i + 1) ds) es (length ds) (entries_all (i + 1) ds) h

releases_few : (r : Reading (List EntryFields)) (rs : List ReleaseFields) (n : ℕ)
    → ((es : List EntryFields) → r ≡ Ok es → length es ≡ n) → (r >>= λ es. Ok (usable es)) ≡ Ok rs → length rs ≤ n
releases_few (Err f) rs n have h = cc
releases_few (Ok es) rs n have h =
    let same : usable es ≡ rs = cc in
    let size : length es ≡ n = have es refl in
    subst (λ xs. length xs ≤ n) same (omega (arith, few_usable [] es))

few_releases : (ds : List Data) (rs : List ReleaseFields) → releases_of_items ds ≡ Ok rs → length rs ≤ length ds
unfolding releases_of_items
few_releases ds rs h = releases_few (entries_from 0 ds) rs (length ds) (entries_all 0 ds) h

last_parts : (right : Reading (Unit {0})) (releases : Reading (List ReleaseFields)) (n : ℕ) (name : List ℕ) (p : PackageFields)
    → ((rs : List ReleaseFields) → releases ≡ Ok rs → length rs ≤ n)
    → (right >>= λ _. releases >>= λ rs. Ok (record { name = name; entries = n; prereleases = IfNecessaryOrExplicit; releases = rs })) ≡ Ok p → IsPackageOf name p
last_parts (Err f) releases n name p have h = cc
last_parts (Ok u) (Err f) n name p have h = cc
last_parts (Ok u) (Ok rs) n name p have h =
    let same : record { name = name; entries = n; prereleases = IfNecessaryOrExplicit; releases = rs } ≡ p = cc in
    subst (IsPackageOf name) same record { named = refl; few = have rs refl }

first_parts : (whole : Reading (Unit {0})) (title : Reading (List ℕ)) (items : Reading (List Data)) (name : List ℕ) (p : PackageFields)
    → (whole >>= λ _. title >>= λ t. items >>= λ ds. right_name name (name_of t) >>= λ _. releases_of_items ds
    >>= λ rs. Ok (record { name = name; entries = length ds; prereleases = IfNecessaryOrExplicit; releases = rs })) ≡ Ok p → IsPackageOf name p
first_parts (Err f) title items name p h = cc
first_parts (Ok u) (Err f) items name p h = cc
first_parts (Ok u) (Ok t) (Err f) name p h = cc
first_parts (Ok u) (Ok t) (Ok ds) name p h =
    last_parts (right_name name (name_of t)) (releases_of_items ds) (length ds) name p (few_releases ds) h

package_read : (name : List ℕ) (d : Data) (p : PackageFields) → package_in name d ≡ Ok p → IsPackageOf name p
unfolding package_in
package_read name d p h =
    first_parts (object_at Document d) (text_at Name (get (codes "name") d)) (items_at Versions (get (codes "versions") d)) name p h

value_read : (r : Reading Data) (name : List ℕ) (p : PackageFields) → (r >>= package_in name) ≡ Ok p → IsPackageOf name p
value_read (Err f) name p h = cc
value_read (Ok d) name p h = package_read name d p h

-- a document's package has the name that it was read for, and no more usable releases than entries
pub document_facts : (name bytes : List ℕ) (p : PackageFields) → document_of name bytes ≡ Ok p → IsPackageOf name p
unfolding document_of
document_facts name bytes p h = value_read (or_fault not_json (json_of bytes)) name p h
