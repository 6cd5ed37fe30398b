-- Where files give a resolution, a project file says its project, and its catalog is loaded and adjusted.
use Rattle.std.proofs.Common.{◌≡◌, ℕ, List, Option, Result, Ok, Err, ap, sym, subst, inl, inr}
use Rattle.ul_files.specs.Files.{FileMap}
use Rattle.ul_index.specs.Catalogs.{Packages}
use Rattle.ul_load.specs.Loading.{Found, LoadAnswer}
use Rattle.ul_project.specs.Fields.{ProjectFields}
use Rattle.ul_project.specs.Headline.{IsSaid}
use Rattle.ul_groups.specs.Adjusted.{catalog_for}
use Rattle.ul_groups.specs.Expanded.{Expanding, expanded_project, refused}
use Rattle.ul_inputs.specs.Catalogs.{beginning, catalog_in, documents, found_or_refused}
use Rattle.ul_inputs.specs.Inputs.{◌>>=◌, GoesOn, Input, answer, just, small_file}
use Rattle.ul_inputs.specs.Locks.{Kept, old_lock}
use Rattle.ul_inputs.specs.Projects.{IsExpanded, IsProjectOf, project_at, project_said}
use Rattle.ul_inputs.specs.Refused.{Refused}
use Rattle.ul_inputs.specs.Resolutions.{ResolutionFields, resolution_in, resolution_of, resolution_with}

-- what answers after a first answers on its value
pub on_ok : {A B : Type 0} (first : Input A) (next : A → Input B) (m : FileMap) (x : B)
    → ((first >>= next) m).gives (Ok x) → GoesOn (first m).gives (λ y. (next y m).gives) (Ok x)
on_ok first next m x (inl bad) = absurd bad
on_ok first next m x (inr on) = on

same_value : {A : Type 0} (x y : A) → (let r : Result A Refused = Ok x in r) ≡ Ok y → x ≡ y
same_value x y e = cc

-- ---- the project

-- a project that bytes say, with its groups as extras
pub record IsProjectFrom (p : ProjectFields) : Type 0 where
  pub bytes : List ℕ
  pub read : ProjectFields
  pub said : IsSaid bytes read
  pub expanded : expanded_project read ≡ Ok p

expanded_is : (path : List ℕ) (expanded : Expanding ProjectFields) (q : ProjectFields)
    → IsExpanded path expanded (Ok q) → expanded ≡ Ok q
expanded_is path (Ok p) q is =
    let e : q ≡ p = same_value q p is in ap (λ (x : ProjectFields). Ok x) (sym e)
expanded_is path (Err (refused place)) q is = absurd (cc is)

project_from : (path : List ℕ) (m : FileMap) (p : ProjectFields) → (project_at path m).gives (Ok p)
    → IsProjectFrom p
project_from path m p gave =
    let bytes = on_ok (small_file path) (project_said path) m p gave in
    let expand = λ (x : ProjectFields). answer (IsExpanded path (expanded_project x)) in
    let said = on_ok (answer (IsProjectOf path bytes.value)) expand m p bytes.answers in
    record {
      bytes = bytes.value;
      read = said.value;
      said = said.gave;
      expanded = expanded_is path (expanded_project said.value) p said.answers;
    }

-- ---- the catalog

-- a catalog that is loaded from a folder for a project, and adjusted
pub record IsCatalogFrom (m : FileMap) (folder : List ℕ) (p : ProjectFields) (c : Packages) : Type 0 where
  pub loaded : Packages
  pub loads : LoadAnswer m folder (beginning p) (Ok loaded)
  pub is : catalog_for p loaded ≡ c

found_loads : (m : FileMap) (folder : List ℕ) (p : ProjectFields) (c : Packages) (found : Found Packages)
    → LoadAnswer m folder (beginning p) found → Ok c ≡ found_or_refused found
    → LoadAnswer m folder (beginning p) (Ok c)
found_loads m folder p c (Ok d) answered is =
    subst (λ (x : Packages). LoadAnswer m folder (beginning p) (Ok x)) (sym (same_value c d is)) answered
found_loads m folder p c (Err f) answered is = absurd (cc is)

catalog_from : (folder : List ℕ) (p : ProjectFields) (m : FileMap) (c : Packages)
    → (catalog_in folder p m).gives (Ok c) → IsCatalogFrom m folder p c
catalog_from folder p m c gave =
    let adjust = λ (d : Packages). just (Ok (catalog_for p d)) in
    let on = on_ok (documents folder p) adjust m c gave in
    record {
      loaded = on.value;
      loads = found_loads m folder p on.value on.gave.found on.gave.answered on.gave.is;
      is = sym (same_value c (catalog_for p on.value) on.answers);
    }

-- ---- both

-- a resolution of a project and a catalog
pub record IsResolutionFrom (m : FileMap) (folder : List ℕ) (r : ResolutionFields) : Type 0 where
  pub project : IsProjectFrom r.project
  pub catalog : IsCatalogFrom m folder r.project r.catalog

with_project : (folder : List ℕ) (p : ProjectFields) (kept : List Kept) (m : FileMap) (r : ResolutionFields)
    → IsProjectFrom p → (resolution_with folder p kept m).gives (Ok r) → IsResolutionFrom m folder r
with_project folder p kept m r from gave =
    let on = on_ok (catalog_in folder p) (λ c. just (Ok (resolution_of p kept c))) m r gave in
    let made = resolution_of p kept on.value in
    subst (IsResolutionFrom m folder) {x = made} (sym (same_value r made on.answers))
    (record { project = from; catalog = catalog_from folder p m on.value on.gave })

-- what files give is such
pub resolution_from : (project folder : List ℕ) (old : Option (List ℕ)) (m : FileMap) (r : ResolutionFields)
    → (resolution_in project folder old m).gives (Ok r) → IsResolutionFrom m folder r
resolution_from project folder old m r gave =
    let found = on_ok (project_at project) (λ p. old_lock old >>= λ kept. resolution_with folder p kept) m r gave in
    let kept = on_ok (old_lock old) (resolution_with folder found.value) m r found.answers in
    with_project folder found.value kept.value m r (project_from project m found.value found.gave) kept.answers
