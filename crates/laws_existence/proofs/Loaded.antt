-- A catalog that is loaded has packages of different names, each with different versions.
use Rattle.std.proofs.Common.{◌≡◌, ◌∙◌, ◌<◌, ℕ, List, [], ◌∷◌, ◌++◌, map, length, get_or, cond, Bool, true, false, Ok, refl, ap, sym, subst, arith, append_assoc, inl, inr}
use Rattle.std.specs.Prelude.{All}
use Rattle.std.specs.List.{AllByRecursion, IsDistinct, list_any}
use Rattle.std.specs.Str.{bytes_eq}
use Rattle.std.proofs.lemmas.Bool.{cases_Bool, or_parts}
use Rattle.std.proofs.lemmas.List.{append-nil}
use Rattle.std.proofs.lemmas.List.Elements.{All-cons, All-nil}
use Rattle.std.proofs.lemmas.Slice.Eq.{bytes_eq-Decides}
use Rattle.indexmap.specs.IndexSet.{insert_key}
use Rattle.ul_files.specs.Files.{FileMap}
use Rattle.ul_requirement.specs.Fields.{IsPackage, PackageFields}
use Rattle.ul_index.specs.Catalogs.{NamesDiffer, Packages}
use Rattle.ul_index.proofs.ForCallers.{document_facts}
use Rattle.ul_load.specs.Loading.{Beginning, LoadAnswer, ProgressFields, first_progress, names_of, names_with, next_name, package_at, progress_with, requirements_of}
use Rattle.laws_given.proofs.ForCallers.{loaded, more, package_has}
use Rattle.laws_existence.proofs.Documents.{document_package}

-- ---- names that are met

-- the names begin with others
abbrev Begins : List (List ℕ) → List (List ℕ) → Type 0
Begins names later = (rest : List (List ℕ)) × (later ≡ names ++ rest)

met_begins : (names : List (List ℕ)) (name : List ℕ) → Begins names (insert_key bytes_eq names name)
met_begins names name = elim (cases_Bool (list_any (bytes_eq name) names)) [
  | inl had ↦ ([], rw had (sym (append-nil names)))
  | inr new ↦ (name ∷ [], rw new refl)
]

begins : (names later : List (List ℕ)) → Begins names (names_with names later)
begins names [] = ([], sym (append-nil names))
begins names (name ∷ later) =
    let one = met_begins names name in
    let all = begins (insert_key bytes_eq names name) later in
    (one.0 ++ all.0, all.1 ∙ ap (λ x. x ++ all.0) one.1 ∙ append_assoc names one.0 all.0)

-- names that differ do so either way round
flipped : (a b : List ℕ) → bytes_eq b a ≡ false → bytes_eq a b ≡ false
flipped a b apart = by_test (bytes_eq a b) refl
  where
    by_test : (t : Bool) → bytes_eq a b ≡ t → t ≡ false
    by_test false is = refl
    by_test true is =
        let back : bytes_eq b a ≡ true = (bytes_eq-Decides b a).1 (sym ((bytes_eq-Decides a b).0 is)) in
        let clash : true ≡ false = sym back ∙ apart in absurd (cc)

all_apart : (name other : List ℕ) (names : List (List ℕ)) → AllByRecursion (λ y. bytes_eq other y ≡ false) names
    → bytes_eq name other ≡ false
    → AllByRecursion (λ y. bytes_eq other y ≡ false) (names ++ name ∷ [])
all_apart name other names h apart =
    more (λ y. bytes_eq other y ≡ false) names (name ∷ []) h (flipped other name apart, tt)

apart_last : (names : List (List ℕ)) (name : List ℕ) → IsDistinct bytes_eq names
    → list_any (bytes_eq name) names ≡ false
    → IsDistinct bytes_eq (names ++ name ∷ [])
unfolding IsDistinct
apart_last [] name h new = (tt, tt)
apart_last (n ∷ names) name h new =
    let both = or_parts (bytes_eq name n) (list_any (bytes_eq name) names) new in
    (all_apart name n names h.0 both.0, apart_last names name h.1 both.1)

apart_one : (names : List (List ℕ)) (name : List ℕ) → IsDistinct bytes_eq names
    → IsDistinct bytes_eq (insert_key bytes_eq names name)
apart_one names name h = by_test (list_any (bytes_eq name) names) refl
  where
    by_test : (b : Bool) → list_any (bytes_eq name) names ≡ b → IsDistinct bytes_eq (cond b names (names ++ name ∷ []))
    by_test true is = h
    by_test false is = apart_last names name h is

apart_all : (names later : List (List ℕ)) → IsDistinct bytes_eq names → IsDistinct bytes_eq (names_with names later)
apart_all names [] h = h
apart_all names (name ∷ later) h = apart_all (insert_key bytes_eq names name) later (apart_one names name h)

one_apart : (name : List ℕ) → IsDistinct bytes_eq (name ∷ [])
unfolding IsDistinct
one_apart name = (tt, tt)

-- ---- packages

-- a package of this name
record IsNext (name : List ℕ) (p : PackageFields) : Type 0 where
  named : p.name ≡ name
  right : IsPackage p

package_right : (m : FileMap) (folder name : List ℕ) (before : ℕ) (p : ℕ × PackageFields)
    → package_at m folder name before ≡ Ok p → IsNext name p.1
package_right m folder name before p e =
    package_has (IsNext name) name (record { named = refl; right = record { differ = tt } })
    (λ bytes q read. record {
      named = (document_facts name bytes q read).named;
      right = document_package name bytes q read;
    }) m folder before p e

-- ---- progress

-- the names of packages
abbrev names_in : Packages → List (List ℕ)
names_in c = map (λ (p : PackageFields). p.name) c

-- the packages are such, and their names are the first of different names
record IsRightProgress (s : ProgressFields) : Type 0 where
  rest : List (List ℕ)
  are : s.names ≡ names_in s.packages ++ rest
  apart : IsDistinct bytes_eq s.names
  packages : AllByRecursion IsPackage s.packages

names_last : (ps : Packages) (p : PackageFields) → names_in (ps ++ p ∷ []) ≡ names_in ps ++ p.name ∷ []
names_last [] p = refl
names_last (q ∷ ps) p = ap (λ t. q.name ∷ t) (names_last ps p)

-- the first of the names behind those of packages
next_is : (ps : Packages) (rest : List (List ℕ)) → length ps < length (names_in ps ++ rest)
    → (later : List (List ℕ)) × (rest ≡ get_or (names_in ps ++ rest) (length ps) [] ∷ later)
next_is [] [] lt = absurd (omega (arith, lt))
next_is [] (n ∷ rest) lt = (rest, refl)
next_is (p ∷ ps) rest lt = next_is ps rest (omega (arith, lt))

goes : (s : ProgressFields) (p : ℕ × PackageFields) → length s.packages < length s.names → IsRightProgress s
    → IsNext (next_name s) p.1
    → IsRightProgress (progress_with s p)
goes s p lt h k =
    let asked = names_of (requirements_of p.1.releases) in
    let longer = begins s.names asked in
    let next = next_is s.packages h.rest (subst (λ ns. length s.packages < length ns) h.are lt) in
    let named : get_or (names_in s.packages ++ h.rest) (length s.packages) [] ≡ p.1.name =
    ap (λ ns. get_or ns (length s.packages) []) (sym h.are) ∙ sym k.named in
    let split : s.names ≡ names_in (s.packages ++ p.1 ∷ []) ++ next.0 =
    h.are ∙ ap (λ r. names_in s.packages ++ r) (next.1 ∙ ap (λ n. n ∷ next.0) named)
    ∙ sym (append_assoc (names_in s.packages) (p.1.name ∷ []) next.0) ∙ ap (λ ns. ns ++ next.0)
    (sym (names_last s.packages p.1)) in
    record {
      rest = next.0 ++ longer.0;
      are =
          longer.1 ∙ ap (λ ns. ns ++ longer.0) split ∙ append_assoc (names_in (s.packages ++ p.1 ∷ [])) next.0 longer.0;
      apart = apart_all s.names asked h.apart;
      packages = more IsPackage s.packages (p.1 ∷ []) h.packages (k.right, tt);
    }

begun : (b : Beginning) → IsPackage b.project → IsRightProgress (first_progress b)
begun b project =
    let asked = names_of (requirements_of b.project.releases) in
    let longer = begins (b.project.name ∷ []) asked in
    record {
      rest = longer.0;
      are = longer.1;
      apart = apart_all (b.project.name ∷ []) asked (one_apart b.project.name);
      packages = (project, tt);
    }

-- ---- the catalog

-- a catalog of packages of different names
pub record IsRightCatalog (c : Packages) : Type 0 where
  pub differ : NamesDiffer c
  pub packages : AllByRecursion IsPackage c

others : (name : List ℕ) (ps : Packages) (rest : List (List ℕ))
    → AllByRecursion (λ y. bytes_eq name y ≡ false) (names_in ps ++ rest)
    → All (λ p. name ≡ p.name → ⊥) ps
others name [] rest h = All-nil (λ (p : PackageFields). name ≡ p.name → ⊥)
others name (p ∷ ps) rest h =
    All-cons (λ (p : PackageFields). name ≡ p.name → ⊥) p ps
    (λ same. let yes : bytes_eq name p.name ≡ true = (bytes_eq-Decides name p.name).1 same in
    let clash : true ≡ false = sym yes ∙ h.0 in cc)
    (others name ps rest h.1)

differ_from : (ps : Packages) (rest : List (List ℕ)) → IsDistinct bytes_eq (names_in ps ++ rest) → NamesDiffer ps
unfolding IsDistinct
differ_from [] rest h = tt
differ_from (p ∷ ps) rest h = (others p.name ps rest h.0, differ_from ps rest h.1)

so_far : (s : ProgressFields) → IsRightProgress s → IsRightCatalog s.packages
so_far s h =
    record { differ = differ_from s.packages h.rest (subst (IsDistinct bytes_eq) h.are h.apart); packages = h.packages }

-- what is loaded is right, where the project's package is
pub loaded_right : (m : FileMap) (folder : List ℕ) (b : Beginning) (c : Packages)
    → IsPackage b.project → LoadAnswer m folder b (Ok c) → IsRightCatalog c
loaded_right m folder b c project loads =
    loaded m folder b IsRightCatalog IsRightProgress (record {
      first = begun b project;
      turn = λ s p lt h found. goes s p lt h (package_right m folder (next_name s) s.bytes p found);
      so = so_far;
    }) c loads
