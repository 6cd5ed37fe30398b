-- Packages grow along the names that are met, and are a catalog in the end.
use Rattle.std.proofs.Common.{◌≡◌, ℕ, ◌+◌, ◌<◌, ◌≤◌, List, [], ◌∷◌, ◌++◌, map, take, length, length-append, get_or, true, false, Result, Ok, Err, OnOk, refl, ap, sym, subst, ◌∙◌, arith, append_assoc, add-one, inl, inr}
use Rattle.std.specs.Prelude.{All}
use Rattle.std.specs.List.{list_any, AllByRecursion, IsDistinct}
use Rattle.std.specs.Str.{bytes_eq}
use Rattle.std.proofs.Math.Seq.{take-suc}
use Rattle.std.proofs.lemmas.Bool.{cases_Bool}
use Rattle.std.proofs.lemmas.List.{take-append-le, take_all, append-nil}
use Rattle.std.proofs.lemmas.List.Elements.{All-cons, All-nil}
use Rattle.std.proofs.lemmas.Slice.Eq.{bytes_eq-Decides}
use Rattle.indexmap.specs.IndexSet.{insert_key}
use Rattle.ul_comparison.specs.Atoms.{AtomFields}
use Rattle.ul_requirement.specs.Fields.{PackageFields}
use Rattle.ul_index.specs.Catalogs.{BeginsWithOne, IsCatalog, NamesDiffer, Packages, release_count}
use Rattle.ul_load.specs.Begun.{BeginsWith, KeepsFirst}
use Rattle.ul_load.specs.Loading.{Beginning, ProgressFields, first_progress, most_packages, most_releases, names_of, names_with, next_name, progress_with, requirements_of}
use Rattle.ul_load.specs.Progressing.{HasNext, HasOneMore, IsNextPackage, IsProgress}

-- the names begin with others
abbrev Begins : List (List ℕ) → List (List ℕ) → Type 0
Begins names more = (rest : List (List ℕ)) × (more ≡ names ++ rest)

met_begins : (names : List (List ℕ)) (name : List ℕ) → Begins names (insert_key bytes_eq names name)
met_begins names name = elim (cases_Bool (list_any (bytes_eq name) names)) [
  | inl had ↦ ([], rw had (sym (append-nil names)))
  | inr new ↦ (name ∷ [], rw new refl)
]

begins : (names more : List (List ℕ)) → Begins names (names_with names more)
begins names [] = ([], sym (append-nil names))
begins names (name ∷ more) =
    let one = met_begins names name in
    let all = begins (insert_key bytes_eq names name) more in
    (one.0 ++ all.0, all.1 ∙ ap (λ x. x ++ all.0) one.1 ∙ append_assoc names one.0 all.0)

project_stays : (ps qs : Packages) → BeginsWithOne ps → BeginsWithOne (ps ++ qs)
project_stays [] qs h = absurd h
project_stays (p ∷ ps) qs h = h

map_last : (ps : Packages) (p : PackageFields) → map (λ p. p.name) (ps ++ p ∷ []) ≡ map (λ p. p.name) ps ++ p.name ∷ []
map_last [] p = refl
map_last (q ∷ ps) p = ap (λ t. q.name ∷ t) (map_last ps p)

count_last : (ps : Packages) (p : PackageFields) → release_count (ps ++ p ∷ []) ≡ release_count ps + length p.releases
count_last [] p = omega arith
count_last (q ∷ ps) p = let rest = count_last ps p in omega (arith, rest)

-- one name more is taken, however many are met after them
one_more : (names more : List (List ℕ)) (i : ℕ) → i < length names → take (i + 1) (names_with names more) ≡ take i names ++ get_or names i [] ∷ []
one_more names more i h =
    let all = begins names more in
    let fits : i + 1 ≤ length names = omega arith in
    ap (take (i + 1)) all.1 ∙ take-append-le (i + 1) names all.0 fits ∙ rw (add-one i) (take-suc names i [] h)

-- the fields of the project alone
pub first_is : (b : Beginning) (names : List (List ℕ)) (packages : Packages) (comparisons : List AtomFields)
    → names ≡ (first_progress b).names → packages ≡ b.project ∷ [] → comparisons ≡ (first_progress b).comparisons
    → record { names = names; packages = packages; bytes = 0; entries = 0; comparisons = comparisons } ≡ first_progress b
first_is b names packages comparisons named whole compared = rw (named, whole, compared) refl

-- what holds where a result is Ok, from another fact
pub ok_then : {T E : Type 0} (r : Result T E) (P Q : Type 0) → (P → Q) → OnOk r P → OnOk r Q
ok_then (Ok x) P Q on h = on h
ok_then (Err e) P Q on h = tt

-- the project alone
pub starts : (b : Beginning) → length b.project.releases ≡ 1 → length (first_progress b).names ≤ most_packages → IsProgress (first_progress b)
starts b one few = record {
  names_are = sym (one_more (b.project.name ∷ []) (names_of (requirements_of b.project.releases)) 0 (omega arith));
  project = one;
  names = few;
  bytes = omega arith;
  entries = omega arith;
  releases = omega (arith, one);
}

-- the next package keeps what holds
pub grows : (s : ProgressFields) (p : ℕ × PackageFields) → IsProgress s → HasNext s → IsNextPackage (next_name s) s.bytes p
    → s.entries + p.1.entries ≤ most_releases → length (progress_with s p).names ≤ most_packages → IsProgress (progress_with s p)
grows s p kept next is entries names = record {
  names_are = map_last s.packages p.1 ∙ ap (λ t. t ++ p.1.name ∷ []) kept.names_are ∙ ap (λ n. take (length s.packages) s.names ++ n ∷ []) is.named
      ∙ sym (one_more s.names (names_of (requirements_of p.1.releases)) (length s.packages) next)
      ∙ ap (λ n. take n (names_with s.names (names_of (requirements_of p.1.releases)))) (sym (length-append s.packages (p.1 ∷ [])));
  project = project_stays s.packages (p.1 ∷ []) kept.project;
  names = names;
  bytes = is.fits;
  entries = entries;
  releases = rw (count_last s.packages p.1) (omega (arith, kept.releases, is.few));
}

others : (name : List ℕ) (ps : Packages) → AllByRecursion (λ y. bytes_eq name y ≡ false) (map (λ p. p.name) ps) → All (λ p. name ≡ p.name → ⊥) ps
others name [] h = All-nil (λ (p : PackageFields). name ≡ p.name → ⊥)
others name (p ∷ ps) h =
    All-cons (λ (p : PackageFields). name ≡ p.name → ⊥) p ps
    (λ same. let yes : bytes_eq name p.name ≡ true = (bytes_eq-Decides name p.name).1 same in let clash : true ≡ false = sym yes ∙ h.0 in cc)
    (others name ps h.1)

differ_from : (ps : Packages) → IsDistinct bytes_eq (map (λ p. p.name) ps) → NamesDiffer ps
unfolding IsDistinct
differ_from [] h = tt
differ_from (p ∷ ps) h = (others p.name ps h.0, differ_from ps h.1)

-- packages of all the names are a catalog
pub grown : (s : ProgressFields) → IsProgress s → (HasNext s → ⊥) → IsDistinct bytes_eq s.names → IsCatalog s.packages
grown s kept whole distinct =
    let long : length s.names ≤ length s.packages = omega (arith, whole) in
    let are : map (λ (p : PackageFields). p.name) s.packages ≡ s.names = kept.names_are ∙ take_all (length s.packages) s.names long in
    record {
      differ = differ_from s.packages (subst (IsDistinct bytes_eq) (sym are) distinct);
      few = omega (arith, kept.releases, kept.entries);
      project = kept.project;
    }

-- what stands first stays there when a package is added
pub keeps_first : (s : ProgressFields) (p : ℕ × PackageFields) (t : ProgressFields) → t ≡ progress_with s p → KeepsFirst s.packages t.packages
keeps_first s p t is first had = record { others = had.others ++ p.1 ∷ []; is = ap (λ x. x.packages) is ∙ ap (λ c. c ++ p.1 ∷ []) had.is }

-- the project stands first in the beginning
pub first_stands : (p : PackageFields) (c : Packages) → c ≡ p ∷ [] → BeginsWith p c
first_stands p c is = record { others = []; is = is }

-- one package more
pub package_more : (s : ProgressFields) (p : ℕ × PackageFields) (t : ProgressFields) → t ≡ progress_with s p → HasOneMore s t
package_more s p t is = ap (λ x. length x.packages) is ∙ length-append s.packages (p.1 ∷ [])

-- a catalog in which a package stands first has one
pub has_first : (p : PackageFields) (c : Packages) → BeginsWith p c → 1 ≤ length c
has_first p c first = omega (arith, ap length first.is)
