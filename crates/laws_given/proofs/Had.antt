-- What a catalog of names and versions has.
use Rattle.std.proofs.Common.{◌≡◌, ◌⊎◌, ℕ, List, [], ◌∷◌, map, Bool, true, false, cond, IfSome, ap, sym, subst, inl, inr}
use Rattle.std.specs.Prelude.{Contains, filter}
use Rattle.std.specs.List.{AllByRecursion}
use Rattle.std.specs.List.Sorted.{IsStrictlySortedBy}
use Rattle.std.specs.Ordering.{is_lt}
use Rattle.std.specs.declared.cmp.Ordering.TheVariants.{Less}
use Rattle.ul_base.specs.Names.{IsNormalName}
use Rattle.ul_base.specs.declared.node.Node.{Node}
use Rattle.ul_base.proofs.ForCallers.{contains_cases, contains_from_map}
use Rattle.ul_version.specs.Fields.{IsVersion}
use Rattle.ul_lines.specs.Reader.{Each}
use Rattle.ul_requirement.specs.Fields.{FileFields, FilesRise, IsFile, PackageFields, RequirementFields}
use Rattle.ul_lock.specs.Increasing.{Before, Rising}
use Rattle.ul_lock.specs.Orders.{file_cmp, file_less}
use Rattle.ul_requirement.specs.Truth.{base, targets, with_extra}
use Rattle.ul_index.specs.Catalogs.{Packages, prereleases_of, releases_of}
use Rattle.ul_index.specs.Eligible.{directs_on, passes, passing, takes_pre}
use Rattle.ul_index.specs.Laws.{EligibleSame}
use Rattle.laws_given.specs.Texts.{IsNamedRequirement, IsTextPackage, IsTextRelease, TextsAreHad}
use Rattle.laws_given.proofs.CatalogReleases.{release_has, releases_have, requirement_has}
use Rattle.laws_given.proofs.Lists.{all_at}

all_kept : {A : Type 0} (P : A → Type 0) (test : A → Bool) (xs : List A) → AllByRecursion P xs
    → AllByRecursion P (filter test xs)
all_kept P test [] h = tt
all_kept P test (x ∷ xs) h = by_test (test x) (all_kept P test xs h.1)
  where
    by_test : (b : Bool) → AllByRecursion P (filter test xs)
        → AllByRecursion P (cond b (x ∷ filter test xs) (filter test xs))
    by_test true rest = (h.0, rest)
    by_test false rest = rest

releases_of_text : (p : PackageFields) → IsTextPackage p → AllByRecursion IsTextRelease p.releases
releases_of_text p h = h.releases

passing_are : (c : Packages) (n : List ℕ) → AllByRecursion IsTextPackage c → AllByRecursion IsTextRelease (passing c n)
unfolding passing
passing_are c n h =
    all_kept IsTextRelease (passes (directs_on c n) (takes_pre (prereleases_of c n) (directs_on c n) (releases_of c n))) (releases_of c n)
    (releases_have IsTextPackage IsTextRelease releases_of_text c h n)

target_named : (q : RequirementFields) (t : Node) → IsNamedRequirement q → Contains (targets q) t
    → IsNormalName t.name × IfSome t.extra IsNormalName
target_named q t h at = by_cases (contains_cases (base q.name) (map (with_extra q.name) q.extras) t at)
  where
    by_cases : (t ≡ base q.name) ⊎ Contains (map (with_extra q.name) q.extras) t
        → IsNormalName t.name × IfSome t.extra IsNormalName
    by_cases (inl same) =
        subst (λ (x : Node). IsNormalName x.name × IfSome x.extra IsNormalName) (sym same) (h.name, tt)
    by_cases (inr later) =
        let found = contains_from_map (with_extra q.name) q.extras t later in
        subst (λ (x : Node). IsNormalName x.name × IfSome x.extra IsNormalName) (sym found.2)
        (h.name, all_at IsNormalName q.extras found.0 h.extras found.1)

each_of : {A : Type 0} (P : A → Type 0) (xs : List A) → AllByRecursion P xs → Each P xs
each_of P [] h = tt
each_of P (x ∷ xs) h = (h.0, each_of P xs h.1)

before : (f : FileFields) (fs : List FileFields) → AllByRecursion (λ (g : FileFields). file_cmp f g ≡ Less) fs
    → Before file_less f fs
before f [] h = tt
before f (g ∷ fs) h = ap is_lt h.0

rising : (fs : List FileFields) → FilesRise fs → Rising file_less fs
unfolding IsStrictlySortedBy
rising [] h = tt
rising (f ∷ fs) h = (before f fs h.0, rising fs h.1)

pub texts_are_had : EligibleSame → TextsAreHad
texts_are_had same c h = record {
  versions = λ n v at.
      let r = (same c n v).0 at in
      subst IsVersion r.2 ((all_at IsTextRelease (passing c n) r.0 (passing_are c n h) r.1).version);
  nodes = λ n v q t listed at.
      target_named q t (requirement_has IsTextPackage IsTextRelease releases_of_text c h IsNamedRequirement
      (λ r k. k.requirements) n v q listed) at;
  files = λ n v r is.
      let release = release_has IsTextPackage IsTextRelease releases_of_text c h n v r is in
      (each_of IsFile r.files release.files, rising r.files release.files_rise);
}
