-- Eligible versions that are level are equal, where the versions of each package's releases differ.
use Rattle.std.proofs.Common.{◌≡◌, ◌∙◌, ◌⊎◌, ℕ, List, [], ◌∷◌, find, Option, Some, None, Contains, refl, sym, ap, subst, inl, inr, bytes_eq}
use Rattle.std.specs.Cmp.{tied_back}
use Rattle.std.specs.List.{AllByRecursion}
use Rattle.std.specs.declared.cmp.Ordering.TheVariants.{Equal}
use Rattle.std.proofs.lemmas.List.Elements.{All-contains}
use Rattle.ul_base.proofs.ForCallers.{contains_cases, found_in, none_in}
use Rattle.ul_version.specs.Order.{version_cmp}
use Rattle.ul_version.proofs.ForCallers.{version_total}
use Rattle.ul_requirement.specs.Fields.{IsOtherVersion, IsPackage, PackageFields, ReleaseFields, VersionsDiffer}
use Rattle.ul_index.specs.Catalogs.{Packages, releases_in, releases_of}
use Rattle.ul_index.specs.Laws.{EligibleSame}
use Rattle.ul_index.proofs.ForCallers.{passing_in}
use Rattle.laws_relock.specs.Again.{LevelVersionsAreEqual}
use Rattle.laws_relock.proofs.Answered.{each_of}

differ_in : (o : Option PackageFields) → ((p : PackageFields) → o ≡ Some p → VersionsDiffer p.releases)
    → VersionsDiffer (releases_in o)
differ_in None h = tt
differ_in (Some p) h = h p refl

names_differ : (c : Packages) → AllByRecursion IsPackage c → (n : List ℕ) → VersionsDiffer (releases_of c n)
unfolding releases_of
names_differ c all n =
    differ_in (find (λ (p : PackageFields). bytes_eq p.name n) c)
    (λ p e. (each_of IsPackage c all p (found_in (λ (p : PackageFields). bytes_eq p.name n) c p e)).differ)

-- releases of one version are one
one_level : (rs : List ReleaseFields) (r s : ReleaseFields) → VersionsDiffer rs → Contains rs r → Contains rs s
    → version_cmp r.version s.version ≡ Equal → r ≡ s
one_level [] r s differ at there level = absurd (none_in r at)
one_level (x ∷ rs) r s differ at there level =
    by_place (λ k l. one_level rs r s differ.1 k l level) (contains_cases x rs r at) (contains_cases x rs s there)
  where
    by_place : (Contains rs r → Contains rs s → r ≡ s) → (r ≡ x) ⊎ Contains rs r → (s ≡ x) ⊎ Contains rs s → r ≡ s
    by_place on (inl is) (inl also) = is ∙ sym also
    by_place on (inl is) (inr later) =
        absurd (All-contains (IsOtherVersion x) rs s differ.0 later
        (subst (λ (y : ReleaseFields). version_cmp y.version s.version ≡ Equal) is level))
    by_place on (inr later) (inl is) =
        absurd (All-contains (IsOtherVersion x) rs r differ.0 later
        (subst (λ (y : ReleaseFields). version_cmp y.version r.version ≡ Equal) is
        (tied_back version_total r.version s.version level)))
    by_place on (inr later) (inr also) = on later also

pub level_versions_are_equal : EligibleSame → LevelVersionsAreEqual
level_versions_are_equal same c all name v u has also level =
    let a = (same c name v).0 has in
    let b = (same c name u).0 also in
    let cmp : version_cmp a.0.version b.0.version ≡ Equal = ap (λ x. version_cmp x b.0.version) a.2 ∙ (ap (λ x. version_cmp v x) b.2 ∙ level) in
    sym a.2
    ∙ (ap (λ (r : ReleaseFields). r.version) (one_level (releases_of c name) a.0 b.0 (names_differ c all name)
    (passing_in c name a.0 a.1) (passing_in c name b.0 b.1) cmp) ∙ b.2)
