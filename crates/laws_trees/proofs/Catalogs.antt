-- The versions of each name's releases differ, where those of each package do.
use Rattle.std.proofs.Common.{◌≡◌, ℕ, List, find, Option, Some, None, bytes_eq, refl}
use Rattle.std.specs.List.{AllByRecursion}
use Rattle.std.proofs.lemmas.List.Elements.{All-contains, All-from_recursion}
use Rattle.ul_base.proofs.ForCallers.{found_in}
use Rattle.ul_requirement.specs.Fields.{IsPackage, PackageFields, VersionsDiffer}
use Rattle.ul_index.specs.Catalogs.{Packages, releases_in, releases_of}

pub releases_differ : (c : Packages) (n : List ℕ) → AllByRecursion IsPackage c → VersionsDiffer (releases_of c n)
unfolding releases_of
releases_differ c n h = step (find (λ (p : PackageFields). bytes_eq p.name n) c) refl
  where
    step : (o : Option PackageFields) → find (λ (p : PackageFields). bytes_eq p.name n) c ≡ o
        → VersionsDiffer (releases_in o)
    step None e = tt
    step (Some p) e =
        let listed = found_in (λ (q : PackageFields). bytes_eq q.name n) c p e in
        (All-contains IsPackage c p (All-from_recursion IsPackage c h) listed).differ
