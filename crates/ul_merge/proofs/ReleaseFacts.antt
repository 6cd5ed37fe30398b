-- The versions of each name's releases differ.
use Rattle.std.proofs.Common.{◌≡◌, ℕ, ◌+◌, ◌<◌, List, ◌∷◌, [], ◌++◌, find, length, get_or, take, Option, Some, None, refl, sym, ap, ◌∙◌, subst, bytes_eq}
use Rattle.std.specs.Prelude.{All}
use Rattle.std.proofs.lemmas.List.{take_more}
use Rattle.std.proofs.lemmas.List.Elements.{All-contains, All-push}
use Rattle.ul_base.proofs.ForCallers.{found_in}
use Rattle.ul_requirement.specs.Fields.{PackageFields, ReleaseFields, VersionsDiffer}
use Rattle.ul_index.specs.Catalogs.{Packages, releases_in, releases_of}

-- the versions of a package's releases differ
abbrev pub HasDiffering : PackageFields → Type 0
HasDiffering p = VersionsDiffer p.releases

-- one package more
pub differ_more : (c : Packages) (i : ℕ) (p : PackageFields) → i < length c → p ≡ get_or c i p → All HasDiffering (take i c) → HasDiffering p → All HasDiffering (take (i + 1) c)
differ_more c i p lt at all one = subst (λ (xs : Packages). All HasDiffering xs) (sym (take_more c i p lt ∙ ap (λ (q : PackageFields). take i c ++ q ∷ []) (sym at)))
    (All-push HasDiffering (take i c) p all one)

differ_in : (c : Packages) (o : Option PackageFields) → All HasDiffering c → ((p : PackageFields) → o ≡ Some p → HasDiffering p) → VersionsDiffer (releases_in o)
differ_in c None all h = tt
differ_in c (Some p) all h = h p refl

-- of each name
pub names_differ : (c : Packages) → All HasDiffering c → (n : List ℕ) → VersionsDiffer (releases_of c n)
unfolding releases_of
names_differ c all n = differ_in c (find (λ (p : PackageFields). bytes_eq p.name n) c) all
    (λ p e. All-contains HasDiffering c p all (found_in (λ (p : PackageFields). bytes_eq p.name n) c p e))
