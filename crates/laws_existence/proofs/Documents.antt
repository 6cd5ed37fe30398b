-- A document that is read has different versions.
use Rattle.std.proofs.Common.{◌≡◌, ℕ, List, Ok, subst}
use Rattle.ul_requirement.specs.Fields.{IsPackage, PackageFields, RequirementFields, VersionsDiffer}
use Rattle.ul_index.specs.Documents.{document_of}
use Rattle.ul_index.specs.Usable.{usable}
use Rattle.laws_given.proofs.ForCallers.{document_has}
use Rattle.laws_existence.proofs.UsableReleases.{usable_differ}

-- nothing is asked of its requirements
abbrev AnyRequirement : RequirementFields → Type 0
AnyRequirement q = Unit {0}

-- the package of a document that is read is one
pub document_package : (name bytes : List ℕ) (p : PackageFields) → document_of name bytes ≡ Ok p → IsPackage p
document_package name bytes p h =
    let read = document_has AnyRequirement (λ text q e. tt) name bytes p h in
    record { differ = subst VersionsDiffer {x = usable read.entries} read.are (usable_differ read.entries) }
