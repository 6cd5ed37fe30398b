-- The lemmas that crates above may cite.

-- each element of two lists joined, and of a list of which another thing is true
pub use Rattle.laws_given.proofs.Lists.{all_as, more}
-- sets increase
pub use Rattle.laws_given.proofs.Inserted.{set_rises}
-- what is true of each requirement that is read, and the parts of one
pub use Rattle.laws_given.proofs.ReadRequirements.{AreRead, IsTailOf, Tail, front_has, read_from, requirement_with}
-- what is true of each marker that a document's text spells is true of those of requirements that are read
pub use Rattle.laws_given.proofs.ReadMarkers.{AreMarkers, HasMarker, read_has, rest_has}
-- so it is of the requirements of a document
pub use Rattle.laws_given.proofs.Documents.{IsReleaseWith, document_has}
-- what each turn of loading keeps is so of what is loaded, and what is true of documents is so of each package
pub use Rattle.laws_given.proofs.Turns.{loaded}
pub use Rattle.laws_given.proofs.LoadedPackages.{package_has}
-- readings of a project file, and its parts
pub use Rattle.laws_given.proofs.Readings.{each_all, same_ok, went_on}
pub use Rattle.laws_given.proofs.FileParts.{file_from}
-- the requirements of a project file, and its environments
pub use Rattle.laws_given.proofs.FileRequirements.{IsFileWith, IsOfExtras, file_has, requirement_has}
pub use Rattle.laws_given.proofs.Said.{as_formulas, document_formula, file_formulas}
-- those of a project whose groups are extras
pub use Rattle.laws_given.proofs.ExpandedProjects.{IsOfRequirements, IsProjectWith, expanded_by, expanded_has, project_with}
-- those of adjusted releases
pub use Rattle.laws_given.proofs.AdjustedReleases.{IsOfBounds, releases_adjusted}
-- those that a catalog has for a name and a version
pub use Rattle.laws_given.proofs.CatalogReleases.{requirement_has as listed_has}
-- the constraints that sources are
pub use Rattle.laws_given.proofs.SourceConstraints.{IsOfConditions}
-- inputs that are given, one after another, and what a resolution is given by
pub use Rattle.laws_given.proofs.Inputs.{IsCatalogFrom, IsProjectFrom, on_ok, resolution_from}
-- what is true of each requirement that is read, and of what is made of them, is true of each of the catalog that files
-- give; and so of the environments that a project names
pub use Rattle.laws_given.proofs.GivenRequirements.{HasAll, HasEach, IsOfFiles, given_all, given_environments}
