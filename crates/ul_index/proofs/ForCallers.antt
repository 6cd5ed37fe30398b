-- The lemmas that crates above may cite.

-- a document's package has the name that it was read for, and no more usable releases than entries
pub use Rattle.ul_index.proofs.DocumentFacts.{IsPackageOf, document_facts}
-- packages that keep their names, and their numbers of releases, are a catalog
pub use Rattle.ul_index.proofs.Prereleases.{KeepsNames, KeepsNumbers, catalog_still, names_still}
-- another mode of pre-releases changes neither releases nor requirements
pub use Rattle.ul_index.proofs.Prereleases.{catalog_with, directs_with, found_with, releases_with}
-- a release that counts is one of the name's, and the project's own one counts
pub use Rattle.ul_index.proofs.Passing.{own_eligible, passing_in}
-- keys that are put in order
pub use Rattle.ul_index.proofs.Inserted.{insert_mapped}
