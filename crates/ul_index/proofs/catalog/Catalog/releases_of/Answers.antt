use Rattle.std.proofs.Common.{◌∙◌, List, refl, subst, sym}
use Rattle.ul_requirement.specs.Fields.{ReleaseFields, VersionsDiffer}
use Rattle.ul_index.proofs.Finding.{few_found, none_found_of, releases_found}
use Rattle.ul_index.proofs.catalog.Catalog.releases_of.Goals as goal

pub returns-in-Some-clause-releases : goal.returns-in-Some-clause-releases
returns-in-Some-clause-releases c =
    c.releases.ensures.releases
    ∙ releases_found c.args.self.now c.args.self.now c.args.name.now c.package_of.result c.in-Some.found refl c.in-Some.is c.package_of.ensures.package

pub returns-in-Some-clause-differ : goal.returns-in-Some-clause-differ
returns-in-Some-clause-differ c = subst (λ (rs : List ReleaseFields). VersionsDiffer rs) (sym c.releases.ensures.releases) c.releases.ensures.differ

pub returns-in-Some-clause-few : goal.returns-in-Some-clause-few
returns-in-Some-clause-few c =
    rw (c.releases.ensures.releases, releases_found c.args.self.now c.args.self.now c.args.name.now c.package_of.result c.in-Some.found refl c.in-Some.is c.package_of.ensures.package)
    (few_found c.args.self.now c.args.name.now c.package_of.ensures.catalog)

pub returns-in-None-clause-releases : goal.returns-in-None-clause-releases
returns-in-None-clause-releases c =
    none_found_of c.args.self.now c.args.self.now c.args.name.now c.package_of.result refl c.in-None.is c.package_of.ensures.package
