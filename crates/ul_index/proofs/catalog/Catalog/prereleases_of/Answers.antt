use Rattle.std.proofs.Common.{ap, option_map, sym, ◌∙◌}
use Rattle.ul_requirement.specs.Fields.{PackageFields}
use Rattle.ul_index.specs.Catalogs.{prereleases_in}
use Rattle.ul_index.proofs.Prereleases.{mode_of_found, mode_of_project}
use Rattle.ul_index.proofs.catalog.Catalog.prereleases_of.Goals as goal

pub returns-then-is_project : goal.returns-then-is_project
returns-then-is_project c =
    mode_of_project c.args.self.now c.as_slice.result.now c.args.name.now c.is_project.result
    (c.as_slice.ensures.value ∙ c.self.view_is)
    c.is_project.ensures c.if-is_project.true

pub returns-in-Some : goal.returns-in-Some
returns-in-Some c =
    mode_of_found c.args.self.now c.as_slice.result.now c.args.name.now c.is_project.result c.package_of.result _
    (c.as_slice.ensures.value ∙ c.self.view_is)
    c.is_project.ensures c.if-is_project.false c.package_of.ensures.package
    (ap (λ (p : PackageFields). p.prereleases) c.found.view_is
    ∙ ap (λ o. prereleases_in (option_map (λ p. p.now) o)) (sym c.in-Some.is))

pub returns-in-None : goal.returns-in-None
returns-in-None c =
    mode_of_found c.args.self.now c.as_slice.result.now c.args.name.now c.is_project.result c.package_of.result _
    (c.as_slice.ensures.value ∙ c.self.view_is)
    c.is_project.ensures c.if-is_project.false c.package_of.ensures.package
    (ap (λ o. prereleases_in (option_map (λ p. p.now) o)) (sym c.in-None.is))
