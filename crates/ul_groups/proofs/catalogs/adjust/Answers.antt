use Rattle.std.proofs.Common.{◌∙◌, ap}
use Rattle.ul_index.specs.Catalogs.{with_prereleases}
use Rattle.ul_project.specs.Fields.{ProjectFields}
use Rattle.ul_groups.proofs.AdjustedPackages.{packages_for}
use Rattle.ul_groups.proofs.catalogs.adjust.Goals as goal

pub returns : goal.returns
returns c =
    let mode = ap (λ (p : ProjectFields). p.prereleases) c.project.view_is in
    c.with_prereleases.ensures ∙ (λ i. with_prereleases (mode i) (c.in_ok-adjusted.ensures i)) ∙ packages_for c.args.project.now c.args.catalog
