use Rattle.std.proofs.Common.{sym, subst}
use Rattle.ul_index.specs.Catalogs.{IsCatalog}
use Rattle.ul_groups.specs.NameLists.{at_name}
use Rattle.ul_groups.proofs.AdjustedPackages.{adjusted_by_none, catalog_of}
use Rattle.ul_groups.proofs.catalogs.adjusted_catalog.Goals as goal

pub of-requires : goal.of-requires
of-requires c =
    catalog_of (at_name c.in_ok-constraints.constraints.entries) (at_name c.in_ok-overrides.overrides.entries)
    (at_name c.in_ok-sources.sources.entries) c.packages.result.now
    c.in_ok-packages.packages.items c.in_ok-packages.ensures (subst IsCatalog (sym c.packages.ensures.packages) c.packages.ensures.catalog)

pub returns-then-adjusts_nothing : goal.returns-then-adjusts_nothing
returns-then-adjusts_nothing c =
    let none = c.adjusts_nothing.ensures.0 c.if-adjusts_nothing.true in
    let p = c.args.project.now in
    adjusted_by_none p.constraints p.overrides p.sources c.args.catalog none.0 none.1 none.2
