use Rattle.ul_index.proofs.Prereleases.{indexed_with}
use Rattle.ul_index.proofs.catalog.Catalog.with_prereleases.Goals as goal

pub invariant_of-result : goal.invariant_of-result
invariant_of-result c =
    indexed_with c.args.mode c.self.inside.packages.items c.packages_with_prereleases-packages.result.items c.self.inside.places
    c.self.inside.asked c.packages_with_prereleases-packages.ensures c.self.invariant
