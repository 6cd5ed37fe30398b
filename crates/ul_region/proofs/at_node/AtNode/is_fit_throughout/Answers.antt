use Rattle.ul_index.specs.Catalogs.{is_release_fit}
use Rattle.ul_region.specs.Asked.{region_asked}
use Rattle.ul_region.proofs.Existing.{throughout_decided, everywhere_decided}
use Rattle.ul_region.proofs.AskedFacts.{fit_place}
use Rattle.ul_region.proofs.at_node.AtNode.is_fit_throughout.Goals as goal

pub holds_at-within-requires : goal.holds_at-within-requires
holds_at-within-requires c = fit_place c.args.algebra.now c.args.self.now c.requires

pub same-requires-clause-a : goal.same-requires-clause-a
same-requires-clause-a c = (c.holds_at-within.ensures c.args.algebra.now c.requires.place (is_release_fit c.args.self.now.row.now.release.now) c.requires.row.fit).diagram

pub same-requires-clause-b : goal.same-requires-clause-b
same-requires-clause-b c = c.requires.place.region.diagram

pub returns-clause-fails : goal.returns-clause-fails
returns-clause-fails c = throughout_decided c.args.algebra.now c.holds_at-within.result.now c.args.self.now.place.now.region.now (region_asked c.args.self.now) (is_release_fit c.args.self.now.row.now.release.now)
    (c.holds_at-within.ensures c.args.algebra.now c.requires.place (is_release_fit c.args.self.now.row.now.release.now) c.requires.row.fit) c.requires.place.region c.same.result c.same.ensures.tree

pub returns-clause-everywhere : goal.returns-clause-everywhere
returns-clause-everywhere c = everywhere_decided (region_asked c.args.self.now) (is_release_fit c.args.self.now.row.now.release.now) c.same.result
    (throughout_decided c.args.algebra.now c.holds_at-within.result.now c.args.self.now.place.now.region.now (region_asked c.args.self.now) (is_release_fit c.args.self.now.row.now.release.now)
    (c.holds_at-within.ensures c.args.algebra.now c.requires.place (is_release_fit c.args.self.now.row.now.release.now) c.requires.row.fit) c.requires.place.region c.same.result c.same.ensures.tree)
