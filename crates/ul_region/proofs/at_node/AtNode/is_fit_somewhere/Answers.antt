use Rattle.ul_index.specs.Catalogs.{is_release_fit}
use Rattle.ul_region.specs.Asked.{region_asked}
use Rattle.ul_region.proofs.Existing.{somewhere_decided}
use Rattle.ul_region.proofs.AskedFacts.{fit_place}
use Rattle.ul_region.proofs.at_node.AtNode.is_fit_somewhere.Goals as goal

pub holds_at-within-requires : goal.holds_at-within-requires
holds_at-within-requires c = fit_place c.args.algebra.now c.args.self.now c.requires

pub is_false-requires : goal.is_false-requires
is_false-requires c = record { a = (c.holds_at-within.ensures c.args.algebra.now c.requires.place (is_release_fit c.args.self.now.row.now.release.now) c.requires.row.fit).diagram }

pub returns : goal.returns
returns c = somewhere_decided c.args.algebra.now c.holds_at-within.result.now (region_asked c.args.self.now) (is_release_fit c.args.self.now.row.now.release.now)
    (c.holds_at-within.ensures c.args.algebra.now c.requires.place (is_release_fit c.args.self.now.row.now.release.now) c.requires.row.fit) c.is_false.result c.is_false.ensures
