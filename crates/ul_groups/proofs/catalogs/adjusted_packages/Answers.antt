use Rattle.std.proofs.Common.{arith}
use Rattle.ul_groups.specs.Adjusted.{adjusted_package}
use Rattle.ul_groups.specs.NameLists.{at_name}
use Rattle.ul_groups.proofs.MadeLists.{made_all, made_next}
use Rattle.ul_groups.proofs.catalogs.adjusted_packages.Goals as goal

pub loop-found-preserved : goal.loop-found-preserved
loop-found-preserved c =
    made_next (adjusted_package (at_name c.args.constraints.now.entries) (at_name c.args.overrides.now.entries) (at_name c.args.sources.now.entries)) _ _ _ _ _ c.adjusted_package-made.result
    c.in_ok-list-2.ensures c.adjusted_package-made.ensures c.loop-found-test.true c.found-item.is c.loop-found.invariant

pub returns : goal.returns
returns c =
    made_all (adjusted_package (at_name c.args.constraints.now.entries) (at_name c.args.overrides.now.entries) (at_name c.args.sources.now.entries)) c.args.packages.now _
    c.loop-found.found-index (omega arith) c.loop-found.invariant
