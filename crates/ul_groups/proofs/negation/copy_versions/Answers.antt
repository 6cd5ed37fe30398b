use Rattle.std.proofs.Common.{◌∙◌, arith}
use Rattle.std.proofs.lemmas.List.{take_all}
use Rattle.ul_groups.proofs.MadeLists.{copied_next}
use Rattle.ul_groups.proofs.negation.copy_versions.Goals as goal

pub loop-version-preserved : goal.loop-version-preserved
loop-version-preserved c =
    copied_next _ _ _ _ _ c.copy.result c.in_ok-list-2.ensures c.copy.ensures c.loop-version-test.true c.version-item.is c.loop-version.invariant

pub returns : goal.returns
returns c = c.loop-version.invariant ∙ take_all c.loop-version.version-index c.args.versions.now (omega arith)
