use Rattle.std.proofs.Common.{◌∙◌, arith}
use Rattle.std.proofs.lemmas.List.{take_all}
use Rattle.ul_groups.proofs.MadeLists.{copied_next}
use Rattle.ul_groups.proofs.copies.copy_files.Goals as goal

pub loop-file-preserved : goal.loop-file-preserved
loop-file-preserved c =
    copied_next _ _ _ _ _ c.copy.result c.in_ok-list-2.ensures c.copy.ensures c.loop-file-test.true c.file-item.is c.loop-file.invariant

pub returns : goal.returns
returns c = c.loop-file.invariant ∙ take_all c.loop-file.file-index c.args.files.now (omega arith)
