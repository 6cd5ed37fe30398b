use Rattle.std.proofs.Common.{◌∙◌}
use Rattle.std.proofs.lemmas.List.{take_all}
use Rattle.ul_base.proofs.ForCallers.{made_holds}
use Rattle.ul_merge.proofs.Walks.{taken_more}
use Rattle.ul_merge.proofs.releases.copied_files.Goals as goal

pub loop-file-init : goal.loop-file-init
loop-file-init c = c.in_ok-list.ensures.items

pub loop-file-preserved : goal.loop-file-preserved
loop-file-preserved c =
    let more = c.in_ok-list-2.ensures in
    taken_more c.args.files.now c.loop-file.file-index c.file-item.result _ _ more.0 c.loop-file-test.true c.file-item.is (made_holds c.copy.result more.0 _ more.1 c.copy.ensures) more.2 c.loop-file.invariant

pub returns : goal.returns
returns c = c.loop-file.invariant ∙ take_all c.loop-file.file-index c.args.files.now c.loop-file-test.false
