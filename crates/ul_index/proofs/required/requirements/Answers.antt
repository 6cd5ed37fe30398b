use Rattle.std.proofs.Common.{◌+◌, ◌∙◌, ap}
use Rattle.serde_json.specs.View.{view}
use Rattle.ul_index.specs.Documents.{requirement_in}
use Rattle.ul_index.specs.Results.{read_each}
use Rattle.ul_index.proofs.EachRead.{found_then, found_then-one}
use Rattle.ul_index.proofs.Values.{values-next, values_from}
use Rattle.ul_index.proofs.required.requirements.Goals as goal

pub loop-item-preserved : goal.loop-item-preserved
loop-item-preserved c =
    let i = c.loop-item.item-index in
    let vs = c.args.items.now in
    let before = c.loop-item.list.items in
    let told = rw c.in_ok-kept.ensures.1 at c.requirement.ensures in
    c.loop-item.invariant
    ∙ ap (λ ds. found_then before (read_each requirement_in ds)) (values-next i vs c.item-item.result c.loop-item-test.true c.item-item.is)
    ∙ found_then-one requirement_in before _ (view c.item-item.result) (values_from (i + 1) vs) c.in-Some.requirement
    (cc) (rw c.in_ok-kept.ensures.0 at c.in_ok-list-2.ensures)
