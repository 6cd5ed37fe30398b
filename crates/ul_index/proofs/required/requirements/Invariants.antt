use Rattle.std.proofs.Common.{◌≡◌, drop}
use Rattle.serde_json.specs.View.{items_view}
use Rattle.ul_index.specs.Documents.{requirement_in}
use Rattle.ul_index.specs.Json.{items_list}
use Rattle.ul_index.specs.Results.{read_each}
use Rattle.ul_index.proofs.EachRead.{found_then}
use Rattle.ul_index.proofs.required.requirements.Given as goal

abbrev pub invariant-loop-item : goal.invariant-loop-item
invariant-loop-item l =
    read_each requirement_in (items_list (items_view l.items))
    ≡ found_then l.list.items (read_each requirement_in (items_list (items_view (drop l.item-index l.items))))
