use Rattle.std.proofs.Common.{◌≡◌, drop}
use Rattle.serde_json.specs.View.{items_view}
use Rattle.ul_index.specs.Documents.{files_from}
use Rattle.ul_index.specs.Json.{items_list}
use Rattle.ul_index.proofs.FilesRead.{behind}
use Rattle.ul_index.proofs.files.files_of.Given as goal

abbrev pub invariant-loop-item : goal.invariant-loop-item
invariant-loop-item l =
    (l.number ≡ l.item-index)
    × (files_from l.entry 0 (items_list (items_view l.items)) ≡ behind l.files.items (files_from l.entry l.number (items_list (items_view (drop l.item-index l.items)))))
