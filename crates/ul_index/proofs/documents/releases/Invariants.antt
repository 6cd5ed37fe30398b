use Rattle.std.proofs.Common.{◌≡◌, List, drop}
use Rattle.serde_json.specs.View.{items_view}
use Rattle.ul_version.specs.Fields.{Fields}
use Rattle.ul_index.specs.Documents.{entries_from, releases_of_items}
use Rattle.ul_index.specs.Json.{items_list}
use Rattle.ul_index.specs.Seen.{Has}
use Rattle.ul_index.proofs.UsableReleases.{releases_behind}
use Rattle.ul_index.proofs.documents.releases.Given as goal

abbrev pub invariant-loop-item : goal.invariant-loop-item
invariant-loop-item l =
    (l.number ≡ l.item-index)
    × ((earlier : List Fields) × Has l.seen earlier
    × (releases_of_items (items_list (items_view l.items)) ≡ releases_behind l.list.items earlier (entries_from l.number (items_list (items_view (drop l.item-index l.items))))))
