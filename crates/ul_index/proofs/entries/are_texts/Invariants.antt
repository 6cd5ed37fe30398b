use Rattle.std.proofs.Common.{◌≡◌, drop, is_some}
use Rattle.serde_json.specs.Find.{as_str}
use Rattle.serde_json.specs.View.{items_view}
use Rattle.ul_index.specs.Json.{items_list}
use Rattle.ul_index.specs.Results.{read_each}
use Rattle.ul_index.proofs.entries.are_texts.Given as goal

abbrev pub invariant-loop-item : goal.invariant-loop-item
invariant-loop-item l =
    is_some (read_each as_str (items_list (items_view l.items))) ≡ is_some (read_each as_str (items_list (items_view (drop l.item-index l.items))))
