use Rattle.std.proofs.Common.{◌≡◌, drop}
use Rattle.toml.specs.View.{items_view}
use Rattle.ul_project.specs.Results.{each_from}
use Rattle.ul_project.specs.Sources.{source_at, sources_path}
use Rattle.ul_project.specs.Toml.{items_list}
use Rattle.ul_project.proofs.EachRead.{behind}
use Rattle.ul_project.proofs.sources.listed.Given as goal

abbrev pub invariant-loop-item : goal.invariant-loop-item
invariant-loop-item l =
    each_from (λ i d. source_at (sources_path l.name) d) 0 (items_list (items_view l.items))
    ≡ behind l.list.items (each_from (λ i d. source_at (sources_path l.name) d) l.item-index (items_list (items_view (drop l.item-index l.items))))
