use Rattle.std.proofs.Common.{◌≡◌}
use Rattle.std.specs.Vec.Iter.{into_iter_items}
use Rattle.ul_project.specs.Results.{each_from}
use Rattle.ul_project.specs.Sources.{supported}
use Rattle.ul_project.proofs.EachRead.{behind}
use Rattle.ul_project.proofs.sources.each_supported.Given as goal

abbrev pub invariant-loop-name : goal.invariant-loop-name
invariant-loop-name l =
    each_from (λ i s. supported s) 0 l.fn.said.items ≡ behind l.list.items (each_from (λ i s. supported s) 0 (into_iter_items l.name-iterator))
