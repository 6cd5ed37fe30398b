use Rattle.std.proofs.Common.{◌≡◌, ◌++◌, map}
use Rattle.std.specs.Vec.Iter.{into_iter_items}
use Rattle.ul_project.proofs.sources.sources_of.Given as goal

abbrev pub invariant-loop-said : goal.invariant-loop-said
invariant-loop-said l = l.sources.items ++ map (λ s. s.source) (into_iter_items l.said-iterator) ≡ map (λ s. s.source) l.fn.list.items
