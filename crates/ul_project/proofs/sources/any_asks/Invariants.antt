use Rattle.std.proofs.Common.{◌≡◌, drop}
use Rattle.std.specs.List.{list_any}
use Rattle.ul_project.proofs.sources.any_asks.Given as goal

abbrev pub invariant-loop-said : goal.invariant-loop-said
invariant-loop-said l = list_any (λ s. s.asks) l.list ≡ list_any (λ s. s.asks) (drop l.said-index l.list)
