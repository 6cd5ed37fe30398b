use Rattle.std.proofs.Common.{◌≡◌, ◌++◌, map}
use Rattle.ul_index.proofs.version_order.VersionOrder.places.Given as goal

abbrev pub invariant-loop-key : goal.invariant-loop-key
invariant-loop-key l = l.places.items ++ map (λ k. k.place) l.key-iterator ≡ map (λ k. k.place) l.fn.self.keys.keys
