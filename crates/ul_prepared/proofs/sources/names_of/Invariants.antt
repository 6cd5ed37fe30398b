use Rattle.std.proofs.Common.{◌≡◌, ℕ, List, take}
use Rattle.std.specs.List.{list_any}
use Rattle.std.specs.Str.{bytes_eq}
use Rattle.std.specs.HashSet.{contains}
use Rattle.ul_prepared.proofs.sources.names_of.Given as goal

abbrev pub invariant-loop-requirement : goal.invariant-loop-requirement
invariant-loop-requirement l = (n : List ℕ) → contains bytes_eq l.names n ≡ list_any (λ q. bytes_eq q.name n) (take l.requirement-index l.requirements)
