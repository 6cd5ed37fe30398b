use Rattle.std.proofs.Common.{◌≡◌, ◌++◌, drop}
use Rattle.std.specs.Prelude.{map, zip}
use Rattle.ul_ranges.specs.Operations.{flag_by}
use Rattle.ul_ranges.proofs.plain.flags_by.Given as goal

abbrev pub invariant-loop-k : goal.invariant-loop-k
invariant-loop-k l =
    l.flags.items ++ map (λ p. flag_by l.operation p.0 p.1) (zip (drop l.k l.left) (drop l.k l.right))
    ≡ map (λ p. flag_by l.operation p.0 p.1) (zip l.left l.right)
