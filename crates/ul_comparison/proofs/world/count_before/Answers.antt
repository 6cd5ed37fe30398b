use Rattle.std.proofs.Common.{None, rules}
use Rattle.std.specs.Ordering.{is_lt}
use Rattle.std.proofs.lemmas.List.Sorted.{IsPartitionPoint-from_clause}
use Rattle.ul_comparison.specs.Atoms.{atom_cmp}
use Rattle.ul_comparison.proofs.AtomOrder.{parted}
use Rattle.ul_comparison.proofs.world.count_before.Goals as goal

pub returns-clause-place : goal.returns-clause-place
returns-clause-place c =
    IsPartitionPoint-from_clause (λ b. is_lt (atom_cmp b c.args.atom.now)) _ _ c.partition_point.ensures.partitioned
    (parted c.args.atom.now None c.args.atoms.now c.requires) (λ a r q k. search rules)
