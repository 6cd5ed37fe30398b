use Rattle.std.proofs.Common.{not, rules}
use Rattle.std.specs.Ordering.{is_gt}
use Rattle.std.proofs.lemmas.List.Sorted.{IsPartitionPoint-from_clause}
use Rattle.ul_prepared.specs.Parts.{side}
use Rattle.ul_prepared.proofs.Sides.{through_parted, counted_through}
use Rattle.ul_prepared.proofs.parts.count_through.Goals as goal

pub returns : goal.returns
returns c = counted_through c.args.part c.args.version.now c.args.versions.now c.partition_point.result c.partition_point.ensures.bound
    (IsPartitionPoint-from_clause (λ x. not (is_gt (side c.args.part c.args.version.now x))) _ _ c.partition_point.ensures.partitioned
    (through_parted c.args.part c.args.version.now c.args.versions.now c.requires) (λ a r q k. search rules))
