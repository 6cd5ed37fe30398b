use Rattle.std.proofs.Common.{rules}
use Rattle.std.specs.Ordering.{is_lt}
use Rattle.std.proofs.lemmas.List.Sorted.{IsPartitionPoint-from_clause}
use Rattle.ul_prepared.specs.Parts.{side}
use Rattle.ul_prepared.proofs.Sides.{before_parted, counted_before}
use Rattle.ul_prepared.proofs.parts.count_before.Goals as goal

pub returns : goal.returns
returns c = counted_before c.args.part c.args.version.now c.args.versions.now c.partition_point.result c.partition_point.ensures.bound
    (IsPartitionPoint-from_clause (λ x. is_lt (side c.args.part c.args.version.now x)) _ _ c.partition_point.ensures.partitioned
    (before_parted c.args.part c.args.version.now c.args.versions.now c.requires) (λ a r q k. search rules))
