use Rattle.std.proofs.Common.{rules}
use Rattle.std.proofs.lemmas.List.Sorted.{IsPartitionPoint-from_clause}
use Rattle.ul_verify.specs.NodeIndexes.{node_of}
use Rattle.ul_verify.proofs.IndexFacts.{LowerThan, NotAbove, first_parted, rest_parted, run_here}
use Rattle.ul_verify.proofs.node_index.NodeIndex.run.Goals as goal

pub returns : goal.returns
returns c =
    let n = node_of c.args.name.now c.args.extra in
    run_here n c.args.self.now.entries.items _ _ _ c.as_slice-entries.ensures.value
    (IsPartitionPoint-from_clause (LowerThan n) _ _ c.partition_point-first.ensures.partitioned
    (first_parted n _ _ c.as_slice-entries.ensures.value c.requires) (λ a r q k. search rules))
    (IsPartitionPoint-from_clause (NotAbove n) _ _ c.partition_point-count.ensures.partitioned
    (rest_parted n _ _ _ c.as_slice-entries.ensures.value c.requires) (λ a r q k. search rules))
    c.partition_point-count.ensures.bound
