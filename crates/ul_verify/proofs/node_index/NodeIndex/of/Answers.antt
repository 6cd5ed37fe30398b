use Rattle.std.proofs.Common.{rules}
use Rattle.std.proofs.lemmas.List.Sorted.{answers_always}
use Rattle.ul_verify.specs.NodeIndexes.{is_before}
use Rattle.ul_verify.proofs.IndexFacts.{entries_ranked}
use Rattle.ul_verify.proofs.node_index.NodeIndex.of.Goals as goal

pub returns-clause-sorted : goal.returns-clause-sorted
returns-clause-sorted c = c.sort_unstable_by.ensures.sorted is_before entries_ranked (answers_always _ _ _ (λ f a r q h. search rules))
