use Rattle.ul_region.proofs.ForCallers.{if_both}
use Rattle.ul_merge.proofs.MadeEdges.{part_truth}
use Rattle.ul_merge.proofs.edges.part_in.Goals as goal

pub returns-clause-truth : goal.returns-clause-truth
returns-clause-truth g c = if_both c.and.result _ _ _ (λ d k j. part_truth _ _ d _ _ c.requires.region c.requires.truth k j) c.and.ensures.diagram c.and.ensures.truth
