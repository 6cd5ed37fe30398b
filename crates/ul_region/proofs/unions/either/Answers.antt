use Rattle.ul_region.proofs.UnionFacts.{if_both, union_truth}
use Rattle.ul_region.proofs.unions.either.Goals as goal

pub returns-clause-truth : goal.returns-clause-truth
returns-clause-truth g c = if_both c.or.result _ _ _ (λ d k j. union_truth _ _ d _ _ c.requires.first c.requires.second k j) c.or.ensures.diagram c.or.ensures.truth
