use Rattle.ul_merge.proofs.Unions.{simpler_region}
use Rattle.ul_merge.proofs.truths.simplified.Goals as goal

pub marker_of-requires-clause-region : goal.marker_of-requires-clause-region
marker_of-requires-clause-region g c = simpler_region _ _ _ _ c.requires.truth c.requires.supported c.in_ok-simpler.ensures.rule c.requires.meet
