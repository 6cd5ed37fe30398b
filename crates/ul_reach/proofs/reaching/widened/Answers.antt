use Rattle.std.proofs.lemmas.Result.{IfOk-weaker}
use Rattle.ul_interner.proofs.ForCallers.{knows_then}
use Rattle.ul_region.proofs.ForCallers.{is_region, truth_still}
use Rattle.ul_reach.proofs.Joining.{with_parts}
use Rattle.ul_reach.proofs.reaching.widened.Goals as goal

pub either-requires-clause-first : goal.either-requires-clause-first
either-requires-clause-first g c = truth_still _ _ _ _ c.in_ok-more.ensures.knows c.requires.reach

pub either-requires-clause-second : goal.either-requires-clause-second
either-requires-clause-second g c = is_region _ _ _ c.in_ok-more.ensures.truth

pub returns-clause-knows : goal.returns-clause-knows
returns-clause-knows g c = knows_then _ _ _ c.in_ok-more.ensures.knows c.either.ensures.knows

pub returns-clause-truth : goal.returns-clause-truth
returns-clause-truth g c = IfOk-weaker c.either.result _ _ (λ d t. with_parts _ _ d c.args.reach.now c.in_ok-more.more c.args.parts.now c.in_ok-more.ensures.truth t) c.either.ensures.truth
