use Rattle.std.proofs.Common.{Bool, sym, subst}
use Rattle.std.specs.Prelude.{IfOk}
use Rattle.ul_algebra.specs.Truths.{HoldsJoined}
use Rattle.ul_region.specs.Markers.{joining_of}
use Rattle.ul_region.proofs.markers.both_or_either.Goals as goal

pub returns-then-all-clause-truth : goal.returns-then-all-clause-truth
returns-then-all-clause-truth g c = subst (λ (v : Bool). IfOk c.and.result (λ d. HoldsJoined (joining_of v) c.args.first.now c.args.second.now d)) (sym c.if-all.true) c.and.ensures.truth

pub returns-clause-truth : goal.returns-clause-truth
returns-clause-truth g c = subst (λ (v : Bool). IfOk c.or.result (λ d. HoldsJoined (joining_of v) c.args.first.now c.args.second.now d)) (sym c.if-all.false) c.or.ensures.truth
