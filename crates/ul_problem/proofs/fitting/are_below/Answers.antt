use Rattle.std.proofs.Common.{refl, sym, arith, ◌<◌}
use Rattle.std.proofs.lemmas.List.{take_all}
use Rattle.std.proofs.lemmas.List.Elements.{All-more, All-same}
use Rattle.ul_problem.proofs.fitting.are_below.Goals as goal

pub loop-place-preserved : goal.loop-place-preserved
loop-place-preserved c = All-more (λ v. v < c.args.size) c.args.places.now c.loop-place.place-index 0 c.loop-place-test.true c.loop-place.invariant (omega arith)

pub returns : goal.returns
returns c = ((λ t. All-same (λ v. v < c.args.size) _ _ (sym (take_all c.loop-place.place-index c.args.places.now (omega arith))) c.loop-place.invariant), (λ h. refl))
