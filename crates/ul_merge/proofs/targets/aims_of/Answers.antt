use Rattle.std.proofs.Common.{map, refl}
use Rattle.ul_requirement.specs.Truth.{targets}
use Rattle.ul_merge.specs.Rows.{aim_rows, aims_at}
use Rattle.ul_merge.proofs.Walks.{walk_on}
use Rattle.ul_merge.proofs.targets.aims_of.Goals as goal

pub loop-place-preserved : goal.loop-place-preserved
loop-place-preserved c = walk_on (λ i rs. aim_rows i (map (λ q. q.now) rs)) (λ i r. aims_at i (targets r.now)) (λ i r rs. refl) _ _ _ _ _ _ c.loop-place-test.true c.index-requirements-place.is c.in_ok-put_targets.ensures c.loop-place.invariant
