use Rattle.std.proofs.Common.{refl}
use Rattle.ul_merge.proofs.Gathers.{opens}
use Rattle.ul_merge.proofs.gathering.open_run.Goals as goal

pub returns : goal.returns
returns g c = opens g.K.Key.cmp _ _ _ _ _ _ c.in_ok-push.ensures.items refl c.new-values.ensures.items c.in_ok-extend_from_slice.ensures.items c.as_slice.ensures.value
