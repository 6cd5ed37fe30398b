use Rattle.std.proofs.Common.{refl}
use Rattle.ul_merge.proofs.Gathers.{opens}
use Rattle.ul_merge.proofs.gathering.open_group.Goals as goal

pub returns : goal.returns
returns g c = opens g.K.Key.cmp _ _ _ _ _ _ c.in_ok-push-2.ensures.items refl c.new-values.ensures.items c.in_ok-push.ensures.items refl
