use Rattle.std.proofs.Common.{refl}
use Rattle.ul_merge.proofs.Gathers.{joins_at}
use Rattle.ul_merge.proofs.gathering.grow_group.Goals as goal

pub returns : goal.returns
returns g c = joins_at g.K.Key.cmp _ _ _ c.index_mut.result.now _ _ c.requires c.index_mut.ensures.value refl c.in_ok-push.ensures.items refl
