use Rattle.std.proofs.Common.{inr}
use Rattle.std.proofs.lemmas.Result.{on_ok_weaker}
use Rattle.ul_merge.proofs.Gathers.{put_behind, put_within}
use Rattle.ul_merge.proofs.gathering.put_run.Goals as goal

pub returns-then-is_above : goal.returns-then-is_above
returns-then-is_above g c = on_ok_weaker c.open_run.result (λ h. put_behind g.K.Key.cmp _ _ _ _ _ c.as_slice.ensures.value c.if-is_above.true c.is_above.ensures h) c.open_run.ensures

pub grow_run-requires : goal.grow_run-requires
grow_run-requires g c = put_within g.K.Key.cmp _ _ _ _ c.as_slice.ensures.value c.if-is_above.false c.is_above.ensures

pub returns : goal.returns
returns g c = on_ok_weaker c.grow_run.result (λ h. inr h) c.grow_run.ensures
