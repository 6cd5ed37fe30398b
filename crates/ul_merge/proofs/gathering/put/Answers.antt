use Rattle.std.proofs.Common.{inl, inr}
use Rattle.std.proofs.lemmas.Result.{on_ok_weaker}
use Rattle.ul_merge.proofs.gathering.put.Goals as goal

pub returns-in-Some : goal.returns-in-Some
returns-in-Some g c = on_ok_weaker c.grow_group.result (λ h. inr h) c.grow_group.ensures

pub returns-in-None : goal.returns-in-None
returns-in-None g c = on_ok_weaker c.open_group.result (λ h. inl h) c.open_group.ensures
