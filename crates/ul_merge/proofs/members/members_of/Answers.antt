use Rattle.std.proofs.lemmas.Result.{IfOk-weaker}
use Rattle.ul_merge.proofs.members.members_of.Goals as goal

pub returns : goal.returns
returns c = IfOk-weaker c.groups_of.result _ _ (λ gs are. (c.in_ok-entries.entries.items, c.in_ok-entries.ensures, are)) c.groups_of.ensures
