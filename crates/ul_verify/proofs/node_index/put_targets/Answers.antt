use Rattle.std.proofs.Common.{refl}
use Rattle.ul_verify.proofs.IndexFacts.{base_and_extras}
use Rattle.ul_verify.proofs.node_index.put_targets.Goals as goal

pub returns : goal.returns
returns c = base_and_extras c.args.requirement.now c.name_of-name.result.now c.extras_of-extras.result.now _ _ _ _ _ c.name_of-name.ensures c.extras_of-extras.ensures refl c.in_ok-push.ensures.items c.in_ok-put_extras.ensures
