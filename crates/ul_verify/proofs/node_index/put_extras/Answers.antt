use Rattle.std.proofs.Common.{refl}
use Rattle.ul_verify.proofs.IndexFacts.{extras_all, extras_more}
use Rattle.ul_verify.proofs.node_index.put_extras.Goals as goal

pub loop-extra-preserved : goal.loop-extra-preserved
loop-extra-preserved c = extras_more c.args.name.now c.args.place c.args.extras.now c.loop-extra.extra-index _ _ _ _ _ c.loop-extra-test.true c.extra-item.is c.in_ok-push.ensures.items refl c.loop-extra.invariant

pub returns : goal.returns
returns c = extras_all c.args.name.now c.args.place c.args.extras.now c.loop-extra.extra-index _ _ c.loop-extra-test.false c.loop-extra.invariant
