use Rattle.std.proofs.Common.{arith, refl}
use Rattle.ul_report_judge.proofs.Judged.{front_within, judged_all}
use Rattle.ul_report_judge.proofs.judging.judged.Goals as goal

pub answer_of-requires : goal.answer_of-requires
answer_of-requires c =
    let within = front_within c.args.problem.now c.args.texts.now c.args.named.items c.requires in
    omega (arith, within, c.len-count.ensures, c.args.named.ok)

pub returns : goal.returns
returns c =
    judged_all c.args.problem.now c.args.texts.now c.args.texts.now c.args.named.items c.of-derivation.result c.len-count.result c.accepts-front.result c.answer_of.result
    refl c.of-derivation.ensures c.requires c.accepts-front.ensures (omega (arith, c.len-count.ensures, c.args.named.ok)) c.answer_of.ensures
