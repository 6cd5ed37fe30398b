use Rattle.std.proofs.Common.{subst}
use Rattle.ul_blame.specs.Choices.{HasRoots, chosen}
use Rattle.ul_blame.proofs.Chosen.{all_met, choice_serves}
use Rattle.ul_blame.proofs.serving.serves.Goals as goal

pub returns : goal.returns
returns c = λ t.
    choice_serves c.args.problem.now c.args.choice.now c.args.flags.now c.args.all.now c.requires.all
    (subst (HasRoots (chosen c.args.choice.now)) c.roots.ensures.value (c.has_roots.ensures c.if-not-has_roots.false)) (c.are_fit.ensures c.if-not-are_fit.false)
    (all_met c.args.problem.now (chosen c.args.choice.now) c.args.flags.now c.args.all.now c.args.place c.args.kept.now c.requires.kept (c.are_met_at.ensures c.if-not-are_met_at.false)
    (c.are_met_from.ensures t))
