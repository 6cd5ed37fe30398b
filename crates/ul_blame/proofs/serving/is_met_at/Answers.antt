use Rattle.std.proofs.Common.{◌∙◌, sym}
use Rattle.ul_blame.specs.Choices.{chosen}
use Rattle.ul_blame.proofs.Chosen.{met_here, past_met, stands_here, unset_met}
use Rattle.ul_blame.proofs.serving.is_met_at.Goals as goal

pub is_met-requires : goal.is_met-requires
is_met-requires c = stands_here c.args.problem.now c.args.all.now c.args.place _ c.nodes.ensures.whole c.requires c.if-place-all.false

pub returns-then-place-all : goal.returns-then-place-all
returns-then-place-all c = λ _. past_met c.args.problem.now (chosen c.args.choice.now) c.args.flags.now c.args.all.now c.args.place c.if-place-all.true

pub returns-then-flag_at : goal.returns-then-flag_at
returns-then-flag_at c = λ t need at f. met_here c.args.problem.now (chosen c.args.choice.now) c.args.all.now c.args.place _ need (c.is_met.ensures t) at

pub returns : goal.returns
returns c = λ _. unset_met c.args.problem.now (chosen c.args.choice.now) c.args.flags.now c.args.all.now c.args.place (sym c.flag_at.ensures ∙ c.if-flag_at.false)
