use Rattle.std.proofs.Common.{◌∙◌, sym, ap}
use Rattle.std.specs.Prelude.{is_some, not}
use Rattle.ul_blame.specs.Choices.{chosen}
use Rattle.ul_blame.proofs.Chosen.{roots_all, roots_more}
use Rattle.ul_blame.proofs.serving.has_roots.Goals as goal

pub loop-root-preserved : goal.loop-root-preserved
loop-root-preserved c =
    roots_more (chosen c.args.choice.now) c.args.roots.now c.loop-root.root-index _ c.loop-root.invariant
    (ap is_some (sym c.choice_at.ensures) ∙ (c.is_none.ensures ∙ ap not c.if-is_none.false))

pub returns : goal.returns
returns c = λ _. roots_all (chosen c.args.choice.now) c.args.roots.now c.loop-root.root-index c.loop-root-test.false c.loop-root.invariant
