use Rattle.std.proofs.lemmas.Result.{IfOk-weaker}
use Rattle.ul_tree.specs.Values.{value_of}
use Rattle.ul_tree.specs.Views.{tree_view}
use Rattle.ul_tree.proofs.Exists.{simplify_laws}
use Rattle.ul_tree.proofs.simplify.plain_simplify.Goals as goal

pub returns-clause-reduced : goal.returns-clause-reduced
returns-clause-reduced c =
    IfOk-weaker c.simplified.result _ _
    (λ t rule. simplify_laws.reduced (tree_view c.args.whole.now) (tree_view c.args.within.now) (tree_view t) c.requires.whole_reduced c.requires.within_reduced rule)
    c.simplified.ensures

pub returns-clause-agrees : goal.returns-clause-agrees
returns-clause-agrees c =
    IfOk-weaker c.simplified.result _ _
    (λ t rule w x h. simplify_laws.agrees (tree_view c.args.whole.now) (tree_view c.args.within.now) (tree_view t) c.requires.whole_reduced c.requires.within_reduced rule (value_of w x) h)
    c.simplified.ensures
