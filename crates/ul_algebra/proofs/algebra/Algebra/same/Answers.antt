use Rattle.std.proofs.Common.{ap, sym, ◌∙◌}
use Rattle.ul_nodes.specs.Apply.{same as same_plain}
use Rattle.ul_tree.specs.Values.{tree_holds}
use Rattle.ul_nodes.proofs.ForCallers.{same_true, same_itself}
use Rattle.ul_tree.proofs.ForCallers.{one_truth_one_tree}
use Rattle.ul_algebra.specs.Spelled.{tree_of}
use Rattle.ul_algebra.proofs.Decoded.{same_of}
use Rattle.ul_algebra.proofs.algebra.Algebra.same.Goals as goal

pub returns-clause-tree : goal.returns-clause-tree
returns-clause-tree c = same_of c.args.first.now c.args.second.now c.same.result c.requires.a.reduced c.same.ensures.0 c.same.ensures.1

pub returns-clause-truth : goal.returns-clause-truth
returns-clause-truth c =
    let a = tree_of c.args.first.now in
    let b = tree_of c.args.second.now in
    let e = returns-clause-tree c in (
      (λ t w x iw ix. ap (λ z. tree_holds z w x) (same_true a b (sym e ∙ t))),
      λ f. e ∙ ap (same_plain a) (sym (one_truth_one_tree a b c.requires.a.reduced c.requires.b.reduced (λ w x iw ascii ix. f w x iw ix))) ∙ same_itself a,
    )
