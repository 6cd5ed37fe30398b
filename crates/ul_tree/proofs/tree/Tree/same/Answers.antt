use Rattle.std.proofs.Common.{ap, ◌∙◌, sym}
use Rattle.ul_nodes.specs.Apply.{same as same_plain}
use Rattle.ul_tree.specs.Views.{tree_view}
use Rattle.ul_nodes.proofs.ForCallers.{same_true, same_itself}
use Rattle.ul_tree.proofs.tree.Tree.same.Goals as goal

pub returns : goal.returns
returns c =
    let a = tree_view c.args.self.now in
    let b = tree_view c.args.other.now in
    (λ h. same_true a b (sym c.same.ensures ∙ h), λ e. c.same.ensures ∙ sym (ap (same_plain a) e) ∙ same_itself a)
