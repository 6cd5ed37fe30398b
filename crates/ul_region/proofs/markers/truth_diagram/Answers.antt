use Rattle.std.proofs.Common.{ap, ◌∙◌}
use Rattle.ul_nodes.specs.Plain.{Plain}
use Rattle.ul_tree.specs.Values.{tree_holds}
use Rattle.ul_tree.proofs.ForCallers.{view_truth}
use Rattle.ul_region.proofs.markers.truth_diagram.Goals as goal

pub returns-clause-truth : goal.returns-clause-truth
returns-clause-truth g c = λ w x is. ap (λ (u : Plain). tree_holds u w x) (c.in_ok-d.ensures.tree ∙ view_truth c.args.value)
