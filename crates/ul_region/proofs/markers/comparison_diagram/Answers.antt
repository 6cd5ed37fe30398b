use Rattle.std.proofs.Common.{◌≡◌, Ok, ap, ◌∙◌}
use Rattle.std.proofs.lemmas.Result.{IfOk-weaker}
use Rattle.ul_base.proofs.ForCallers.{made_holds}
use Rattle.ul_comparison.specs.Truth.{marker_holds}
use Rattle.ul_marker.specs.Views.{marker_view}
use Rattle.ul_nodes.specs.Plain.{Plain}
use Rattle.ul_tree.specs.Values.{tree_holds}
use Rattle.ul_tree.specs.Views.{tree_view}
use Rattle.ul_algebra.specs.Answers.{IsDiagram}
use Rattle.ul_algebra.specs.Spelled.{tree_of}
use Rattle.ul_region.specs.Truths.{HoldsAs}
use Rattle.ul_region.proofs.markers.comparison_diagram.Goals as goal

pub returns-clause-diagram : goal.returns-clause-diagram
returns-clause-diagram g c =
    let is = IsDiagram c.of_tree.new.self in
    IfOk-weaker c.made_from.result (λ d. c.of_tree.result ≡ Ok d) is (λ d e. made_holds c.of_tree.result d is e c.of_tree.ensures.diagram) c.made_from.ensures

pub returns-clause-truth : goal.returns-clause-truth
returns-clause-truth g c =
    let tree = c.in_ok-tree.tree in
    IfOk-weaker c.made_from.result (λ d. c.of_tree.result ≡ Ok d) (λ d. HoldsAs d (marker_holds (marker_view c.args.marker.now)))
    (λ d e w x is. ap (λ (u : Plain). tree_holds u w x) (made_holds c.of_tree.result d (λ z. tree_of z ≡ tree_view tree) e c.of_tree.ensures.tree) ∙ c.in_ok-tree.ensures.truth w x is) c.made_from.ensures
