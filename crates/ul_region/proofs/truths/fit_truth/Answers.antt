use Rattle.std.proofs.Common.{◌≡◌, Ok, true, ap, ◌∙◌}
use Rattle.std.proofs.lemmas.Result.{IfOk-weaker}
use Rattle.ul_base.proofs.ForCallers.{made_holds}
use Rattle.ul_version.specs.Fields.{plain}
use Rattle.ul_specifier.specs.Meaning.{lower_list, meets_list}
use Rattle.ul_algebra.specs.Answers.{IsDiagram}
use Rattle.ul_algebra.specs.Spelled.{tree_of}
use Rattle.ul_tree.specs.TreeFacts.{HoldsByPython, IsTree}
use Rattle.ul_tree.specs.Views.{tree_view}
use Rattle.ul_requirement.specs.Fields.{ReleaseFields}
use Rattle.ul_index.specs.Catalogs.{is_release_fit}
use Rattle.ul_region.specs.Truths.{IsTruth}
use Rattle.ul_region.proofs.TruthFacts.{fit_at}
use Rattle.ul_region.proofs.truths.fit_truth.Goals as goal

pub of_tree-requires : goal.of_tree-requires
of_tree-requires g c = made_holds c.of_python.result c.in_ok-tree.tree IsTree c.in_ok-tree.ensures c.of_python.ensures.reduced

pub returns-clause-truth : goal.returns-clause-truth
returns-clause-truth g c =
    let tree = c.in_ok-tree.tree in
    let h = c.of_tree.new.self in
    let told = made_holds c.of_python.result tree (λ t. HoldsByPython t true (λ release. meets_list c.in_ok-lower.lower (plain release))) c.in_ok-tree.ensures c.of_python.ensures.truth in
    IfOk-weaker c.made_from-2.result (λ d. c.of_tree.result ≡ Ok d) (λ d. IsTruth h d (is_release_fit c.args.release.now))
    (λ d e. fit_at h d c.args.release.now tree _ (made_holds c.of_tree.result d (IsDiagram h) e c.of_tree.ensures.diagram) (made_holds c.of_tree.result d (λ z. tree_of z ≡ tree_view tree) e c.of_tree.ensures.tree)
    (c.in_ok-lower.ensures.bounds ∙ ap (λ (r : ReleaseFields). lower_list r.python) c.release.view_is) told) c.made_from-2.ensures
