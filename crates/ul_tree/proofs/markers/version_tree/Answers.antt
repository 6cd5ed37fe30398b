use Rattle.std.proofs.Common.{ap, ◌∙◌}
use Rattle.std.proofs.lemmas.Result.{IfOk-weaker}
use Rattle.ul_version.specs.Fields.{plain}
use Rattle.ul_specifier.specs.Meaning.{meets_clause}
use Rattle.ul_comparison.specs.Truth.{equal_to, python_release}
use Rattle.ul_base.proofs.ForCallers.{made_holds}
use Rattle.ul_tree.proofs.markers.version_tree.Goals as goal

pub returns-clause-truth : goal.returns-clause-truth
returns-clause-truth c =
    IfOk-weaker c.made_from.result _ _
    (λ tree made w x h.
    made_holds c.clause_tree.result tree _ made c.clause_tree.ensures.truth w x h ∙ ap (λ V. meets_clause (equal_to V) (plain (python_release c.args.full w))) c.in_ok-copy.ensures)
    c.made_from.ensures

pub returns-clause-reduced : goal.returns-clause-reduced
returns-clause-reduced c = IfOk-weaker c.made_from.result _ _ (λ tree made. made_holds c.clause_tree.result tree _ made c.clause_tree.ensures.reduced) c.made_from.ensures
