use Rattle.std.proofs.Common.{sym, ◌∙◌}
use Rattle.ul_tree.specs.Views.{tree_view}
use Rattle.ul_tree.proofs.ForCallers.{not_false_is, region_tree}
use Rattle.ul_project.specs.Headline.{supported_by}
use Rattle.ul_project.proofs.ProjectRegions.{is_nowhere, is_project}
use Rattle.ul_project.proofs.reading.project_of.Goals as goal

pub returns-then-is_false : goal.returns-then-is_false
returns-then-is_false c =
    is_nowhere c.args.file (tree_view c.in_ok-file.region) (sym c.is_false.ensures ∙ c.if-is_false.true) (rw c.in_ok-file.ensures.1 at c.region_of-region.ensures)

pub project_with-requires-clause-region : goal.project_with-requires-clause-region
project_with-requires-clause-region c =
    region_tree (tree_view c.in_ok-file.region) (supported_by c.args.file) (rw c.in_ok-file.ensures.1 at c.region_of-region.ensures)

pub returns : goal.returns
returns c =
    is_project c.args.file (tree_view c.in_ok-file.region) c.in_ok-project.project (rw c.in_ok-file.ensures.0 at c.in_ok-project.ensures)
    (rw c.in_ok-file.ensures.1 at c.region_of-region.ensures) (not_false_is (tree_view c.in_ok-file.region) (sym c.is_false.ensures ∙ c.if-is_false.false))
