-- The project has one version, where it is a pre-release too.
use Rattle.std.proofs.Common.{◌≡◌, ◌∙◌, List, length, ap}
use Rattle.ul_base.specs.declared.node.Node.{Node}
use Rattle.ul_version.specs.Fields.{Fields}
use Rattle.ul_index.specs.Catalogs.{Packages}
use Rattle.ul_index.specs.Eligible.{eligible}
use Rattle.ul_index.proofs.ForCallers.{own_eligible}
use Rattle.ul_prepared.specs.Project.{IsProjectOf}

-- so there is one version to take
pub project_single : (c : Packages) (starts : List Node) (is : IsProjectOf c starts)
    → length (eligible c is.project.name) ≡ 1
project_single c starts is =
    ap (λ (z : Packages). length (eligible z is.project.name)) is.first
    ∙ ap (λ (vs : List Fields). length vs) (own_eligible is.project is.others is.release is.one is.kept)
