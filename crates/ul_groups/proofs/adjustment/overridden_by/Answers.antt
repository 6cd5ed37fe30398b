use Rattle.std.proofs.Common.{◌∙◌}
use Rattle.ul_project.specs.Extras.{joined_markers}
use Rattle.ul_groups.proofs.adjustment.overridden_by.Goals as goal

pub returns : goal.returns
returns c =
    let q = c.requirement.view_is ∙ c.in_ok-requirement-2.ensures.0 ∙ c.in_ok-requirement.ensures in
    let by = c.by.view_is ∙ (rw c.in_ok-requirement-2.ensures.1 at c.copy-2.ensures) in
    let marker = (rw c.in_ok-kept.ensures.1 at c.joined_markers-marker.ensures) ∙ (λ i. joined_markers (q i).marker (by i).marker) in
    rw c.in_ok-kept.ensures.0
    (λ i. record { name = (q i).name; extras = (q i).extras; specifiers = (by i).specifiers; marker = marker i })
