use Rattle.std.proofs.Common.{◌≡◌, ◌≤◌, ◌∙◌, [], ◌∷◌, ap, length, sym, subst}
use Rattle.ul_project.specs.Fields.{ProjectFields}
use Rattle.ul_load.specs.Conditions.{beginning}
use Rattle.ul_load.specs.Loading.{first_progress, met_within, most_packages}
use Rattle.ul_load.specs.Progressing.{IsProgress}
use Rattle.ul_load.specs.Views.{atoms_view}
use Rattle.ul_load.proofs.Growth.{first_is, first_stands, starts}
use Rattle.ul_load.proofs.progress.Progress.begin.Goals as goal

pub returns-clause-kept : goal.returns-clause-kept
returns-clause-kept c =
    let b = beginning c.args.project.now in
    let one = subst (λ (q : ProjectFields). length q.package.releases ≡ 1) c.project.view_is c.project.invariant.release in
    let is = first_is b c.in_ok-names.names.keys c.in_ok-packages.packages.items (atoms_view c.in_ok-comparisons.comparisons)
    (c.in_ok-names.ensures ∙ ap (λ (q : ProjectFields). (first_progress (beginning q)).names) c.project.view_is)
    (c.in_ok-packages.ensures ∙ ap (λ (q : ProjectFields). q.package ∷ []) c.project.view_is) c.in_ok-comparisons.ensures in
    subst IsProgress (sym is) (starts b one (subst (λ s. length s.names ≤ most_packages) is c.in_ok-check.ensures.names))

pub returns-clause-first : goal.returns-clause-first
returns-clause-first c =
    first_stands c.args.project.now.package _ (c.in_ok-packages.ensures ∙ ap (λ (q : ProjectFields). q.package ∷ []) c.project.view_is)

pub returns-clause-told : goal.returns-clause-told
returns-clause-told c =
    let b = beginning c.args.project.now in
    let is = first_is b c.in_ok-names.names.keys c.in_ok-packages.packages.items (atoms_view c.in_ok-comparisons.comparisons)
    (c.in_ok-names.ensures ∙ ap (λ (q : ProjectFields). (first_progress (beginning q)).names) c.project.view_is)
    (c.in_ok-packages.ensures ∙ ap (λ (q : ProjectFields). q.package ∷ []) c.project.view_is) c.in_ok-comparisons.ensures in
    ap met_within (sym is) ∙ c.in_ok-check.ensures.told
