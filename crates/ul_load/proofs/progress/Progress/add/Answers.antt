use Rattle.std.proofs.Common.{◌≡◌, ◌≤◌, ap, arith, length, sym, subst}
use Rattle.ul_requirement.specs.Fields.{PackageFields}
use Rattle.ul_load.specs.Loading.{most_packages}
use Rattle.ul_load.specs.Progressing.{IsProgress}
use Rattle.ul_load.specs.Views.{progress_view}
use Rattle.ul_load.proofs.Growth.{grows, keeps_first, ok_then, package_more}
use Rattle.ul_load.proofs.progress.Progress.add.Goals as goal

pub returns-clause-kept : goal.returns-clause-kept
returns-clause-kept c =
    let note = c.in_ok-note.ensures in
    let same : c.found.inside.entries ≡ c.args.found.entries = ap (λ (p : PackageFields). p.entries) c.found.view_is in
    ok_then c.check.result _ _
    (λ names. subst IsProgress (sym note)
    (grows (progress_view c.args.self.now) (c.args.size, c.args.found) c.requires.kept c.requires.next c.requires.is
    (omega (arith, same, c.requires.kept.entries)) (subst (λ s. length s.names ≤ most_packages) note names)))
    c.check.ensures.names

pub returns-clause-first : goal.returns-clause-first
returns-clause-first c =
    ok_then c.check.result _ _
    (λ names. keeps_first (progress_view c.args.self.now) (c.args.size, c.args.found) _ c.in_ok-note.ensures)
    c.check.ensures.names

pub returns-clause-one : goal.returns-clause-one
returns-clause-one c =
    ok_then c.check.result _ _
    (λ names. package_more (progress_view c.args.self.now) (c.args.size, c.args.found) _ c.in_ok-note.ensures)
    c.check.ensures.names
