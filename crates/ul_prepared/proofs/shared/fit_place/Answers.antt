use Rattle.std.proofs.Common.{Option, ap, subst, sym, ◌∙◌}
use Rattle.std.specs.Borrow.{Bor}
use Rattle.std.specs.Prelude.{MatchOption}
use Rattle.ul_requirement.specs.Fields.{ReleaseFields}
use Rattle.ul_prepared.specs.Shared.{IsFitted}
use Rattle.ul_prepared.specs.declared.shared.Fitted.{Fitted}
use Rattle.ul_prepared.proofs.SharedFacts.{fit_same}
use Rattle.ul_prepared.proofs.shared.fit_place.Goals as goal

pub returns-then-same_specifiers-clause-fit : goal.returns-then-same_specifiers-clause-fit
returns-then-same_specifiers-clause-fit g c =
    let truths = c.args.truths.now.marks.items in
    fit_same c.args.algebra.now truths c.in-Some.before.now.fit c.in-Some.before.now.release.now c.args.release.now
    (sym (ap (λ (r : ReleaseFields). r.python) c.earlier.view_is) ∙ (c.same_specifiers.ensures c.if-same_specifiers.true ∙ ap (λ (r : ReleaseFields). r.python) c.release.view_is))
    (subst (λ (o : Option (Bor Fitted)). MatchOption o (Unit {0}) (λ f. IsFitted c.args.algebra.now truths f.now)) c.in-Some.is c.requires.before)
