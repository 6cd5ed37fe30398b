use Rattle.std.proofs.Common.{sym, refl, ◌∙◌, false}
use Rattle.ul_version.specs.Fields.{plain}
use Rattle.ul_specifier.proofs.Public.{own-meets, plain-own, public-meets}
use Rattle.ul_specifier.proofs.clause.Clause.meets_plain.Goals as goal

pub returns-then-has_local : goal.returns-then-has_local
returns-then-has_local c =
    c.meets_own.ensures
    ∙ rw (← c.self.view_is)
    (own-meets _ (plain c.args.release.now) false c.self.invariant (sym c.if-has_local.ensures) (plain-own c.args.release.now _ (sym c.if-has_local.ensures)))

pub returns : goal.returns
returns c =
    c.meets_public.ensures
    ∙ rw (c.plain.ensures, ← c.self.view_is) (public-meets _ (plain c.args.release.now) false (sym c.if-has_local.ensures) refl)
