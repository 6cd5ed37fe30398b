use Rattle.std.proofs.Common.{sym, ◌∙◌}
use Rattle.ul_specifier.proofs.Public.{own-meets, public-meets}
use Rattle.ul_specifier.proofs.clause.Clause.meets.Goals as goal

pub returns-then-has_local : goal.returns-then-has_local
returns-then-has_local c =
    c.meets_own.ensures
    ∙ rw (← c.self.view_is) (own-meets _ c.args.version.now c.is_eq.result c.self.invariant (sym c.if-has_local.ensures) (rw c.cmp.ensures at c.is_eq.ensures))

pub returns : goal.returns
returns c =
    c.meets_public.ensures
    ∙ rw (c.of.ensures, ← c.self.view_is) (public-meets _ c.args.version.now c.has_local-2.result (sym c.if-has_local.ensures) c.has_local-2.ensures)
