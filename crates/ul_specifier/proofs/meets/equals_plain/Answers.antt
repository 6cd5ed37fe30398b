use Rattle.std.proofs.Common.{sym, ◌∙◌}
use Rattle.ul_specifier.proofs.Public.{equal_plain-public, equal_plain-own}
use Rattle.ul_specifier.proofs.meets.equals_plain.Goals as goal

pub returns-then-not-has_local : goal.returns-then-not-has_local
returns-then-not-has_local c =
    rw c.cmp.ensures at c.is_eq.ensures
    ∙ rw (c.plain.ensures, c.of.ensures)
    (equal_plain-public c.args.version.now c.args.release.now (sym c.has_local.ensures ∙ c.if-not-has_local.true))

pub returns-else-not-has_local : goal.returns-else-not-has_local
returns-else-not-has_local c =
    rw c.if-not-has_local.false
    (equal_plain-own c.args.version.now c.args.release.now (sym c.has_local.ensures ∙ c.if-not-has_local.false))
