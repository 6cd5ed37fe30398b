use Rattle.std.proofs.Common.{sym, ◌∙◌}
use Rattle.ul_version.proofs.Orders.{version_cmp-epoch, version_cmp-release, version_cmp-suffix}
use Rattle.ul_version.proofs.public.Public.cmp.Goals as goal

pub returns-then-is_ne : goal.returns-then-is_ne
returns-then-is_ne c =
    rw (← c.self.view_is, ← c.other.view_is)
    (version_cmp-epoch _ _ c.cmp-epochs.result c.cmp-epochs.ensures (sym c.if-is_ne.ensures))

pub returns-then-is_ne-2 : goal.returns-then-is_ne-2
returns-then-is_ne-2 c =
    rw (← c.self.view_is, ← c.other.view_is)
    (version_cmp-release _ _ c.cmp-epochs.result c.cmp_releases-releases.result c.cmp-epochs.ensures (sym c.if-is_ne.ensures)
    c.cmp_releases-releases.ensures (sym c.if-is_ne-2.ensures))

pub returns : goal.returns
returns c =
    rw (← c.self.view_is, ← c.other.view_is)
    ((rw (← c.self.view_is, ← c.other.view_is) at c.cmp_suffixes.ensures)
    ∙ version_cmp-suffix _ _ c.cmp-epochs.result c.cmp_releases-releases.result c.cmp-epochs.ensures (sym c.if-is_ne.ensures)
    c.cmp_releases-releases.ensures (sym c.if-is_ne-2.ensures))
