use Rattle.ul_specifier.proofs.Lists.{filled-length}
use Rattle.ul_specifier.proofs.local.has_local.Goals as goal

pub returns : goal.returns
returns c = rw (c.is_empty.ensures, c.as_slice.ensures.value, ← c.version.view_is) (filled-length c.version.inside.local.items)
