use Rattle.std.proofs.Common.{◌∙◌, sym}
use Rattle.ul_index.proofs.UsableReleases.{behind_new, behind_old}
use Rattle.ul_index.proofs.documents.next_release.Goals as goal

pub returns-else-new : goal.returns-else-new
returns-else-new c earlier h =
    let t = (rw c.in_ok-entry.ensures.1 at c.is_new-new.ensures) earlier h in (c.refused.ensures ∙ behind_old earlier c.args.entry (sym t.0 ∙ c.if-new.false), t.1)

pub returns-then-new : goal.returns-then-new
returns-then-new c earlier h =
    let t = (rw c.in_ok-entry.ensures.1 at c.is_new-new.ensures) earlier h in
    (rw c.in_ok-entry.ensures.0 at c.release.ensures ∙ behind_new earlier c.args.entry (sym t.0 ∙ c.if-new.true), t.1)
