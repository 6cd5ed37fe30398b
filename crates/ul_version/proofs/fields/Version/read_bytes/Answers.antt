use Rattle.std.proofs.Common.{sym}
use Rattle.ul_version.specs.Reading.{lowercase_text}
use Rattle.ul_version.proofs.Bounds.{parts-version}
use Rattle.ul_version.proofs.fields.Version.read_bytes.Goals as goal

pub invariant_of-result : goal.invariant_of-result
invariant_of-result c =
    parts-version (lowercase_text c.trimmed.result.now) _ _ _ _ _ _ _ _ _ _ _ _ c.after_v-input.ensures (sym c.in-Some.ensures) c.in_ok-release.ensures (sym c.in-Some-pre.ensures)
    (sym c.in-Some-post.ensures) (sym c.in-Some-dev.ensures) c.in_ok-local.ensures

pub returns-clause-valid : goal.returns-clause-valid
returns-clause-valid c = invariant_of-result c
