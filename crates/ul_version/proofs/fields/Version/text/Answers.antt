use Rattle.std.proofs.lemmas.List.{append_assoc}
use Rattle.ul_version.specs.Texts.{version_text}
use Rattle.ul_version.proofs.RoundTrip.{version-read, version-text, version-filled}
use Rattle.ul_version.proofs.fields.Version.text.Goals as goal

pub returns-clause-text : goal.returns-clause-text
unfolding version_text
returns-clause-text c =
    rw (
      ← c.self.view_is,
      c.in_ok-push_local.ensures,
      c.in_ok-push_numbered-2.ensures,
      c.in_ok-push_numbered.ensures,
      c.in_ok-push_pre.ensures,
      c.in_ok-push_release.ensures,
      c.in_ok-push_epoch.ensures,
      c.new-text.ensures.bytes,
      c.as_slice.ensures.value,
      c.as_slice-2.ensures.value,
    )
    (simp append_assoc)

pub returns-clause-reads : goal.returns-clause-reads
returns-clause-reads c = rw (returns-clause-text c, ← c.self.view_is) (version-read _ c.self.invariant)

pub returns-clause-plain : goal.returns-clause-plain
returns-clause-plain c = rw (returns-clause-text c, ← c.self.view_is) (version-text _ c.self.invariant)

pub returns-clause-filled : goal.returns-clause-filled
returns-clause-filled c = rw (returns-clause-text c, ← c.self.view_is) (version-filled _ c.self.invariant)
