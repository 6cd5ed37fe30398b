-- Locks whose text is read back: no path of a marker has too many nodes.
use Rattle.std.specs.Prelude.{◌≡◌, List, true}
use Rattle.ul_lines.specs.Reader.{Each}
use Rattle.ul_nodes.specs.Plain.{Plain}
use Rattle.ul_marker_text.specs.MarkerOfText.{is_readable}
use Rattle.ul_lock.specs.declared.parts.Edge.{Edge}
use Rattle.ul_lock.specs.declared.parts.Extra.{Extra}
use Rattle.ul_lock.specs.declared.parts.Locked.{Locked}
use Rattle.ul_lock.specs.declared.parts.Lock.{Lock}

-- the text of a marker is read
abbrev pub IsReadable : Plain → Type 0
IsReadable m = is_readable m ≡ true

-- those of edges are
abbrev pub AreEdgesReadable : List Edge → Type 0
AreEdgesReadable es = Each (λ e. IsReadable e.marker) es

-- those of extras are
abbrev pub AreExtrasReadable : List Extra → Type 0
AreExtrasReadable xs = Each (λ x. AreEdgesReadable x.edges) xs

-- those of a package are
pub record IsPackageReadable (b : Locked) : Type 0 where
  pub edges : AreEdgesReadable b.edges
  pub extras : AreExtrasReadable b.extras

-- those of a lock are
pub record IsLockReadable (l : Lock) : Type 0 where
  pub supported : IsReadable l.supported
  pub forks : Each IsReadable l.forks
  pub packages : Each IsPackageReadable l.packages
