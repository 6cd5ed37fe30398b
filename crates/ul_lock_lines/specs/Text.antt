-- The text of each line, and which values a line may have.
use Rattle.std.specs.Prelude.{◌≡◌, ℕ, List, [], ◌∷◌, true, false, cond, ◌==◌, Option, Some, None, if◌then◌else◌}
use Rattle.ul_base.specs.Names.{IsNormalName}
use Rattle.ul_version.specs.Fields.{IsVersion}
use Rattle.ul_version.specs.Texts.{version_text}
use Rattle.ul_marker_text.specs.MarkerOfText.{is_readable}
use Rattle.ul_marker_text.specs.MarkerText.{marker_text}
use Rattle.ul_nodes.specs.Plain.{Plain}
use Rattle.ul_requirement.specs.Fields.{FileFields, IsFile}
use Rattle.ul_lock.specs.declared.parts.Edge.{Edge}
use Rattle.ul_lock_lines.specs.declared.lines.Line.{Line}
use Rattle.ul_lock_lines.specs.declared.lines.Line.TheVariants.{First as first, Root as root, Supported as supported, Item as item, Close as close, Gap as gap, Entry as entry, Name as name, Version as version, File as file, Edge as edge, Table as table, Opens as opens, Bare as bare}
use Rattle.ul_lock_lines.specs.declared.lines.RawFile.{RawFile}
use Rattle.ul_lock_lines.specs.declared.lines.RawEdge.{RawEdge}
use Rattle.ul_lock_lines.specs.declared.lines.RawLine.{RawLine}
use Rattle.ul_lock_lines.specs.declared.lines.RawLine.TheVariants.{First as raw_first, Root as raw_root, Supported as raw_supported, Item as raw_item, Close as raw_close, Gap as raw_gap, Entry as raw_entry, Name as raw_name, Version as raw_version, File as raw_file, Edge as raw_edge, Table as raw_table, Opens as raw_opens, Bare as raw_bare}
use Rattle.ul_lock.specs.Region.{is_true, IsRegion}
use Rattle.ul_lock.specs.WellFormed.{IsEdge}
use Rattle.ul_lock_lines.specs.Raw.{spell_raw}

-- each quote behind a backslash
abbrev pub escaped : List ℕ → List ℕ
escaped [] = []
escaped (x ∷ xs) = if x == 34 then 92 ∷ 34 ∷ escaped xs else x ∷ escaped xs

-- MARKER, in a line of its own
abbrev pub marker_line : Plain → List ℕ
marker_line m = escaped (marker_text m)

-- MARKER or `*`
abbrev pub fork_line : Plain → List ℕ
fork_line m = cond (is_true m) (42 ∷ []) (marker_line m)

-- MARKER of an edge, where it isn't always true
abbrev pub marker_part : Plain → Option (List ℕ)
marker_part m = cond (is_true m) None (Some (marker_line m))

-- the texts of an edge
abbrev pub raw_edge_of : Edge → RawEdge
raw_edge_of e =
    record {
      name = e.target.name;
      version = version_text e.version;
      extra = e.target.extra;
      marker = marker_part e.marker;
    }

-- the texts of a file
abbrev pub raw_file_of : FileFields → RawFile
raw_file_of f = record { file = f.file; hash = f.sha256 }

-- a line as texts
abbrev pub raw_of : Line → RawLine
raw_of (first e) = raw_first e
raw_of (root n) = raw_root n
raw_of (supported m) = raw_supported (marker_line m)
raw_of (item m) = raw_item (fork_line m)
raw_of close = raw_close
raw_of gap = raw_gap
raw_of entry = raw_entry
raw_of (name n) = raw_name n
raw_of (version v) = raw_version (version_text v)
raw_of (file f) = raw_file (raw_file_of f)
raw_of (edge e) = raw_edge (raw_edge_of e)
raw_of table = raw_table
raw_of (opens n) = raw_opens n
raw_of (bare n) = raw_bare n

-- the bytes of a line
unfoldable pub spell : Line → List ℕ
spell l = spell_raw (raw_of l)

-- ---- which values a line may have

-- a region whose text is read: no path of its tree has too many nodes
pub record IsReadRegion (m : Plain) : Type 0 where
  pub region : IsRegion m
  pub readable : is_readable m ≡ true

-- what a line may say
abbrev pub Fit : Line → Type 0
Fit (root n) = IsNormalName n
Fit (supported m) = IsReadRegion m × (is_true m ≡ false)
Fit (item m) = IsReadRegion m
Fit (name n) = IsNormalName n
Fit (version v) = IsVersion v
Fit (file f) = IsFile f
Fit (edge e) = IsEdge e × (is_readable e.marker ≡ true)
Fit (opens n) = IsNormalName n
Fit (bare n) = IsNormalName n
Fit l = Unit {0}
