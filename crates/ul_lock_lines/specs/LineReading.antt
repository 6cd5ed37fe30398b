-- Reading one line.
use Rattle.std.specs.Prelude.{ℕ, List, [], ◌∷◌, ◌++◌, Bool, cond, Option, Some, None, option_and_then, option_map, codes, bytes_eq, ◌==◌, if◌then◌else◌}
use Rattle.ul_base.specs.Names.{name_of}
use Rattle.ul_version.specs.Reading.{version_of}
use Rattle.ul_version.specs.Texts.{version_text}
use Rattle.ul_nodes.specs.Plain.{Plain}
use Rattle.ul_version.specs.Fields.{Fields}
use Rattle.ul_requirement.specs.Fields.{is_file_name, is_digest}
use Rattle.ul_lines.specs.Pieces.{strip, until, inside, inner_and_rest, optional_part}
use Rattle.ul_lock_lines.specs.declared.lines.Edition.TheVariants.{First as one, Second as two}
use Rattle.ul_lock_lines.specs.declared.lines.Line.{Line}
use Rattle.ul_lock_lines.specs.declared.lines.Line.TheVariants.{First as first, Root as root, Supported as supported, Item as item, Close as close, Gap as gap, Entry as entry, Name as name, Version as version, File as file, Edge as edge, Table as table, Opens as opens, Bare as bare}
use Rattle.ul_lock_lines.specs.declared.lines.RawFile.{RawFile}
use Rattle.ul_lock_lines.specs.declared.lines.RawEdge.{RawEdge}
use Rattle.ul_lock_lines.specs.declared.lines.RawLine.{RawLine}
use Rattle.ul_lock_lines.specs.declared.lines.RawLine.TheVariants.{First as raw_first, Root as raw_root, Supported as raw_supported, Item as raw_item, Close as raw_close, Gap as raw_gap, Entry as raw_entry, Name as raw_name, Version as raw_version, File as raw_file, Edge as raw_edge, Table as raw_table, Opens as raw_opens, Bare as raw_bare}
use Rattle.std.specs.Char.{is_ascii}
use Rattle.std.specs.List.{list_all}
use Rattle.ul_marker_text.specs.MarkerOfText.{marker_of_text}
use Rattle.ul_lock.specs.Region.{all_worlds}
use Rattle.ul_lock_lines.specs.Raw.{end_text}
use Rattle.ul_lock_lines.specs.Text.{escaped}

-- the line, where the test holds
abbrev pub where_is : Bool → RawLine → Option RawLine
where_is b l = cond b (Some l) None

-- the first line, or else the second
abbrev pub or_else : Option RawLine → Option RawLine → Option RawLine
or_else None o = o
or_else (Some l) o = Some l

-- ---- kinds of line

-- a line that has one spelling: the blank one, a list's end, a package's head, the head of its extras
abbrev pub fixed_of : List ℕ → Option RawLine
fixed_of b =
    if bytes_eq b (10 ∷ []) then Some raw_gap
    else (if bytes_eq b (93 ∷ 10 ∷ []) then Some raw_close
    else (if bytes_eq b (codes "[[package]]" ++ 10 ∷ []) then Some raw_entry
    else (if bytes_eq b (codes "[package.optional-dependencies]" ++ 10 ∷ []) then Some raw_table else None)))

-- the line of a leaf
abbrev pub item_of : List ℕ → Option RawLine
item_of b = option_map raw_item (inside (codes "    \"") (34 ∷ 44 ∷ 10 ∷ []) b)

-- a text in quotes behind the front, and what follows
abbrev pub quoted_at : List ℕ → List ℕ → Option (List ℕ × List ℕ)
quoted_at front b = inner_and_rest (front ++ 34 ∷ []) 34 b

-- a file's line behind its name: the sum to the end
abbrev pub file_of : List ℕ × List ℕ → Option RawLine
file_of f =
    option_map (λ h. raw_file (record { file = f.0; hash = h }))
    (inside (codes ", hash = \"sha256:") (34 ∷ end_text) f.1)

-- the line of a file
abbrev pub file_line_of : List ℕ → Option RawLine
file_line_of b = option_and_then file_of (quoted_at (codes "    { file = ") b)

-- such a text, where the front is there
abbrev pub part_of : List ℕ → List ℕ → Option (Option (List ℕ) × List ℕ)
part_of front b = optional_part (front ++ 34 ∷ []) 34 b

-- a text that is there
abbrev pub some_text : List ℕ → Option (List ℕ)
some_text t = Some t

-- a marker to the end of the line, or none
abbrev pub marker_end : List ℕ → Option (Option (List ℕ))
marker_end b =
    if bytes_eq b end_text then Some None else option_map some_text (inside (codes ", marker = \"") (34 ∷ end_text) b)

-- an edge's line of these texts
abbrev pub edge_end : List ℕ → List ℕ → Option (List ℕ) → Option (List ℕ) → RawLine
edge_end n v x m = raw_edge (record { name = n; version = v; extra = x; marker = m })

-- an edge's line behind its extra
abbrev pub after_extra : List ℕ → List ℕ → Option (List ℕ) × List ℕ → Option RawLine
after_extra n v x = option_map (edge_end n v x.0) (marker_end x.1)

-- the same behind its version
abbrev pub after_version : List ℕ → List ℕ × List ℕ → Option RawLine
after_version n v = option_and_then (after_extra n v.0) (part_of (codes ", extra = ") v.1)

-- the same behind its target's name
abbrev pub after_name : List ℕ × List ℕ → Option RawLine
after_name n = option_and_then (after_version n.0) (quoted_at (codes ", version = ") n.1)

-- the line of an edge
abbrev pub edge_of : List ℕ → Option RawLine
edge_of b = option_and_then after_name (quoted_at (codes "    { name = ") b)

-- a line of a key and a text in quotes
abbrev pub pair_of : List ℕ → List ℕ → Option RawLine
pair_of k t =
    if bytes_eq k (codes "root") then Some (raw_root t)
    else (if bytes_eq k (codes "supported-markers") then Some (raw_supported t)
    else (if bytes_eq k (codes "name") then Some (raw_name t)
    else (if bytes_eq k (codes "version") then Some (raw_version t) else None)))

-- a line of a key and what stands behind its sign
abbrev pub value_of : List ℕ → List ℕ → Option RawLine
value_of k r =
    if bytes_eq r (91 ∷ 10 ∷ []) then Some (raw_opens k)
    else (if bytes_eq r (91 ∷ 93 ∷ 10 ∷ []) then Some (raw_bare k)
    else (if bytes_eq r (49 ∷ 10 ∷ []) then where_is (bytes_eq k (codes "version")) (raw_first one)
    else (if bytes_eq r (50 ∷ 10 ∷ []) then where_is (bytes_eq k (codes "version")) (raw_first two)
    else option_and_then (pair_of k) (inside (34 ∷ []) (34 ∷ 10 ∷ []) r))))

-- the same from the sign on
abbrev pub key_end : List ℕ × List ℕ → Option RawLine
key_end k = option_and_then (value_of k.0) (strip (61 ∷ 32 ∷ []) k.1)

-- a line that begins with a key
abbrev pub keyed_of : List ℕ → Option RawLine
keyed_of b = option_and_then key_end (until 32 b)

-- the texts of a line
unfoldable pub candidate : List ℕ → Option RawLine
candidate b = or_else (fixed_of b) (or_else (item_of b) (or_else (edge_of b) (or_else (file_line_of b) (keyed_of b))))

-- ---- values

-- the text, if it is ASCII
abbrev pub ascii_at : List ℕ → Option (List ℕ)
ascii_at text = if list_all is_ascii text then Some text else None

-- the name, if it is this text
abbrev pub kept_name : List ℕ → List ℕ → Option (List ℕ)
kept_name t n = cond (bytes_eq n t) (Some n) None

-- the name whose normal text this is
unfoldable pub name_at : List ℕ → Option (List ℕ)
name_at t = option_and_then (kept_name t) (option_and_then name_of (ascii_at t))

-- the version, if this is its normal text
abbrev pub kept_version : List ℕ → Fields → Option Fields
kept_version t f = cond (bytes_eq (version_text f) t) (Some f) None

-- the version whose normal text this is
unfoldable pub version_at : List ℕ → Option Fields
version_at t = option_and_then (kept_version t) (version_of t)

-- without backslashes
abbrev pub unescaped : List ℕ → List ℕ
unescaped [] = []
unescaped (x ∷ xs) = if x == 92 then unescaped xs else x ∷ unescaped xs

-- the tree whose text this is, behind backslashes
unfoldable pub marker_at : List ℕ → Option Plain
marker_at t = if bytes_eq (escaped (unescaped t)) t then marker_of_text (unescaped t) else None

-- the same, or `*`
unfoldable pub fork_at : List ℕ → Option Plain
fork_at t = if bytes_eq t (42 ∷ []) then Some all_worlds else marker_at t

-- no name, or the name of a text
abbrev pub name_option : Option (List ℕ) → Option (Option (List ℕ))
name_option None = Some None
name_option (Some t) = option_map some_text (name_at t)

-- all worlds, or the tree of a text
abbrev pub marker_option : Option (List ℕ) → Option Plain
marker_option None = Some all_worlds
marker_option (Some t) = marker_at t

-- an edge's line of these values
abbrev pub edge_made : List ℕ → Fields → Option (List ℕ) → Plain → Line
edge_made n v x m = edge (record { target = record { name = n; extra = x }; version = v; marker = m })

-- the same, with the marker still a text
abbrev pub edge_with_extra : List ℕ → Fields → Option (List ℕ) → Option (List ℕ) → Option Line
edge_with_extra n v m x = option_map (edge_made n v x) (marker_option m)

-- the same, with the extra a text too
abbrev pub edge_with_version : RawEdge → List ℕ → Fields → Option Line
edge_with_version e n v = option_and_then (edge_with_extra n v e.marker) (name_option e.extra)

-- the same, with the version a text too
abbrev pub edge_with_name : RawEdge → List ℕ → Option Line
edge_with_name e n = option_and_then (edge_with_version e n) (version_at e.version)

-- the values of an edge's line
abbrev pub edge_at : RawEdge → Option Line
edge_at e = option_and_then (edge_with_name e) (name_at e.name)

-- a file of this name and this sum, if they are such
abbrev pub file_made : List ℕ → List ℕ → Option Line
file_made title sum =
    if is_file_name title
    then (if is_digest sum then Some (file (record { file = title; sha256 = sum })) else None) else None

-- a file's line, with the sum still a text
abbrev pub file_with_name : RawFile → List ℕ → Option Line
file_with_name f title = option_and_then (file_made title) (ascii_at f.hash)

-- the values of a file's line
abbrev pub file_at : RawFile → Option Line
file_at f = option_and_then (file_with_name f) (ascii_at f.file)

-- the values of a line's texts
abbrev pub typed : RawLine → Option Line
typed (raw_first e) = Some (first e)
typed (raw_root t) = option_map root (name_at t)
typed (raw_supported t) = option_map supported (marker_at t)
typed (raw_item t) = option_map item (fork_at t)
typed raw_close = Some close
typed raw_gap = Some gap
typed raw_entry = Some entry
typed (raw_name t) = option_map name (name_at t)
typed (raw_version t) = option_map version (version_at t)
typed (raw_file f) = file_at f
typed (raw_edge e) = edge_at e
typed raw_table = Some table
typed (raw_opens t) = option_map opens (name_at t)
typed (raw_bare t) = option_map bare (name_at t)

-- the line that stands there
unfoldable pub line_of : List ℕ → Option Line
line_of b = option_and_then typed (candidate b)
