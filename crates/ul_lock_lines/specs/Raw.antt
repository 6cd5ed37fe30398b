-- The bytes of each line.
use Rattle.std.specs.Prelude.{ℕ, List, [], ◌∷◌, ◌++◌, Option, Some, None, codes}
use Rattle.ul_lock_lines.specs.declared.lines.Edition.{Edition}
use Rattle.ul_lock_lines.specs.declared.lines.Edition.TheVariants.{First as one, Second as two}
use Rattle.ul_lock_lines.specs.declared.lines.RawFile.{RawFile}
use Rattle.ul_lock_lines.specs.declared.lines.RawEdge.{RawEdge}
use Rattle.ul_lock_lines.specs.declared.lines.RawLine.{RawLine}
use Rattle.ul_lock_lines.specs.declared.lines.RawLine.TheVariants.{First as raw_first, Root as raw_root, Supported as raw_supported, Item as raw_item, Close as raw_close, Gap as raw_gap, Entry as raw_entry, Name as raw_name, Version as raw_version, File as raw_file, Edge as raw_edge, Table as raw_table, Opens as raw_opens, Bare as raw_bare}

-- `KEY = REST`
abbrev pub keyed : List ℕ → List ℕ → List ℕ
keyed key rest = key ++ 32 ∷ 61 ∷ 32 ∷ rest

-- a text in quotes, and what stands behind
abbrev pub quoted : List ℕ → List ℕ → List ℕ
quoted text rest = 34 ∷ (text ++ 34 ∷ rest)

-- a part that may be left out
abbrev pub part : List ℕ → Option (List ℕ) → List ℕ → List ℕ
part front None rest = rest
part front (Some text) rest = front ++ quoted text rest

-- the end of an edge's or a file's line
abbrev pub end_text : List ℕ
end_text = codes " }," ++ 10 ∷ []

-- the bytes of an edge's line
abbrev pub edge_text : RawEdge → List ℕ
edge_text e =
    codes "    { name = " ++ quoted e.name (codes ", version = " ++ quoted e.version
    (part (codes ", extra = ") e.extra (part (codes ", marker = ") e.marker end_text)))

-- the bytes of a file's line
abbrev pub file_text : RawFile → List ℕ
file_text f = codes "    { file = " ++ quoted f.file (codes ", hash = \"sha256:" ++ (f.hash ++ 34 ∷ end_text))

-- the number of a version of the format, to the end of its line
abbrev pub edition_text : Edition → List ℕ
edition_text one = 49 ∷ 10 ∷ []
edition_text two = 50 ∷ 10 ∷ []

-- the bytes of a line of texts
abbrev pub spell_raw : RawLine → List ℕ
spell_raw (raw_first e) = keyed (codes "version") (edition_text e)
spell_raw (raw_root t) = keyed (codes "root") (quoted t (10 ∷ []))
spell_raw (raw_supported t) = keyed (codes "supported-markers") (quoted t (10 ∷ []))
spell_raw (raw_item t) = codes "    " ++ quoted t (44 ∷ 10 ∷ [])
spell_raw raw_close = 93 ∷ 10 ∷ []
spell_raw raw_gap = 10 ∷ []
spell_raw raw_entry = codes "[[package]]" ++ 10 ∷ []
spell_raw (raw_name t) = keyed (codes "name") (quoted t (10 ∷ []))
spell_raw (raw_version t) = keyed (codes "version") (quoted t (10 ∷ []))
spell_raw (raw_file f) = file_text f
spell_raw (raw_edge e) = edge_text e
spell_raw raw_table = codes "[package.optional-dependencies]" ++ 10 ∷ []
spell_raw (raw_opens t) = keyed t (91 ∷ 10 ∷ [])
spell_raw (raw_bare t) = keyed t (91 ∷ 93 ∷ 10 ∷ [])
