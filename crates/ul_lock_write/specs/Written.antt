-- The text of a lock, part by part, as it is written.
use Rattle.std.specs.Prelude.{ℕ, List, [], ◌∷◌, ◌++◌, flat_map, cond, codes, Option, Some, None}
use Rattle.ul_version.specs.Texts.{version_text}
use Rattle.ul_nodes.specs.Plain.{Plain}
use Rattle.ul_requirement.specs.Fields.{FileFields}
use Rattle.ul_lock.specs.declared.parts.Edge.{Edge}
use Rattle.ul_lock.specs.declared.parts.Extra.{Extra}
use Rattle.ul_lock.specs.declared.parts.Locked.{Locked}
use Rattle.ul_lock.specs.declared.parts.Lock.{Lock}
use Rattle.ul_lock.specs.Region.{is_true}
use Rattle.ul_lock_write.specs.Sheet.{forks_key, files_key, edges_key}
use Rattle.ul_lock_lines.specs.Raw.{keyed, quoted, edge_text, file_text}
use Rattle.ul_lock_lines.specs.Text.{fork_line, marker_line, raw_edge_of, raw_file_of}

-- a text behind its front, where there is one
abbrev pub written : List ℕ → Option (List ℕ) → List ℕ
written front None = []
written front (Some text) = front ++ text

-- the line of an edge
unfoldable pub edge_bytes : Edge → List ℕ
edge_bytes e = edge_text (raw_edge_of e)

-- the line of a file
unfoldable pub file_bytes : FileFields → List ℕ
file_bytes f = file_text (raw_file_of f)

-- a list of edges behind its key
abbrev pub list_text : List ℕ → List Edge → List ℕ
list_text key es = keyed key (91 ∷ 10 ∷ []) ++ (flat_map edge_bytes es ++ 93 ∷ 10 ∷ [])

-- a package's edges, if it has any
abbrev pub edges_text : List Edge → List ℕ
edges_text [] = []
edges_text (e ∷ es) = list_text edges_key (e ∷ es)

-- a package's files, if it has any
abbrev pub files_text : List FileFields → List ℕ
files_text [] = []
files_text (f ∷ fs) = keyed files_key (91 ∷ 10 ∷ []) ++ (flat_map file_bytes (f ∷ fs) ++ 93 ∷ 10 ∷ [])

-- an extra: its name and its edges
abbrev pub listed_text : List ℕ → List Edge → List ℕ
listed_text key [] = keyed key (91 ∷ 93 ∷ 10 ∷ [])
listed_text key (e ∷ es) = list_text key (e ∷ es)

-- the lines of an extra
unfoldable pub extra_text : Extra → List ℕ
extra_text x = listed_text x.name x.edges

-- what stands above the extras
abbrev pub table_front : List ℕ
table_front = 10 ∷ codes "[package.optional-dependencies]" ++ 10 ∷ []

-- a package's extras, if it has any
abbrev pub table_text : List Extra → List ℕ
table_text [] = []
table_text (x ∷ xs) = table_front ++ flat_map extra_text (x ∷ xs)

-- what stands above a package
abbrev pub entry_front : List ℕ
entry_front = 10 ∷ codes "[[package]]" ++ 10 ∷ []

-- the lines of a package
unfoldable pub block_text : Locked → List ℕ
block_text b = entry_front ++ (keyed (codes "name") (quoted b.name (10 ∷ []))
    ++ (keyed (codes "version") (quoted (version_text b.version) (10 ∷ []))
    ++ (files_text b.files ++ (edges_text b.edges ++ table_text b.extras))))

-- the line of a leaf
unfoldable pub item_text : Plain → List ℕ
item_text m = codes "    " ++ quoted (fork_line m) (44 ∷ 10 ∷ [])

-- the leaves, if there are any
abbrev pub forks_text : List Plain → List ℕ
forks_text [] = []
forks_text (m ∷ ms) = keyed forks_key (91 ∷ 10 ∷ []) ++ (flat_map item_text (m ∷ ms) ++ 93 ∷ 10 ∷ [])

-- the supported region, if it is not all worlds
abbrev pub supported_text : Plain → List ℕ
supported_text m = cond (is_true m) [] (keyed (codes "supported-markers") (quoted (marker_line m) (10 ∷ [])))

-- the lines above the packages
abbrev pub head_text : Lock → List ℕ
head_text l = (codes "version = 2" ++ 10 ∷ [])
    ++ (keyed (codes "root") (quoted l.root (10 ∷ [])) ++ (supported_text l.supported ++ forks_text l.forks))
