-- A lock in one version of the format, and its lines.
use Rattle.std.specs.Prelude.{ℕ, List, [], ◌∷◌, ◌++◌, map, flat_map, cond, codes}
use Rattle.ul_nodes.specs.Plain.{Plain}
use Rattle.ul_version.specs.Fields.{Fields}
use Rattle.ul_requirement.specs.Fields.{FileFields}
use Rattle.ul_lock.specs.declared.parts.Edge.{Edge}
use Rattle.ul_lock.specs.declared.parts.Extra.{Extra}
use Rattle.ul_lock.specs.declared.parts.Locked.{Locked}
use Rattle.ul_lock_write.specs.declared.sheets.Head.{Head}
use Rattle.ul_lock_write.specs.declared.sheets.Sheet.{Sheet}
use Rattle.ul_lock_lines.specs.declared.lines.Line.{Line}
use Rattle.ul_lock_lines.specs.declared.lines.Line.TheVariants.{First as first, Root as root, Supported as supported, Item as item, Close as close, Gap as gap, Entry as entry, Name as name, Version as version, File as file, Edge as edge, Table as table, Opens as opens, Bare as bare}
use Rattle.ul_lock.specs.Region.{is_true}

-- the key of the leaves
abbrev pub forks_key : List ℕ
forks_key = codes "resolution-markers"

-- the key of a package's files
abbrev pub files_key : List ℕ
files_key = codes "files"

-- the key of a package's edges
abbrev pub edges_key : List ℕ
edges_key = codes "dependencies"

-- the supported region, where it isn't all worlds
abbrev pub supported_lines : Plain → List Line
supported_lines m = cond (is_true m) [] (supported m ∷ [])

-- the leaves, if there are any
abbrev pub fork_lines : List Plain → List Line
fork_lines [] = []
fork_lines (m ∷ ms) = opens forks_key ∷ map item (m ∷ ms) ++ close ∷ []

-- the files of a package, if it has any
abbrev pub file_lines : List FileFields → List Line
file_lines [] = []
file_lines (f ∷ fs) = opens files_key ∷ map file (f ∷ fs) ++ close ∷ []

-- the edges of a package, if it has any
abbrev pub edge_lines : List Edge → List Line
edge_lines [] = []
edge_lines (e ∷ es) = opens edges_key ∷ map edge (e ∷ es) ++ close ∷ []

-- an extra of this name with these edges
abbrev pub listed : List ℕ → List Edge → List Line
listed n [] = bare n ∷ []
listed n (e ∷ es) = opens n ∷ map edge (e ∷ es) ++ close ∷ []

-- the lines of an extra
abbrev pub extra_lines : Extra → List Line
extra_lines x = listed x.name x.edges

-- the extras of a package, if it has any
abbrev pub table_lines : List Extra → List Line
table_lines [] = []
table_lines (x ∷ xs) = gap ∷ table ∷ flat_map extra_lines (x ∷ xs)

-- a package down to its files
abbrev pub block_top : List ℕ → Fields → List FileFields → List Line
block_top n v fs = gap ∷ entry ∷ name n ∷ version v ∷ file_lines fs

-- a package down to its edges
abbrev pub block_front : List ℕ → Fields → List FileFields → List Edge → List Line
block_front n v fs es = block_top n v fs ++ edge_lines es

-- the lines of a package
abbrev pub block_lines : Locked → List Line
block_lines b = block_front b.name b.version b.files b.edges ++ table_lines b.extras

-- the lines above the packages
abbrev pub head_lines : Head → List Line
head_lines h = first h.edition ∷ root h.root ∷ supported_lines h.supported ++ fork_lines h.forks

-- a head and its packages
abbrev pub body_lines : Head → List Locked → List Line
body_lines h bs = head_lines h ++ flat_map block_lines bs

-- the lines of a text
abbrev pub sheet_lines : Sheet → List Line
sheet_lines s = body_lines s.head s.packages
