-- Which line may follow which: a state is what has been read.
use Rattle.std.specs.Prelude.{ℕ, List, [], ◌∷◌, ◌++◌, Bool, true, false, cond, Option, Some, None, bytes_eq}
use Rattle.std.specs.Ordering.{is_le}
use Rattle.ul_base.specs.Names.{name_cmp}
use Rattle.ul_nodes.specs.Plain.{Plain}
use Rattle.ul_version.specs.Fields.{Fields}
use Rattle.ul_requirement.specs.Fields.{FileFields}
use Rattle.ul_lock.specs.declared.parts.Edge.{Edge}
use Rattle.ul_lock.specs.declared.parts.Extra.{Extra}
use Rattle.ul_lock.specs.declared.parts.Locked.{Locked}
use Rattle.ul_lock_lines.specs.declared.lines.Edition.{Edition}
use Rattle.ul_lock_lines.specs.declared.lines.Edition.TheVariants.{First as one, Second as two}
use Rattle.ul_lock_write.specs.declared.sheets.Head.{Head}
use Rattle.ul_lock_write.specs.declared.sheets.Sheet.{Sheet}
use Rattle.ul_lock_lines.specs.declared.lines.Line.{Line}
use Rattle.ul_lock_lines.specs.declared.lines.Line.TheVariants.{First as first, Root as root, Supported as supported, Item as item, Close as close, Gap as gap, Entry as entry, Name as name, Version as version, File as file, Edge as edge, Table as table, Opens as opens, Bare as bare}
use Rattle.ul_lock.specs.Region.{all_worlds, is_true}
use Rattle.ul_lines.specs.Reader.{Reader, run as run_by}
use Rattle.ul_lock_lines.specs.Text.{spell}
use Rattle.ul_lock_lines.specs.LineReading.{line_of}
use Rattle.ul_lock.specs.Orders.{edge_less, extra_less, file_less, block_less}
use Rattle.ul_lock_write.specs.Sheet.{forks_key, files_key, edges_key}
use Rattle.ul_lock_read.specs.declared.states.State.{State}
use Rattle.ul_lock_read.specs.declared.states.State.TheVariants.{Start as start, AfterFirst as after_first, AfterRoot as after_root, AfterSupported as after_supported, InForks as in_forks, AfterForks as after_forks, AfterBlank as after_blank, AfterEntry as after_entry, AfterName as after_name, AfterVersion as after_version, InFiles as in_files, AfterFiles as after_files, InEdges as in_edges, AfterEdges as after_edges, AfterGap as after_gap, InExtras as in_extras, InExtra as in_extra}

-- y is greater than the last of xs
abbrev pub tops : {A : Type 0} → (A → A → Bool) → List A → A → Bool
tops less [] y = true
tops less (x ∷ []) y = less x y
tops less (x ∷ z ∷ xs) y = tops less (z ∷ xs) y

-- a block of this name may follow
abbrev pub name_tops : List Locked → List ℕ → Bool
name_tops [] n = true
name_tops (b ∷ []) n = is_le (name_cmp b.name n)
name_tops (b ∷ c ∷ bs) n = name_tops (c ∷ bs) n

-- there is an element
abbrev pub filled : {A : Type 0} → List A → Bool
filled [] = false
filled (x ∷ xs) = true

-- there are two elements or more
abbrev pub several : {A : Type 0} → List A → Bool
several [] = false
several (x ∷ []) = false
several (x ∷ y ∷ xs) = true

-- the format is of version 2
abbrev pub second : Edition → Bool
second one = false
second two = true

-- ---- states

-- a package with these parts
abbrev pub plain_block : List ℕ → Fields → List FileFields → List Edge → List Extra → Locked
plain_block n v fs es xs = record { name = n; version = v; files = fs; edges = es; extras = xs }

-- what stands above the packages
abbrev pub head_of : Edition → List ℕ → Plain → List Plain → Head
head_of e r s ms = record { edition = e; root = r; supported = s; forks = ms }

-- the state, where the test holds
abbrev pub may : Bool → State → Option State
may b s = cond b (Some s) None

-- behind the key that opens a list of a package: its files, which version 2 alone has, or its edges
abbrev pub block_list : Head → List Locked → List ℕ → Fields → List ℕ → Option State
block_list h bs n v k =
    cond (bytes_eq k files_key) (may (second h.edition) (in_files h bs n v []))
    (may (bytes_eq k edges_key) (in_edges h bs n v [] []))

-- the state behind a line that may follow; a block that is being read lies in the state, the complete ones in a list
abbrev pub step : State → Line → Option State
step start (first e) = Some (after_first e)
step (after_first e) (root r) = Some (after_root e r)
step (after_root e r) (supported m) = cond (is_true m) None (Some (after_supported e r m))
step (after_root e r) (opens k) = may (bytes_eq k forks_key) (in_forks e r all_worlds [])
step (after_root e r) gap = Some (after_blank (head_of e r all_worlds []) [])
step (after_supported e r m) (opens k) = may (bytes_eq k forks_key) (in_forks e r m [])
step (after_supported e r m) gap = Some (after_blank (head_of e r m []) [])
step (in_forks e r s ms) (item m) = Some (in_forks e r s (ms ++ m ∷ []))
step (in_forks e r s ms) close = may (several ms) (after_forks (head_of e r s ms))
step (after_forks h) gap = Some (after_blank h [])
step (after_blank h bs) entry = Some (after_entry h bs)
step (after_entry h bs) (name n) = may (name_tops bs n) (after_name h bs n)
step (after_name h bs n) (version v) = may (tops block_less bs (plain_block n v [] [] [])) (after_version h bs n v)
step (after_version h bs n v) (opens k) = block_list h bs n v k
step (after_version h bs n v) gap = Some (after_gap h bs n v [] [])
step (in_files h bs n v fs) (file f) = may (tops file_less fs f) (in_files h bs n v (fs ++ f ∷ []))
step (in_files h bs n v fs) close = may (filled fs) (after_files h bs n v fs)
step (after_files h bs n v fs) (opens k) = may (bytes_eq k edges_key) (in_edges h bs n v fs [])
step (after_files h bs n v fs) gap = Some (after_gap h bs n v fs [])
step (in_edges h bs n v fs es) (edge e) = may (tops edge_less es e) (in_edges h bs n v fs (es ++ e ∷ []))
step (in_edges h bs n v fs es) close = may (filled es) (after_edges h bs n v fs es)
step (after_edges h bs n v fs es) gap = Some (after_gap h bs n v fs es)
step (after_gap h bs n v fs es) entry = Some (after_entry h (bs ++ plain_block n v fs es [] ∷ []))
step (after_gap h bs n v fs es) table = Some (in_extras h bs n v fs es [])
step (in_extras h bs n v fs es xs) (bare x) =
    may (tops extra_less xs (record { name = x; edges = [] }))
    (in_extras h bs n v fs es (xs ++ record { name = x; edges = [] } ∷ []))
step (in_extras h bs n v fs es xs) (opens x) =
    may (tops extra_less xs (record { name = x; edges = [] })) (in_extra h bs n v fs es xs x [])
step (in_extras h bs n v fs es xs) gap = may (filled xs) (after_blank h (bs ++ plain_block n v fs es xs ∷ []))
step (in_extra h bs n v fs es xs x ls) (edge e) = may (tops edge_less ls e) (in_extra h bs n v fs es xs x (ls ++ e ∷ []))
step (in_extra h bs n v fs es xs x ls) close =
    may (filled ls) (in_extras h bs n v fs es (xs ++ record { name = x; edges = ls } ∷ []))
step s l = None

-- a head and its packages
abbrev pub sheet_of : Head → List Locked → Sheet
sheet_of h bs = record { head = h; packages = bs }

-- what has been read, where it may end here
abbrev pub final : State → Option Sheet
final (after_root e r) = Some (sheet_of (head_of e r all_worlds []) [])
final (after_supported e r m) = Some (sheet_of (head_of e r m []) [])
final (after_forks h) = Some (sheet_of h [])
final (after_version h bs n v) = Some (sheet_of h (bs ++ plain_block n v [] [] [] ∷ []))
final (after_files h bs n v fs) = Some (sheet_of h (bs ++ plain_block n v fs [] [] ∷ []))
final (after_edges h bs n v fs es) = Some (sheet_of h (bs ++ plain_block n v fs es [] ∷ []))
final (in_extras h bs n v fs es xs) = cond (filled xs) (Some (sheet_of h (bs ++ plain_block n v fs es xs ∷ []))) None
final s = None

-- how a lock's text is read
abbrev pub lock_reader : Reader State Line Sheet
lock_reader = record { start = start; step = step; final = final; line_of = line_of; spell = spell }

-- the state behind lines
abbrev pub run : State → List Line → Option State
run s ls = run_by lock_reader s ls
