-- What is written, piece by piece.
use Rattle.std.proofs.Common.{◌≡◌, ℕ, ◌+◌, ◌<◌, ◌≤◌, true, false, Bool, cond, arith, List, [], ◌∷◌, ◌++◌, map, length, take, drop, get_or, refl, sym, ap, ◌∙◌, append_assoc, Option, Some, None}
use Rattle.std.specs.Prelude.{flat_map, codes}
use Rattle.std.proofs.lemmas.List.{append-nil, flat_map_more, take_more, take_all, length-append, take-append-drop}
use Rattle.std.proofs.lemmas.List.Concat.{flat_map-append}
use Rattle.std.proofs.lemmas.List.Folds.{flat_map-map}
use Rattle.ul_version.specs.Texts.{version_text}
use Rattle.ul_lock.specs.declared.parts.Lock.{Lock}
use Rattle.ul_nodes.specs.Plain.{Plain}
use Rattle.ul_requirement.specs.Fields.{FileFields}
use Rattle.ul_lock.specs.declared.parts.Edge.{Edge}
use Rattle.ul_lock.specs.declared.parts.Extra.{Extra}
use Rattle.ul_lock.specs.declared.parts.Locked.{Locked}
use Rattle.ul_lock_lines.specs.declared.lines.Edition.TheVariants.{Second as two}
use Rattle.ul_lock_write.specs.declared.sheets.Head.{Head}
use Rattle.ul_lock_lines.specs.declared.lines.Line.TheVariants.{Supported as supported, Item as item, Close as close, File as file, Edge as edge, Opens as opens}
use Rattle.ul_lock.specs.Region.{is_true}
use Rattle.ul_lock_write.specs.Sheet.{supported_lines, fork_lines, file_lines, edge_lines, listed, extra_lines, table_lines, block_lines, head_lines, files_key, edges_key, forks_key}
use Rattle.ul_lock_lines.specs.Raw.{keyed, quoted, part, end_text}
use Rattle.ul_lock_lines.specs.Text.{marker_line, marker_part, spell}
use Rattle.ul_lock_write.specs.Texts.{lock_text}
use Rattle.ul_lock_write.specs.Written.{written, edge_bytes, file_bytes, list_text, edges_text, files_text, listed_text, extra_text, table_front, table_text, entry_front, block_text, item_text, forks_text, supported_text, head_text}

abbrev pub extra_front : List ℕ
extra_front = 34 ∷ codes ", extra = " ++ 34 ∷ []

abbrev pub marker_front : List ℕ
marker_front = 34 ∷ codes ", marker = " ++ 34 ∷ []

parts_written : (o : List ℕ) (x m : Option (List ℕ)) → ((o ++ written extra_front x) ++ written marker_front m) ++ 34 ∷ end_text ≡ o ++ 34 ∷ part (codes ", extra = ") x (part (codes ", marker = ") m end_text)
parts_written o None None = simp append_assoc
parts_written o None (Some m) = simp append_assoc
parts_written o (Some x) None = simp append_assoc
parts_written o (Some x) (Some m) = simp append_assoc

front_written : (o n v r : List ℕ) → ((((o ++ (codes "    { name = " ++ 34 ∷ [])) ++ n) ++ (34 ∷ codes ", version = " ++ 34 ∷ [])) ++ v) ++ 34 ∷ r ≡ o ++ (codes "    { name = " ++ quoted n (codes ", version = " ++ quoted v r))
front_written o n v r = simp append_assoc

pub edge_written : (o : List ℕ) (e : Edge) → ((((((o ++ (codes "    { name = " ++ 34 ∷ [])) ++ e.target.name) ++ (34 ∷ codes ", version = " ++ 34 ∷ [])) ++ version_text e.version) ++ written extra_front e.target.extra) ++ written marker_front (marker_part e.marker)) ++ 34 ∷ end_text ≡ o ++ edge_bytes e
unfolding edge_bytes
edge_written o e = parts_written ((((o ++ (codes "    { name = " ++ 34 ∷ [])) ++ e.target.name) ++ (34 ∷ codes ", version = " ++ 34 ∷ [])) ++ version_text e.version) e.target.extra (marker_part e.marker) ∙ front_written o e.target.name (version_text e.version) (part (codes ", extra = ") e.target.extra (part (codes ", marker = ") (marker_part e.marker) end_text))

file_by : (o a n b h e : List ℕ) → ((((o ++ a) ++ n) ++ b) ++ h) ++ e ≡ o ++ (a ++ (n ++ (b ++ (h ++ e))))
file_by o a n b h e = simp append_assoc

pub file_written : (o : List ℕ) (f : FileFields) → ((((o ++ (codes "    { file = " ++ 34 ∷ [])) ++ f.file) ++ (34 ∷ codes ", hash = \"sha256:")) ++ f.sha256) ++ 34 ∷ end_text ≡ o ++ file_bytes f
unfolding file_bytes
file_written o f = file_by o (codes "    { file = " ++ 34 ∷ []) f.file (34 ∷ codes ", hash = \"sha256:") f.sha256 (34 ∷ end_text)

pub flat_map_step : {X : Type 0} (f : X → List ℕ) (o out new : List ℕ) (xs : List X) (i : ℕ) (x : X) → i < length xs → x ≡ get_or xs i x → out ≡ o ++ flat_map f (take i xs) → new ≡ out ++ f x → new ≡ o ++ flat_map f (take (i + 1) xs)
flat_map_step f o out new xs i x h e a b =
    b ∙ (ap (λ z. z ++ f x) a ∙ (flat_map_more f o (take i xs) x ∙ ap (λ z. o ++ flat_map f z) (ap (λ z. take i xs ++ z ∷ []) e ∙ sym (take_more xs i x h))))

flat_edges : (es : List Edge) → flat_map spell (map edge es) ≡ flat_map edge_bytes es
unfolding spell edge_bytes
flat_edges es = flat_map-map spell edge es

list_lines : (key : List ℕ) (es : List Edge) → list_text key es ≡ flat_map spell (opens key ∷ map edge es ++ close ∷ [])
unfolding spell
list_lines key es = ap (λ z. keyed key (91 ∷ 10 ∷ []) ++ z) (ap (λ z. z ++ 93 ∷ 10 ∷ []) (sym (flat_edges es)) ∙ sym (flat_map-append spell (map edge es) (close ∷ [])))

edges_lines : (es : List Edge) → edges_text es ≡ flat_map spell (edge_lines es)
edges_lines [] = refl
edges_lines (e ∷ es) = list_lines edges_key (e ∷ es)

flat_files : (fs : List FileFields) → flat_map spell (map file fs) ≡ flat_map file_bytes fs
unfolding spell file_bytes
flat_files fs = flat_map-map spell file fs

files_lines : (fs : List FileFields) → files_text fs ≡ flat_map spell (file_lines fs)
unfolding spell
files_lines [] = refl
files_lines (f ∷ fs) = ap (λ z. keyed files_key (91 ∷ 10 ∷ []) ++ z) (ap (λ z. z ++ 93 ∷ 10 ∷ []) (sym (flat_files (f ∷ fs))) ∙ sym (flat_map-append spell (map file (f ∷ fs)) (close ∷ [])))

listed_lines : (key : List ℕ) (es : List Edge) → listed_text key es ≡ flat_map spell (listed key es)
unfolding spell
listed_lines key [] = sym (append-nil (keyed key (91 ∷ 93 ∷ 10 ∷ [])))
listed_lines key (e ∷ es) = list_lines key (e ∷ es)

extras_lines : (xs : List Extra) → flat_map extra_text xs ≡ flat_map spell (flat_map extra_lines xs)
unfolding extra_text
extras_lines [] = refl
extras_lines (x ∷ xs) = ap (λ z. z ++ flat_map extra_text xs) (listed_lines x.name x.edges) ∙ (ap (λ z. flat_map spell (extra_lines x) ++ z) (extras_lines xs) ∙ sym (flat_map-append spell (extra_lines x) (flat_map extra_lines xs)))

tables_lines : (xs : List Extra) → table_text xs ≡ flat_map spell (table_lines xs)
unfolding spell
tables_lines [] = refl
tables_lines (x ∷ xs) = ap (λ z. table_front ++ z) (extras_lines (x ∷ xs))

block_is : (b : Locked) → block_text b ≡ flat_map spell (block_lines b)
unfolding block_text spell
block_is b =
    let tail : edges_text b.edges ++ table_text b.extras ≡ flat_map spell (edge_lines b.edges ++ table_lines b.extras) = ap (λ z. z ++ table_text b.extras) (edges_lines b.edges) ∙ (ap (λ z. flat_map spell (edge_lines b.edges) ++ z) (tables_lines b.extras) ∙ sym (flat_map-append spell (edge_lines b.edges) (table_lines b.extras))) in
    let all : files_text b.files ++ (edges_text b.edges ++ table_text b.extras) ≡ flat_map spell ((file_lines b.files ++ edge_lines b.edges) ++ table_lines b.extras) =
    ap (λ z. z ++ (edges_text b.edges ++ table_text b.extras)) (files_lines b.files) ∙ (ap (λ z. flat_map spell (file_lines b.files) ++ z) tail ∙ (sym (flat_map-append spell (file_lines b.files) (edge_lines b.edges ++ table_lines b.extras)) ∙ ap (flat_map spell) (sym (append_assoc (file_lines b.files) (edge_lines b.edges) (table_lines b.extras))))) in
    ap (λ z. entry_front ++ (keyed (codes "name") (quoted b.name (10 ∷ [])) ++ (keyed (codes "version") (quoted (version_text b.version) (10 ∷ [])) ++ z))) all

blocks_are : (bs : List Locked) → flat_map block_text bs ≡ flat_map spell (flat_map block_lines bs)
blocks_are [] = refl
blocks_are (b ∷ bs) = ap (λ z. z ++ flat_map block_text bs) (block_is b) ∙ (ap (λ z. flat_map spell (block_lines b) ++ z) (blocks_are bs) ∙ sym (flat_map-append spell (block_lines b) (flat_map block_lines bs)))

items_are : (ms : List Plain) → flat_map item_text ms ≡ flat_map spell (map item ms)
unfolding item_text spell
items_are ms = sym (flat_map-map spell item ms)

forks_are : (ms : List Plain) → forks_text ms ≡ flat_map spell (fork_lines ms)
unfolding spell
forks_are [] = refl
forks_are (m ∷ ms) = ap (λ z. keyed forks_key (91 ∷ 10 ∷ []) ++ z) (ap (λ z. z ++ 93 ∷ 10 ∷ []) (items_are (m ∷ ms)) ∙ sym (flat_map-append spell (map item (m ∷ ms)) (close ∷ [])))

supported_is : (s : Plain) → supported_text s ≡ flat_map spell (supported_lines s)
unfolding spell
supported_is s = by_truth (is_true s)
  where
    by_truth : (b : Bool) → cond b [] (keyed (codes "supported-markers") (quoted (marker_line s) (10 ∷ []))) ≡ flat_map spell (cond b [] (supported s ∷ []))
    by_truth true = refl
    by_truth false = sym (append-nil (keyed (codes "supported-markers") (quoted (marker_line s) (10 ∷ []))))

abbrev top : Lock → Head
top l = record { edition = two; root = l.root; supported = l.supported; forks = l.forks }

head_is : (l : Lock) → head_text l ≡ flat_map spell (head_lines (top l))
unfolding spell
head_is l =
    let tail : supported_text l.supported ++ forks_text l.forks ≡ flat_map spell (supported_lines l.supported ++ fork_lines l.forks) = ap (λ z. z ++ forks_text l.forks) (supported_is l.supported) ∙ (ap (λ z. flat_map spell (supported_lines l.supported) ++ z) (forks_are l.forks) ∙ sym (flat_map-append spell (supported_lines l.supported) (fork_lines l.forks))) in
    ap (λ z. (codes "version = 2" ++ 10 ∷ []) ++ (keyed (codes "root") (quoted l.root (10 ∷ [])) ++ z)) tail

pub lock_is : (l : Lock) → head_text l ++ flat_map block_text l.packages ≡ lock_text l
lock_is l = ap (λ z. z ++ flat_map block_text l.packages) (head_is l) ∙ (ap (λ z. flat_map spell (head_lines (top l)) ++ z) (blocks_are l.packages) ∙ sym (flat_map-append spell (head_lines (top l)) (flat_map block_lines l.packages)))

pub table_done : (o out : List ℕ) (xs : List Extra) (i : ℕ) → length xs ≤ i → 0 < length xs → out ≡ (o ++ table_front) ++ flat_map extra_text (take i xs) → out ≡ o ++ table_text xs
table_done o out [] i h k e = absurd (omega arith)
table_done o out (x ∷ xs) i h k e = e ∙ (ap (λ z. (o ++ table_front) ++ flat_map extra_text z) (take_all i (x ∷ xs) h) ∙ append_assoc o table_front (flat_map extra_text (x ∷ xs)))

regroup : (o a b c : List ℕ) → ((o ++ a) ++ b) ++ c ≡ o ++ (a ++ (b ++ c))
regroup o a b c = simp append_assoc

pub forks_done : (o out : List ℕ) (ms : List Plain) (i : ℕ) → length ms ≤ i → 0 < length ms → out ≡ (o ++ keyed forks_key (91 ∷ 10 ∷ [])) ++ flat_map item_text (take i ms) → out ++ 93 ∷ 10 ∷ [] ≡ o ++ forks_text ms
forks_done o out [] i h k e = absurd (omega arith)
forks_done o out (m ∷ ms) i h k e =
    ap (λ z. z ++ 93 ∷ 10 ∷ []) (e ∙ ap (λ z. (o ++ keyed forks_key (91 ∷ 10 ∷ [])) ++ flat_map item_text z) (take_all i (m ∷ ms) h))
    ∙ regroup o (keyed forks_key (91 ∷ 10 ∷ [])) (flat_map item_text (m ∷ ms)) (93 ∷ 10 ∷ [])

pub files_done : (o out : List ℕ) (fs : List FileFields) (i : ℕ) → length fs ≤ i → 0 < length fs → out ≡ (o ++ keyed files_key (91 ∷ 10 ∷ [])) ++ flat_map file_bytes (take i fs) → out ++ 93 ∷ 10 ∷ [] ≡ o ++ files_text fs
files_done o out [] i h k e = absurd (omega arith)
files_done o out (m ∷ ms) i h k e =
    ap (λ z. z ++ 93 ∷ 10 ∷ []) (e ∙ ap (λ z. (o ++ keyed files_key (91 ∷ 10 ∷ [])) ++ flat_map file_bytes z) (take_all i (m ∷ ms) h))
    ∙ regroup o (keyed files_key (91 ∷ 10 ∷ [])) (flat_map file_bytes (m ∷ ms)) (93 ∷ 10 ∷ [])

abbrev pub blocks_of : Lock → List Locked
blocks_of l = l.packages

pub lock_done : (out : List ℕ) (l : Lock) (i : ℕ) → length (blocks_of l) ≤ i → out ≡ head_text l ++ flat_map block_text (take i (blocks_of l)) → out ≡ lock_text l
lock_done out l i h e = e ∙ (ap (λ z. head_text l ++ flat_map block_text z) (take_all i (blocks_of l) h) ∙ lock_is l)

block_by : (o a n v f e t : List ℕ) → (((((o ++ a) ++ n) ++ v) ++ f) ++ e) ++ t ≡ o ++ (a ++ (n ++ (v ++ (f ++ (e ++ t)))))
block_by o a n v f e t = simp append_assoc

pub block_written : (o : List ℕ) (b : Locked) → (((((o ++ entry_front) ++ keyed (codes "name") (quoted b.name (10 ∷ []))) ++ keyed (codes "version") (quoted (version_text b.version) (10 ∷ []))) ++ files_text b.files) ++ edges_text b.edges) ++ table_text b.extras ≡ o ++ block_text b
unfolding block_text
block_written o b = block_by o entry_front (keyed (codes "name") (quoted b.name (10 ∷ []))) (keyed (codes "version") (quoted (version_text b.version) (10 ∷ []))) (files_text b.files) (edges_text b.edges) (table_text b.extras)

head_by : (o a r s f : List ℕ) → (((o ++ a) ++ r) ++ s) ++ f ≡ o ++ (a ++ (r ++ (s ++ f)))
head_by o a r s f = simp append_assoc

pub head_written : (o : List ℕ) (l : Lock) → (((o ++ (codes "version = 2" ++ 10 ∷ [])) ++ keyed (codes "root") (quoted l.root (10 ∷ []))) ++ supported_text l.supported) ++ forks_text l.forks ≡ o ++ head_text l
head_written o l = head_by o (codes "version = 2" ++ 10 ∷ []) (keyed (codes "root") (quoted l.root (10 ∷ []))) (supported_text l.supported) (forks_text l.forks)

-- a front of the text that is too long
pub longer : (n : ℕ) (out : List ℕ) (l : Lock) (i : ℕ) → out ≡ head_text l ++ flat_map block_text (take i (blocks_of l)) → n < length out → n < length (lock_text l)
longer n out l i e h =
    let front = head_text l ++ flat_map block_text (take i (blocks_of l)) in
    let rest = flat_map block_text (drop i (blocks_of l)) in
    let whole : front ++ rest ≡ lock_text l =
    append_assoc (head_text l) (flat_map block_text (take i (blocks_of l))) rest
    ∙ (ap (λ z. head_text l ++ z) (sym (flat_map-append block_text (take i (blocks_of l)) (drop i (blocks_of l))) ∙ ap (flat_map block_text) (take-append-drop i (blocks_of l))) ∙ lock_is l) in
    more n front rest (lock_text l) (rw e at h) whole
  where
    more : (n : ℕ) (a b c : List ℕ) → n < length a → a ++ b ≡ c → n < length c
    more n a b c h e = omega (arith, length-append a b, ap length e)
