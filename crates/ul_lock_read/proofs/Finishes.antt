-- Every state can be led to an end.
use Rattle.std.proofs.Common.{◌≡◌, ℕ, List, [], ◌∷◌, ◌++◌, Bool, true, false, cond, refl, sym, ap, subst, ◌∙◌, append_assoc, Option, Some, None}
use Rattle.std.specs.Prelude.{option_and_then, flat_map}
use Rattle.std.proofs.lemmas.List.{append-nil}
use Rattle.ul_base.specs.Names.{IsNormalName, name_of, is_name, normal_form}
use Rattle.ul_version.specs.Fields.{IsVersion, plain}
use Rattle.ul_nodes.specs.Plain.{Plain}
use Rattle.ul_version.specs.Fields.{Fields}
use Rattle.ul_requirement.specs.Fields.{FileFields}
use Rattle.ul_lock.specs.declared.parts.Edge.{Edge}
use Rattle.ul_lock.specs.declared.parts.Extra.{Extra}
use Rattle.ul_lock.specs.declared.parts.Locked.{Locked}
use Rattle.ul_lock_lines.specs.declared.lines.Edition.{Edition}
use Rattle.ul_lock_lines.specs.declared.lines.Edition.TheVariants.{Second as two}
use Rattle.ul_lock_write.specs.declared.sheets.Head.{Head}
use Rattle.ul_lock_write.specs.declared.sheets.Sheet.{Sheet}
use Rattle.ul_lock_lines.specs.declared.lines.Line.{Line}
use Rattle.ul_lock_lines.specs.declared.lines.Line.TheVariants.{First as first, Root as root, Item as item, Close as close, Gap as gap, Entry as entry, Name as name, Version as version, File as file, Edge as edge, Bare as bare}
use Rattle.ul_lock_read.specs.declared.states.State.{State}
use Rattle.ul_lock_read.specs.declared.states.State.TheVariants.{Start as start, AfterFirst as after_first, AfterRoot as after_root, AfterSupported as after_supported, InForks as in_forks, AfterForks as after_forks, AfterBlank as after_blank, AfterEntry as after_entry, AfterName as after_name, AfterVersion as after_version, InFiles as in_files, AfterFiles as after_files, InEdges as in_edges, AfterEdges as after_edges, AfterGap as after_gap, InExtras as in_extras, InExtra as in_extra}
use Rattle.ul_lock.specs.Region.{all_worlds}
use Rattle.ul_lock.specs.Orders.{block_less}
use Rattle.ul_lock_write.specs.Sheet.{sheet_lines, body_lines, head_lines, block_front, block_lines}
use Rattle.ul_lock_lines.specs.Text.{Fit}
use Rattle.ul_lock_read.specs.Automaton.{lock_reader, may, step, run, final, head_of, plain_block, sheet_of, tops, name_tops, filled, several}
use Rattle.ul_lines.specs.Reader.{Each, Begins}
use Rattle.ul_lines.proofs.ForCallers.{Each-left, Each-right, Each-join, Each-snoc, run_append}
use Rattle.ul_lock_lines.proofs.ForCallers.{all_readable}
use Rattle.ul_lock_read.specs.Shaped.{IsSheet}
use Rattle.ul_base.proofs.ForCallers.{above_is_name}
use Rattle.ul_version.proofs.ForCallers.{above_is_version, zero_is_version}
use Rattle.ul_lock_read.proofs.Above.{name_above, version_above, name_tops_above, tops_above}
use Rattle.ul_lock_read.proofs.Kept.{spelt, Good, Kept, kept, Between, Between-snoc, body-plain, body-top, body-table}

-- lines lead from one state to another
pub record Leads (s : State) (ls : List Line) (t : State) : Type 0 where
  pub lines : spelt t ≡ spelt s ++ ls
  pub good : Good s → Good t

abbrev some : State → Option State
some s = Some s

some_is : (x y : State) → some x ≡ some y → x ≡ y
some_is x y e = cc

leads_step : (s : State) (l : Line) (ls : List Line) (o : Option State) (t : State) → ((u : State) → o ≡ Some u → Kept s l u) → ((u : State) → run u ls ≡ Some t → Leads u ls t) → option_and_then (λ u. run u ls) o ≡ Some t → Leads s (l ∷ ls) t
leads_step s l ls None t k more e = absurd cc
leads_step s l ls (Some u) t k more e =
    let a = k u refl in
    let b = more u e in
    record { lines = b.lines ∙ (ap (λ x. x ++ ls) a.lines ∙ append_assoc (spelt s) (l ∷ []) ls); good = λ g. b.good (a.good g) }

pub leads : (s : State) (ls : List Line) (t : State) → run s ls ≡ Some t → Leads s ls t
leads s [] t e = subst (λ u. Leads s [] u) (some_is s t e) (record { lines = sym (append-nil (spelt s)); good = λ g. g })
leads s (l ∷ ls) t e = leads_step s l ls (step s l) t (λ u q. kept s l u q) (λ u q. leads u ls t q) e

-- what is read at an end
pub record Ends (s : State) (x : Sheet) : Type 0 where
  pub lines : sheet_lines x ≡ spelt s
  pub good : IsSheet x

sheet_is : (s : State) (x y : Sheet) → Ends s x → Some x ≡ Some y → Ends s y
sheet_is s x y k e = let q : x ≡ y = cc in subst (λ u. Ends s u) q k

sheet_if : (s : State) (b : Bool) (x y : Sheet) → (b ≡ true → Ends s x) → cond b (Some x) None ≡ Some y → Ends s y
sheet_if s true x y k e = sheet_is s x y (k refl) e
sheet_if s false x y k e = absurd cc

no_sheet : (s : State) (x : Sheet) → None ≡ Some x → Ends s x
no_sheet s x e = absurd cc

whole_sheet : (h : Head) (bs : List Locked) → Between h bs → IsSheet (sheet_of h bs)
whole_sheet h bs g = record { forks = g.forks; blocks = g.blocks; each = g.each; allowed = g.allowed }

pub ends : (s : State) (x : Sheet) → Good s → final s ≡ Some x → Ends s x
ends (after_root v r) x g e = sheet_is _ (sheet_of (head_of v r all_worlds []) []) x (record { lines = refl; good = record { forks = tt; blocks = tt; each = tt; allowed = tt } }) e
ends (after_supported v r m) x g e = sheet_is _ (sheet_of (head_of v r m []) []) x (record { lines = append-nil (head_lines (head_of v r m [])) ∙ append-nil (spelt (after_supported v r m)); good = record { forks = tt; blocks = tt; each = tt; allowed = tt } }) e
ends (after_forks h) x g e = sheet_is _ (sheet_of h []) x (record { lines = append-nil (spelt (after_forks h)); good = whole_sheet h [] g }) e
ends (after_version h bs n v) x g e = sheet_is _ (sheet_of h (bs ++ plain_block n v [] [] [] ∷ [])) x (record { lines = body-top h bs n v []; good = whole_sheet _ _ (Between-snoc h bs (plain_block n v [] [] []) g) }) e
ends (after_files h bs n v fs) x g e = sheet_is _ (sheet_of h (bs ++ plain_block n v fs [] [] ∷ [])) x (record { lines = body-top h bs n v fs; good = whole_sheet _ _ (Between-snoc h bs (plain_block n v fs [] []) g) }) e
ends (after_edges h bs n v fs es) x g e = sheet_is _ (sheet_of h (bs ++ plain_block n v fs es [] ∷ [])) x (record { lines = body-plain h bs n v fs es; good = whole_sheet _ _ (Between-snoc h bs (plain_block n v fs es []) g) }) e
ends (in_extras h bs n v fs es xs) x g e = sheet_if _ (filled xs) (sheet_of h (bs ++ plain_block n v fs es xs ∷ [])) x (λ q. record { lines = body-table h bs n v fs es xs q; good = whole_sheet _ _ (Between-snoc h bs (plain_block n v fs es xs) g) }) e
ends s x g e = no_sheet s x e

-- lines from here to an end
pub record Finishes (s : State) : Type 0 where
  pub more : List Line
  pub fit : Each Fit more
  pub last : State
  pub sheet : Sheet
  pub runs : run s more ≡ Some last
  pub final : final last ≡ Some sheet

goes : (s : State) (l : Line) (t : State) → Fit l → step s l ≡ Some t → Finishes t → Finishes s
goes s l t h e f = record { more = l ∷ f.more; fit = (h, f.fit); last = f.last; sheet = f.sheet; runs = ap (λ o. option_and_then (λ u. run u f.more) o) e ∙ f.runs; final = f.final }

stops : (s : State) (x : Sheet) → final s ≡ Some x → Finishes s
stops s x e = record { more = []; fit = tt; last = s; sheet = x; runs = refl; final = e }

pub may_is : (b : Bool) (t : State) → b ≡ true → may b t ≡ Some t
may_is b t e = rw e refl

zero_name : IsNormalName (48 ∷ [])
unfolding name_of is_name normal_form
zero_name = refl

from_after_root : (v : Edition) (r : List ℕ) → Finishes (after_root v r)
from_after_root v r = stops (after_root v r) _ refl

from_after_first : (v : Edition) → Finishes (after_first v)
from_after_first v = goes (after_first v) (root (48 ∷ [])) (after_root v (48 ∷ [])) zero_name refl (from_after_root v (48 ∷ []))

from_after_forks : (h : Head) → Finishes (after_forks h)
from_after_forks h = stops (after_forks h) _ refl

two_more : (ms : List Plain) (x y : Plain) → several ((ms ++ x ∷ []) ++ y ∷ []) ≡ true
two_more [] x y = refl
two_more (m ∷ []) x y = refl
two_more (m ∷ n ∷ ms) x y = refl

from_in_forks : (v : Edition) (r : List ℕ) (s : Plain) (ms : List Plain) → Finishes (in_forks v r s ms)
from_in_forks v r s ms =
    let two_of = (ms ++ all_worlds ∷ []) ++ all_worlds ∷ [] in
    goes _ (item all_worlds) (in_forks v r s (ms ++ all_worlds ∷ [])) all_readable refl
    (goes _ (item all_worlds) (in_forks v r s two_of) all_readable refl
    (goes _ close (after_forks (head_of v r s two_of)) tt (may_is (several two_of) (after_forks (head_of v r s two_of)) (two_more ms all_worlds all_worlds)) (from_after_forks (head_of v r s two_of))))

from_after_version : (h : Head) (bs : List Locked) (n : List ℕ) (v : Fields) → Finishes (after_version h bs n v)
from_after_version h bs n v = stops (after_version h bs n v) _ refl

from_after_files : (h : Head) (bs : List Locked) (n : List ℕ) (v : Fields) (fs : List FileFields) → Finishes (after_files h bs n v fs)
from_after_files h bs n v fs = stops (after_files h bs n v fs) _ refl

-- the names and versions of blocks fit
pub record BlockFits (b : Locked) : Type 0 where
  pub name : IsNormalName b.name
  pub version : IsVersion b.version

name_above_fits : (bs : List Locked) → Each BlockFits bs → IsNormalName (name_above bs)
unfolding name_above
name_above_fits [] h = zero_name
name_above_fits (b ∷ []) h = above_is_name b.name h.0.name
name_above_fits (b ∷ c ∷ bs) h = name_above_fits (c ∷ bs) h.1

version_above_fits : (bs : List Locked) → Each BlockFits bs → IsVersion (version_above bs)
unfolding version_above
version_above_fits [] h = zero_is_version
version_above_fits (b ∷ []) h = above_is_version b.version h.0.version
version_above_fits (b ∷ c ∷ bs) h = version_above_fits (c ∷ bs) h.1

from_after_name : (h : Head) (bs : List Locked) (n : List ℕ) → Each BlockFits bs → name_tops bs n ≡ true → Finishes (after_name h bs n)
from_after_name h bs n k q = let v = version_above bs in goes (after_name h bs n) (version v) (after_version h bs n v) (version_above_fits bs k) (may_is (tops block_less bs (plain_block n v [] [] [])) (after_version h bs n v) (tops_above bs n q)) (from_after_version h bs n v)

from_after_entry : (h : Head) (bs : List Locked) → Each BlockFits bs → Finishes (after_entry h bs)
from_after_entry h bs k = let n = name_above bs in goes (after_entry h bs) (name n) (after_name h bs n) (name_above_fits bs k) (may_is (name_tops bs n) (after_name h bs n) (name_tops_above bs)) (from_after_name h bs n k (name_tops_above bs))

from_after_blank : (h : Head) (bs : List Locked) → Each BlockFits bs → Finishes (after_blank h bs)
from_after_blank h bs k = goes (after_blank h bs) entry (after_entry h bs) tt refl (from_after_entry h bs k)

from_after_edges : (h : Head) (bs : List Locked) (n : List ℕ) (v : Fields) (fs : List FileFields) (es : List Edge) → Finishes (after_edges h bs n v fs es)
from_after_edges h bs n v fs es = stops (after_edges h bs n v fs es) _ refl

abbrev some_edge : Edge
some_edge = record { target = record { name = 48 ∷ []; extra = None }; version = plain (0 ∷ []); marker = all_worlds }

edge_fits : Fit (edge some_edge)
edge_fits = (record { name = zero_name; version = zero_is_version; extra = tt; marker = all_readable.region }, all_readable.readable)

-- 64 zeros
abbrev zeros : List ℕ
zeros = eight ++ (eight ++ (eight ++ (eight ++ (eight ++ (eight ++ (eight ++ eight))))))
  where
    eight : List ℕ
    eight = 48 ∷ 48 ∷ 48 ∷ 48 ∷ 48 ∷ 48 ∷ 48 ∷ 48 ∷ []

abbrev some_file : FileFields
some_file = record { file = 48 ∷ []; sha256 = zeros }

file_fits : Fit (file some_file)
file_fits = record { file = refl; sha256 = refl }

from_in_files : (h : Head) (bs : List Locked) (n : List ℕ) (v : Fields) (fs : List FileFields) → Finishes (in_files h bs n v fs)
from_in_files h bs n v [] = goes (in_files h bs n v []) (file some_file) (in_files h bs n v (some_file ∷ [])) file_fits refl (goes _ close (after_files h bs n v (some_file ∷ [])) tt refl (from_after_files h bs n v (some_file ∷ [])))
from_in_files h bs n v (f ∷ fs) = goes _ close (after_files h bs n v (f ∷ fs)) tt refl (from_after_files h bs n v (f ∷ fs))

from_in_edges : (h : Head) (bs : List Locked) (n : List ℕ) (v : Fields) (fs : List FileFields) (es : List Edge) → Finishes (in_edges h bs n v fs es)
from_in_edges h bs n v fs [] = goes (in_edges h bs n v fs []) (edge some_edge) (in_edges h bs n v fs (some_edge ∷ [])) edge_fits refl (goes _ close (after_edges h bs n v fs (some_edge ∷ [])) tt refl (from_after_edges h bs n v fs (some_edge ∷ [])))
from_in_edges h bs n v fs (e ∷ es) = goes _ close (after_edges h bs n v fs (e ∷ es)) tt refl (from_after_edges h bs n v fs (e ∷ es))

from_after_gap : (h : Head) (bs : List Locked) (n : List ℕ) (v : Fields) (fs : List FileFields) (es : List Edge) → Each BlockFits (bs ++ plain_block n v fs es [] ∷ []) → Finishes (after_gap h bs n v fs es)
from_after_gap h bs n v fs es k = goes (after_gap h bs n v fs es) entry (after_entry h (bs ++ plain_block n v fs es [] ∷ [])) tt refl (from_after_entry h (bs ++ plain_block n v fs es [] ∷ []) k)

from_in_extras : (h : Head) (bs : List Locked) (n : List ℕ) (v : Fields) (fs : List FileFields) (es : List Edge) (xs : List Extra) → Finishes (in_extras h bs n v fs es xs)
from_in_extras h bs n v fs es [] = goes (in_extras h bs n v fs es []) (bare (48 ∷ [])) (in_extras h bs n v fs es (record { name = 48 ∷ []; edges = [] } ∷ [])) zero_name refl (stops (in_extras h bs n v fs es (record { name = 48 ∷ []; edges = [] } ∷ [])) _ refl)
from_in_extras h bs n v fs es (x ∷ xs) = stops (in_extras h bs n v fs es (x ∷ xs)) _ refl

from_in_extra : (h : Head) (bs : List Locked) (n : List ℕ) (v : Fields) (fs : List FileFields) (es : List Edge) (xs : List Extra) (x : List ℕ) (ls : List Edge) → Finishes (in_extra h bs n v fs es xs x ls)
from_in_extra h bs n v fs es xs x [] = goes (in_extra h bs n v fs es xs x []) (edge some_edge) (in_extra h bs n v fs es xs x (some_edge ∷ [])) edge_fits refl (goes _ close (in_extras h bs n v fs es (xs ++ record { name = x; edges = some_edge ∷ [] } ∷ [])) tt refl (from_in_extras h bs n v fs es (xs ++ record { name = x; edges = some_edge ∷ [] } ∷ [])))
from_in_extra h bs n v fs es xs x (e ∷ ls) = goes _ close (in_extras h bs n v fs es (xs ++ record { name = x; edges = e ∷ ls } ∷ [])) tt refl (from_in_extras h bs n v fs es (xs ++ record { name = x; edges = e ∷ ls } ∷ []))

blocks_fit : (bs : List Locked) → Each Fit (flat_map block_lines bs) → Each BlockFits bs
blocks_fit [] h = tt
blocks_fit (b ∷ bs) h =
    let k = Each-left Fit (block_lines b) (flat_map block_lines bs) h in
    (record { name = k.1.1.0; version = k.1.1.1.0 }, blocks_fit bs (Each-right Fit (block_lines b) (flat_map block_lines bs) h))

body_fits : (h : Head) (bs : List Locked) (rest : List Line) → Each Fit (body_lines h bs ++ rest) → Each BlockFits bs
body_fits h bs rest k = blocks_fit bs (Each-right Fit (head_lines h) (flat_map block_lines bs) (Each-left Fit (body_lines h bs) rest k))

after_gap_fits : (h : Head) (bs : List Locked) (n : List ℕ) (v : Fields) (fs : List FileFields) (es : List Edge) → Each Fit (spelt (after_gap h bs n v fs es)) → Each BlockFits (bs ++ plain_block n v fs es [] ∷ [])
after_gap_fits h bs n v fs es k =
    let r = Each-right Fit (body_lines h bs) (block_front n v fs es ++ gap ∷ []) k in
    Each-snoc BlockFits bs (plain_block n v fs es []) (body_fits h bs (block_front n v fs es ++ gap ∷ []) k) (record { name = r.1.1.0; version = r.1.1.1.0 })

pub finishes : (s : State) → Good s → Each Fit (spelt s) → Finishes s
finishes start g k = goes start (first two) (after_first two) tt refl (from_after_first two)
finishes (after_first v) g k = from_after_first v
finishes (after_root v r) g k = from_after_root v r
finishes (after_supported v r m) g k = stops (after_supported v r m) _ refl
finishes (in_forks v r s ms) g k = from_in_forks v r s ms
finishes (after_forks h) g k = from_after_forks h
finishes (after_blank h bs) g k = from_after_blank h bs (body_fits h bs _ k)
finishes (after_entry h bs) g k = from_after_entry h bs (body_fits h bs _ k)
finishes (after_name h bs n) g k = from_after_name h bs n (body_fits h bs _ k) g.1
finishes (after_version h bs n v) g k = from_after_version h bs n v
finishes (in_files h bs n v fs) g k = from_in_files h bs n v fs
finishes (after_files h bs n v fs) g k = from_after_files h bs n v fs
finishes (in_edges h bs n v fs es) g k = from_in_edges h bs n v fs es
finishes (after_edges h bs n v fs es) g k = from_after_edges h bs n v fs es
finishes (after_gap h bs n v fs es) g k = from_after_gap h bs n v fs es (after_gap_fits h bs n v fs es k)
finishes (in_extras h bs n v fs es xs) g k = from_in_extras h bs n v fs es xs
finishes (in_extra h bs n v fs es xs x ls) g k = from_in_extra h bs n v fs es xs x ls

-- ---- what runs begins a shaped text; what runs to an end is one

pub run_shaped : (ls : List Line) (s : State) (x : Sheet) → run start ls ≡ Some s → final s ≡ Some x → IsSheet x × (sheet_lines x ≡ ls)
run_shaped ls s x e f =
    let a = leads start ls s e in
    let b = ends s x (a.good tt) f in
    (b.good, b.lines ∙ a.lines)

-- what runs begins a shaped text
pub run_begins : (ls : List Line) (s : State) → Each Fit ls → run start ls ≡ Some s → Begins Fit sheet_lines IsSheet ls
run_begins ls s k e =
    let a = leads start ls s e in
    let f = finishes s (a.good tt) (subst (λ z. Each Fit z) (sym a.lines) k) in
    let whole_run : run start (ls ++ f.more) ≡ Some f.last = run_append lock_reader start ls f.more ∙ (ap (λ o. option_and_then (λ t. run t f.more) o) e ∙ f.runs) in
    let r = run_shaped (ls ++ f.more) f.last f.sheet whole_run f.final in
    record { more = f.more; whole = f.sheet; shaped = r.0; same = r.1; fit = subst (λ z. Each Fit z) (sym r.1) (Each-join Fit ls f.more k f.fit) }
