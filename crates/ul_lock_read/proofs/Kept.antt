-- What a state says: the lines that were read, and what holds of them.
use Rattle.std.proofs.Common.{◌≡◌, ℕ, List, [], ◌∷◌, ◌++◌, map, Bool, true, false, cond, refl, sym, ap, subst, ◌∙◌, append_assoc, Option, Some, None}
use Rattle.std.specs.Prelude.{bytes_eq, flat_map}
use Rattle.std.proofs.lemmas.List.{append-nil, map-append}
use Rattle.std.proofs.lemmas.List.Concat.{flat_map-append}
use Rattle.std.proofs.lemmas.Slice.Eq.{bytes_eq-Decides}
use Rattle.ul_nodes.specs.Plain.{Plain}
use Rattle.ul_version.specs.Fields.{Fields}
use Rattle.ul_requirement.specs.Fields.{FileFields}
use Rattle.ul_lock.specs.declared.parts.Edge.{Edge}
use Rattle.ul_lock.specs.declared.parts.Extra.{Extra}
use Rattle.ul_lock.specs.declared.parts.Locked.{Locked}
use Rattle.ul_lock_lines.specs.declared.lines.Edition.{Edition}
use Rattle.ul_lock_lines.specs.declared.lines.Edition.TheVariants.{First as one, Second as two}
use Rattle.ul_lock_write.specs.declared.sheets.Head.{Head}
use Rattle.ul_lock_lines.specs.declared.lines.Line.{Line}
use Rattle.ul_lock_lines.specs.declared.lines.Line.TheVariants.{First as first, Root as root, Supported as supported, Item as item, Close as close, Gap as gap, Entry as entry, Name as name, Version as version, File as file, Edge as edge, Table as table, Opens as opens, Bare as bare}
use Rattle.ul_lock_read.specs.declared.states.State.{State}
use Rattle.ul_lock_read.specs.declared.states.State.TheVariants.{Start as start, AfterFirst as after_first, AfterRoot as after_root, AfterSupported as after_supported, InForks as in_forks, AfterForks as after_forks, AfterBlank as after_blank, AfterEntry as after_entry, AfterName as after_name, AfterVersion as after_version, InFiles as in_files, AfterFiles as after_files, InEdges as in_edges, AfterEdges as after_edges, AfterGap as after_gap, InExtras as in_extras, InExtra as in_extra}
use Rattle.ul_lock.specs.Region.{all_worlds, is_true}
use Rattle.ul_lock.specs.Orders.{edge_less, extra_less, file_less, block_less}
use Rattle.ul_lock_write.specs.Sheet.{forks_key, files_key, edges_key, supported_lines, fork_lines, file_lines, edge_lines, listed, extra_lines, table_lines, block_top, block_front, block_lines, head_lines, body_lines}
use Rattle.ul_lock_read.specs.Automaton.{may, second, step, head_of, plain_block, tops, name_tops, filled, several}
use Rattle.ul_lines.specs.Reader.{Each}
use Rattle.ul_lines.proofs.ForCallers.{Each-snoc}
use Rattle.ul_lock.specs.Increasing.{Rising, NoneOrSeveral}
use Rattle.ul_lock_read.specs.Shaped.{MayHave, IsExtra, IsBlock}
use Rattle.ul_lock_read.proofs.Rising.{Rising-snoc, several_are, tops_plain}

-- the lines that lead to a state
abbrev pub spelt : State → List Line
spelt start = []
spelt (after_first e) = first e ∷ []
spelt (after_root e r) = first e ∷ root r ∷ []
spelt (after_supported e r m) = first e ∷ root r ∷ supported_lines m
spelt (in_forks e r s ms) = first e ∷ root r ∷ supported_lines s ++ opens forks_key ∷ map item ms
spelt (after_forks h) = head_lines h
spelt (after_blank h bs) = body_lines h bs ++ gap ∷ []
spelt (after_entry h bs) = body_lines h bs ++ gap ∷ entry ∷ []
spelt (after_name h bs n) = body_lines h bs ++ gap ∷ entry ∷ name n ∷ []
spelt (after_version h bs n v) = body_lines h bs ++ gap ∷ entry ∷ name n ∷ version v ∷ []
spelt (in_files h bs n v fs) = body_lines h bs ++ gap ∷ entry ∷ name n ∷ version v ∷ opens files_key ∷ map file fs
spelt (after_files h bs n v fs) = body_lines h bs ++ block_top n v fs
spelt (in_edges h bs n v fs es) = body_lines h bs ++ (block_top n v fs ++ opens edges_key ∷ map edge es)
spelt (after_edges h bs n v fs es) = body_lines h bs ++ block_front n v fs es
spelt (after_gap h bs n v fs es) = body_lines h bs ++ (block_front n v fs es ++ gap ∷ [])
spelt (in_extras h bs n v fs es xs) = body_lines h bs ++ (block_front n v fs es ++ gap ∷ table ∷ flat_map extra_lines xs)
spelt (in_extra h bs n v fs es xs x ls) = body_lines h bs ++ (block_front n v fs es ++ gap ∷ table ∷ (flat_map extra_lines xs ++ opens x ∷ map edge ls))

-- all packages have files where they may
abbrev pub Allowed : Head → List Locked → Type 0
Allowed h bs = Each (λ b. MayHave h.edition b.files) bs

-- the blocks before, and the one that is being read
pub record Reads (h : Head) (bs : List Locked) (b : Locked) : Type 0 where
  pub forks : NoneOrSeveral h.forks
  pub blocks : Rising block_less bs
  pub each : Each IsBlock bs
  pub allowed : Allowed h bs
  pub top : tops block_less bs (plain_block b.name b.version [] [] []) ≡ true
  pub may_have : MayHave h.edition b.files
  pub files : Rising file_less b.files
  pub edges : Rising edge_less b.edges
  pub extras : Rising extra_less b.extras
  pub each_extra : Each IsExtra b.extras

pub record Between (h : Head) (bs : List Locked) : Type 0 where
  pub forks : NoneOrSeveral h.forks
  pub blocks : Rising block_less bs
  pub each : Each IsBlock bs
  pub allowed : Allowed h bs

-- what holds of what was read
abbrev pub Good : State → Type 0
Good start = Unit {0}
Good (after_first e) = Unit {0}
Good (after_root e r) = Unit {0}
Good (after_supported e r m) = Unit {0}
Good (in_forks e r s ms) = Unit {0}
Good (after_forks h) = Between h []
Good (after_blank h bs) = Between h bs
Good (after_entry h bs) = Between h bs
Good (after_name h bs n) = Between h bs × (name_tops bs n ≡ true)
Good (after_version h bs n v) = Reads h bs (plain_block n v [] [] [])
Good (in_files h bs n v fs) = Reads h bs (plain_block n v fs [] []) × (second h.edition ≡ true)
Good (after_files h bs n v fs) = Reads h bs (plain_block n v fs [] [])
Good (in_edges h bs n v fs es) = Reads h bs (plain_block n v fs es [])
Good (after_edges h bs n v fs es) = Reads h bs (plain_block n v fs es [])
Good (after_gap h bs n v fs es) = Reads h bs (plain_block n v fs es [])
Good (in_extras h bs n v fs es xs) = Reads h bs (plain_block n v fs es xs)
Good (in_extra h bs n v fs es xs x ls) = Reads h bs (plain_block n v fs es xs) × (tops extra_less xs (record { name = x; edges = [] }) ≡ true) × Rising edge_less ls

pub record Kept (s : State) (l : Line) (t : State) : Type 0 where
  pub lines : spelt t ≡ spelt s ++ l ∷ []
  pub good : Good s → Good t

some : State → Option State
some s = Some s

moved : (s : State) (l : Line) (x t : State) → Kept s l x → Some x ≡ Some t → Kept s l t
moved s l x t k e = let q : x ≡ t = cc in subst (λ u. Kept s l u) q k

moved_if : (s : State) (l : Line) (b : Bool) (x t : State) → (b ≡ true → Kept s l x) → may b x ≡ Some t → Kept s l t
moved_if s l true x t k e = moved s l x t (k refl) e
moved_if s l false x t k e = absurd cc

-- one way or the other
moved_or : (s : State) (l : Line) (b : Bool) (o p : Option State) (t : State) → (b ≡ true → o ≡ Some t → Kept s l t) → (b ≡ false → p ≡ Some t → Kept s l t) → cond b o p ≡ Some t → Kept s l t
moved_or s l true o p t k m e = k refl e
moved_or s l false o p t k m e = m refl e

no_state : (s : State) (l : Line) (t : State) → None ≡ Some t → Kept s l t
no_state s l t e = absurd cc

-- a block joins the others
pub body-snoc : (h : Head) (bs : List Locked) (b : Locked) → body_lines h (bs ++ b ∷ []) ≡ body_lines h bs ++ block_lines b
body-snoc h bs b = ap (λ ls. head_lines h ++ ls) (flat_map-append block_lines bs (b ∷ [])) ∙ (ap (λ ls. head_lines h ++ (flat_map block_lines bs ++ ls)) (append-nil (block_lines b)) ∙ sym (append_assoc (head_lines h) (flat_map block_lines bs) (block_lines b)))

pub Between-snoc : (h : Head) (bs : List Locked) (b : Locked) → Reads h bs b → Between h (bs ++ b ∷ [])
Between-snoc h bs b g = record {
  forks = g.forks;
  blocks = Rising-snoc block_less bs b g.blocks (tops_plain bs b ∙ g.top);
  each = Each-snoc IsBlock bs b g.each (record { files = g.files; edges = g.edges; extras = g.extras; each = g.each_extra });
  allowed = Each-snoc (λ c. MayHave h.edition c.files) bs b g.allowed g.may_have;
}

nothing_allowed : (e : Edition) → MayHave e []
nothing_allowed one = refl
nothing_allowed two = tt

second_allows : (e : Edition) (fs : List FileFields) → second e ≡ true → MayHave e fs
second_allows one fs h = absurd cc
second_allows two fs h = tt

supported_are : (m : Plain) → is_true m ≡ false → supported_lines m ≡ supported m ∷ []
supported_are m h = rw h refl

file_lines_are : (fs : List FileFields) → filled fs ≡ true → file_lines fs ≡ opens files_key ∷ map file fs ++ close ∷ []
file_lines_are [] h = absurd cc
file_lines_are (f ∷ fs) h = refl

edge_lines_are : (es : List Edge) → filled es ≡ true → edge_lines es ≡ opens edges_key ∷ map edge es ++ close ∷ []
edge_lines_are [] h = absurd cc
edge_lines_are (e ∷ es) h = refl

listed_are : (x : List ℕ) (es : List Edge) → filled es ≡ true → listed x es ≡ opens x ∷ map edge es ++ close ∷ []
listed_are x [] h = absurd cc
listed_are x (e ∷ es) h = refl

fork_lines_are : (ms : List Plain) → several ms ≡ true → fork_lines ms ≡ opens forks_key ∷ map item ms ++ close ∷ []
fork_lines_are [] h = absurd cc
fork_lines_are (e ∷ es) h = refl

table_lines_are : (xs : List Extra) → filled xs ≡ true → table_lines xs ≡ gap ∷ table ∷ flat_map extra_lines xs
table_lines_are [] h = absurd cc
table_lines_are (x ∷ xs) h = refl

key_is : (k c : List ℕ) → bytes_eq k c ≡ true → k ≡ c
key_is k c h = (bytes_eq-Decides k c).0 h

-- the order of extras reads names alone
pub extra_top : (xs : List Extra) (x : List ℕ) (ls : List Edge) → tops extra_less xs (record { name = x; edges = ls }) ≡ tops extra_less xs (record { name = x; edges = [] })
extra_top [] x ls = refl
extra_top (y ∷ []) x ls = refl
extra_top (y ∷ z ∷ xs) x ls = extra_top (z ∷ xs) x ls

back : (pre a b : List Line) → pre ++ (a ++ b) ≡ (pre ++ a) ++ b
back pre a b = sym (append_assoc pre a b)

regroup : (pre f a b : List Line) → (pre ++ f) ++ (a ++ b) ≡ (pre ++ (f ++ a)) ++ b
regroup pre f a b = simp append_assoc

regroup3 : (pre f a b : List Line) → pre ++ (f ++ (a ++ b)) ≡ (pre ++ (f ++ a)) ++ b
regroup3 pre f a b = simp append_assoc

regroup4 : (pre f g m b : List Line) → pre ++ (f ++ gap ∷ table ∷ (g ++ (m ++ b))) ≡ (pre ++ (f ++ gap ∷ table ∷ (g ++ m))) ++ b
regroup4 pre f g m b = ap (λ ls. pre ++ (f ++ gap ∷ table ∷ ls)) (sym (append_assoc g m b)) ∙ regroup3 pre f (gap ∷ table ∷ (g ++ m)) b

pub front_plain : (n : List ℕ) (v : Fields) (fs : List FileFields) → block_front n v fs [] ≡ block_top n v fs
front_plain n v fs = append-nil (block_top n v fs)

-- the block ends here, without a table
pub body-plain : (h : Head) (bs : List Locked) (n : List ℕ) (v : Fields) (fs : List FileFields) (es : List Edge) → body_lines h (bs ++ plain_block n v fs es [] ∷ []) ≡ body_lines h bs ++ block_front n v fs es
body-plain h bs n v fs es = body-snoc h bs (plain_block n v fs es []) ∙ ap (λ ls. body_lines h bs ++ ls) (append-nil (block_front n v fs es))

-- the block ends here, behind its files
pub body-top : (h : Head) (bs : List Locked) (n : List ℕ) (v : Fields) (fs : List FileFields) → body_lines h (bs ++ plain_block n v fs [] [] ∷ []) ≡ body_lines h bs ++ block_top n v fs
body-top h bs n v fs = body-plain h bs n v fs [] ∙ ap (λ ls. body_lines h bs ++ ls) (front_plain n v fs)

-- the block ends here, with a table
pub body-table : (h : Head) (bs : List Locked) (n : List ℕ) (v : Fields) (fs : List FileFields) (es : List Edge) (xs : List Extra) → filled xs ≡ true → body_lines h (bs ++ plain_block n v fs es xs ∷ []) ≡ body_lines h bs ++ (block_front n v fs es ++ gap ∷ table ∷ flat_map extra_lines xs)
body-table h bs n v fs es xs f = body-snoc h bs (plain_block n v fs es xs) ∙ ap (λ ls. body_lines h bs ++ (block_front n v fs es ++ ls)) (table_lines_are xs f)

-- one more extra
extras-snoc : (xs : List Extra) (x : Extra) → flat_map extra_lines (xs ++ x ∷ []) ≡ flat_map extra_lines xs ++ extra_lines x
extras-snoc xs x = flat_map-append extra_lines xs (x ∷ []) ∙ ap (λ ls. flat_map extra_lines xs ++ ls) (append-nil (extra_lines x))

-- the gap behind a block's files
gap_after : (h : Head) (bs : List Locked) (n : List ℕ) (v : Fields) (fs : List FileFields) → body_lines h bs ++ (block_front n v fs [] ++ gap ∷ []) ≡ (body_lines h bs ++ block_top n v fs) ++ gap ∷ []
gap_after h bs n v fs = ap (λ ls. body_lines h bs ++ (ls ++ gap ∷ [])) (front_plain n v fs) ∙ back (body_lines h bs) (block_top n v fs) (gap ∷ [])

-- the line that follows is added to what was read, and what was good stays good
pub kept : (s : State) (l : Line) (t : State) → step s l ≡ Some t → Kept s l t
kept start (first v) t e = moved _ _ (after_first v) t (record { lines = refl; good = λ g. tt }) e
kept (after_first v) (root r) t e = moved _ _ (after_root v r) t (record { lines = refl; good = λ g. tt }) e
kept (after_root v r) (supported m) t e = moved_or _ _ (is_true m) None (Some (after_supported v r m)) t (λ q f. no_state _ _ t f) (λ q f. moved _ _ (after_supported v r m) t (record { lines = ap (λ ls. first v ∷ root r ∷ ls) (supported_are m q); good = λ g. tt }) f) e
kept (after_root v r) (opens k) t e = moved_if _ _ (bytes_eq k forks_key) (in_forks v r all_worlds []) t (λ q. record { lines = ap (λ x. first v ∷ root r ∷ opens x ∷ []) (sym (key_is k forks_key q)); good = λ g. tt }) e
kept (after_root v r) gap t e = moved _ _ (after_blank (head_of v r all_worlds []) []) t (record { lines = refl; good = λ g. record { forks = tt; blocks = tt; each = tt; allowed = tt } }) e
kept (after_supported v r m) (opens k) t e = moved_if _ _ (bytes_eq k forks_key) (in_forks v r m []) t (λ q. record { lines = ap (λ x. first v ∷ root r ∷ supported_lines m ++ opens x ∷ []) (sym (key_is k forks_key q)); good = λ g. tt }) e
kept (after_supported v r m) gap t e = moved _ _ (after_blank (head_of v r m []) []) t (record { lines = ap (λ ls. first v ∷ root r ∷ (ls ++ gap ∷ [])) (append-nil (supported_lines m ++ []) ∙ append-nil (supported_lines m)); good = λ g. record { forks = tt; blocks = tt; each = tt; allowed = tt } }) e
kept (in_forks v r s ms) (item m) t e = moved _ _ (in_forks v r s (ms ++ m ∷ [])) t (record { lines = ap (λ ls. first v ∷ root r ∷ supported_lines s ++ opens forks_key ∷ ls) (map-append item ms (m ∷ [])) ∙ ap (λ ls. first v ∷ root r ∷ ls) (back (supported_lines s) (opens forks_key ∷ map item ms) (item m ∷ [])); good = λ g. tt }) e
kept (in_forks v r s ms) close t e = moved_if _ _ (several ms) (after_forks (head_of v r s ms)) t (λ q. record { lines = ap (λ ls. first v ∷ root r ∷ supported_lines s ++ ls) (fork_lines_are ms q) ∙ ap (λ ls. first v ∷ root r ∷ ls) (back (supported_lines s) (opens forks_key ∷ map item ms) (close ∷ [])); good = λ g. record { forks = several_are ms q; blocks = tt; each = tt; allowed = tt } }) e
kept (after_forks h) gap t e = moved _ _ (after_blank h []) t (record { lines = ap (λ ls. ls ++ gap ∷ []) (append-nil (head_lines h)); good = λ g. g }) e
kept (after_blank h bs) entry t e = moved _ _ (after_entry h bs) t (record { lines = back (body_lines h bs) (gap ∷ []) (entry ∷ []); good = λ g. g }) e
kept (after_entry h bs) (name n) t e = moved_if _ _ (name_tops bs n) (after_name h bs n) t (λ q. record { lines = back (body_lines h bs) (gap ∷ entry ∷ []) (name n ∷ []); good = λ g. (g, q) }) e
kept (after_name h bs n) (version v) t e = moved_if _ _ (tops block_less bs (plain_block n v [] [] [])) (after_version h bs n v) t (λ q. record { lines = back (body_lines h bs) (gap ∷ entry ∷ name n ∷ []) (version v ∷ []); good = λ g. record { forks = g.0.forks; blocks = g.0.blocks; each = g.0.each; allowed = g.0.allowed; top = q; may_have = nothing_allowed h.edition; files = tt; edges = tt; extras = tt; each_extra = tt } }) e
kept (after_version h bs n v) (opens k) t e =
    moved_or _ _ (bytes_eq k files_key) (may (second h.edition) (in_files h bs n v [])) (may (bytes_eq k edges_key) (in_edges h bs n v [] [])) t
    (λ q f. moved_if _ _ (second h.edition) (in_files h bs n v []) t (λ z. record { lines = back (body_lines h bs) (gap ∷ entry ∷ name n ∷ version v ∷ []) (opens files_key ∷ []) ∙ ap (λ x. (body_lines h bs ++ gap ∷ entry ∷ name n ∷ version v ∷ []) ++ opens x ∷ []) (sym (key_is k files_key q)); good = λ g. (g, z) }) f)
    (λ _ f. moved_if _ _ (bytes_eq k edges_key) (in_edges h bs n v [] []) t (λ q. record { lines = back (body_lines h bs) (gap ∷ entry ∷ name n ∷ version v ∷ []) (opens edges_key ∷ []) ∙ ap (λ x. (body_lines h bs ++ gap ∷ entry ∷ name n ∷ version v ∷ []) ++ opens x ∷ []) (sym (key_is k edges_key q)); good = λ g. g }) f) e
kept (after_version h bs n v) gap t e = moved _ _ (after_gap h bs n v [] []) t (record { lines = back (body_lines h bs) (gap ∷ entry ∷ name n ∷ version v ∷ []) (gap ∷ []); good = λ g. g }) e
kept (in_files h bs n v fs) (file x) t e = moved_if _ _ (tops file_less fs x) (in_files h bs n v (fs ++ x ∷ [])) t (λ q. record { lines = ap (λ ls. body_lines h bs ++ gap ∷ entry ∷ name n ∷ version v ∷ opens files_key ∷ ls) (map-append file fs (x ∷ [])) ∙ back (body_lines h bs) (gap ∷ entry ∷ name n ∷ version v ∷ opens files_key ∷ map file fs) (file x ∷ []); good = λ g. (record { forks = g.0.forks; blocks = g.0.blocks; each = g.0.each; allowed = g.0.allowed; top = g.0.top; may_have = second_allows h.edition (fs ++ x ∷ []) g.1; files = Rising-snoc file_less fs x g.0.files q; edges = tt; extras = tt; each_extra = tt }, g.1) }) e
kept (in_files h bs n v fs) close t e = moved_if _ _ (filled fs) (after_files h bs n v fs) t (λ q. record { lines = ap (λ ls. body_lines h bs ++ gap ∷ entry ∷ name n ∷ version v ∷ ls) (file_lines_are fs q) ∙ back (body_lines h bs) (gap ∷ entry ∷ name n ∷ version v ∷ opens files_key ∷ map file fs) (close ∷ []); good = λ g. g.0 }) e
kept (after_files h bs n v fs) (opens k) t e = moved_if _ _ (bytes_eq k edges_key) (in_edges h bs n v fs []) t (λ q. record { lines = back (body_lines h bs) (block_top n v fs) (opens edges_key ∷ []) ∙ ap (λ x. (body_lines h bs ++ block_top n v fs) ++ opens x ∷ []) (sym (key_is k edges_key q)); good = λ g. g }) e
kept (after_files h bs n v fs) gap t e = moved _ _ (after_gap h bs n v fs []) t (record { lines = gap_after h bs n v fs; good = λ g. g }) e
kept (in_edges h bs n v fs es) (edge x) t e = moved_if _ _ (tops edge_less es x) (in_edges h bs n v fs (es ++ x ∷ [])) t (λ q. record { lines = ap (λ ls. body_lines h bs ++ (block_top n v fs ++ opens edges_key ∷ ls)) (map-append edge es (x ∷ [])) ∙ regroup3 (body_lines h bs) (block_top n v fs) (opens edges_key ∷ map edge es) (edge x ∷ []); good = λ g. record { forks = g.forks; blocks = g.blocks; each = g.each; allowed = g.allowed; top = g.top; may_have = g.may_have; files = g.files; edges = Rising-snoc edge_less es x g.edges q; extras = tt; each_extra = tt } }) e
kept (in_edges h bs n v fs es) close t e = moved_if _ _ (filled es) (after_edges h bs n v fs es) t (λ q. record { lines = ap (λ ls. body_lines h bs ++ (block_top n v fs ++ ls)) (edge_lines_are es q) ∙ regroup3 (body_lines h bs) (block_top n v fs) (opens edges_key ∷ map edge es) (close ∷ []); good = λ g. g }) e
kept (after_edges h bs n v fs es) gap t e = moved _ _ (after_gap h bs n v fs es) t (record { lines = back (body_lines h bs) (block_front n v fs es) (gap ∷ []); good = λ g. g }) e
kept (after_gap h bs n v fs es) entry t e = moved _ _ (after_entry h (bs ++ plain_block n v fs es [] ∷ [])) t (record { lines = ap (λ ls. ls ++ gap ∷ entry ∷ []) (body-plain h bs n v fs es) ∙ regroup (body_lines h bs) (block_front n v fs es) (gap ∷ []) (entry ∷ []); good = λ g. Between-snoc h bs (plain_block n v fs es []) g }) e
kept (after_gap h bs n v fs es) table t e = moved _ _ (in_extras h bs n v fs es []) t (record { lines = regroup3 (body_lines h bs) (block_front n v fs es) (gap ∷ []) (table ∷ []); good = λ g. g }) e
kept (in_extras h bs n v fs es xs) (bare x) t e = moved_if _ _ (tops extra_less xs (record { name = x; edges = [] })) (in_extras h bs n v fs es (xs ++ record { name = x; edges = [] } ∷ [])) t (λ q. record { lines = ap (λ ls. body_lines h bs ++ (block_front n v fs es ++ gap ∷ table ∷ ls)) (extras-snoc xs (record { name = x; edges = [] })) ∙ regroup3 (body_lines h bs) (block_front n v fs es) (gap ∷ table ∷ flat_map extra_lines xs) (bare x ∷ []); good = λ g. record { forks = g.forks; blocks = g.blocks; each = g.each; allowed = g.allowed; top = g.top; may_have = g.may_have; files = g.files; edges = g.edges; extras = Rising-snoc extra_less xs (record { name = x; edges = [] }) g.extras q; each_extra = Each-snoc IsExtra xs (record { name = x; edges = [] }) g.each_extra tt } }) e
kept (in_extras h bs n v fs es xs) (opens x) t e = moved_if _ _ (tops extra_less xs (record { name = x; edges = [] })) (in_extra h bs n v fs es xs x []) t (λ q. record { lines = regroup3 (body_lines h bs) (block_front n v fs es) (gap ∷ table ∷ flat_map extra_lines xs) (opens x ∷ []); good = λ g. (g, q, tt) }) e
kept (in_extras h bs n v fs es xs) gap t e = moved_if _ _ (filled xs) (after_blank h (bs ++ plain_block n v fs es xs ∷ [])) t (λ q. record { lines = ap (λ ls. ls ++ gap ∷ []) (body-table h bs n v fs es xs q); good = λ g. Between-snoc h bs (plain_block n v fs es xs) g }) e
kept (in_extra h bs n v fs es xs x ls) (edge y) t e = moved_if _ _ (tops edge_less ls y) (in_extra h bs n v fs es xs x (ls ++ y ∷ [])) t (λ q. record { lines = ap (λ k. body_lines h bs ++ (block_front n v fs es ++ gap ∷ table ∷ (flat_map extra_lines xs ++ opens x ∷ k))) (map-append edge ls (y ∷ [])) ∙ regroup4 (body_lines h bs) (block_front n v fs es) (flat_map extra_lines xs) (opens x ∷ map edge ls) (edge y ∷ []); good = λ g. (g.0, g.1, Rising-snoc edge_less ls y g.2 q) }) e
kept (in_extra h bs n v fs es xs x ls) close t e = moved_if _ _ (filled ls) (in_extras h bs n v fs es (xs ++ record { name = x; edges = ls } ∷ [])) t (λ q. record { lines = ap (λ k. body_lines h bs ++ (block_front n v fs es ++ gap ∷ table ∷ k)) (extras-snoc xs (record { name = x; edges = ls }) ∙ ap (λ k. flat_map extra_lines xs ++ k) (listed_are x ls q)) ∙ regroup4 (body_lines h bs) (block_front n v fs es) (flat_map extra_lines xs) (opens x ∷ map edge ls) (close ∷ []); good = λ g. record { forks = g.0.forks; blocks = g.0.blocks; each = g.0.each; allowed = g.0.allowed; top = g.0.top; may_have = g.0.may_have; files = g.0.files; edges = g.0.edges; extras = Rising-snoc extra_less xs (record { name = x; edges = ls }) g.0.extras (extra_top xs x ls ∙ g.1); each_extra = Each-snoc IsExtra xs (record { name = x; edges = ls }) g.0.each_extra g.2 } }) e
kept s l t e = no_state s l t e
