-- The lines of each sheet run to an end with that sheet.
use Rattle.std.proofs.Common.{◌≡◌, ℕ, List, [], ◌∷◌, ◌++◌, map, Bool, true, false, cond, refl, sym, ap, subst, ◌∙◌, append_assoc, Some}
use Rattle.std.specs.Prelude.{flat_map}
use Rattle.std.proofs.lemmas.List.{append-nil}
use Rattle.std.proofs.lemmas.List.Concat.{flat_map_single}
use Rattle.ul_nodes.specs.Plain.{truth, node, Plain}
use Rattle.ul_version.specs.Fields.{Fields}
use Rattle.ul_requirement.specs.Fields.{FileFields}
use Rattle.ul_lock.specs.declared.parts.Edge.{Edge}
use Rattle.ul_lock.specs.declared.parts.Extra.{Extra}
use Rattle.ul_lock.specs.declared.parts.Locked.{Locked}
use Rattle.ul_lock_lines.specs.declared.lines.Edition.{Edition}
use Rattle.ul_lock_lines.specs.declared.lines.Edition.TheVariants.{First as one, Second as two}
use Rattle.ul_lock_write.specs.declared.sheets.Head.{Head}
use Rattle.ul_lock_write.specs.declared.sheets.Sheet.{Sheet}
use Rattle.ul_lock_lines.specs.declared.lines.Line.{Line}
use Rattle.ul_lock_lines.specs.declared.lines.Line.TheVariants.{First as first, Root as root, Supported as supported, Item as item, Close as close, Gap as gap, Entry as entry, Name as name, Version as version, File as file, Edge as edge, Table as table, Opens as opens, Bare as bare}
use Rattle.ul_lock_read.specs.declared.states.State.{State}
use Rattle.ul_lock_read.specs.declared.states.State.TheVariants.{Start as start, AfterRoot as after_root, AfterSupported as after_supported, InForks as in_forks, AfterForks as after_forks, AfterEntry as after_entry, AfterName as after_name, AfterVersion as after_version, InFiles as in_files, AfterFiles as after_files, InEdges as in_edges, AfterEdges as after_edges, AfterGap as after_gap, InExtras as in_extras, InExtra as in_extra}
use Rattle.ul_lock.specs.Region.{all_worlds, is_true}
use Rattle.ul_lock.specs.Orders.{edge_less, extra_less, file_less, block_less}
use Rattle.ul_lock_write.specs.Sheet.{forks_key, files_key, edges_key, fork_lines, file_lines, edge_lines, listed, extra_lines, table_lines, block_lines, head_lines, sheet_lines}
use Rattle.ul_lock_read.specs.Automaton.{lock_reader, second, step, run, final, head_of, plain_block, sheet_of, tops}
use Rattle.ul_lines.specs.Reader.{Each, Accepts as Reads}
use Rattle.ul_lines.proofs.ForCallers.{run_then as run_then_by, run_one as run_one_by}
use Rattle.ul_lock.specs.Increasing.{NoneOrSeveral, Rising}
use Rattle.ul_lock_read.specs.Shaped.{MayHave, IsExtra, IsBlock, IsSheet}
use Rattle.ul_lock_read.proofs.Rising.{Rising-mid, are_several, name_tops_from, tops_plain}
use Rattle.ul_lock_read.proofs.Kept.{extra_top}
use Rattle.ul_lock_read.proofs.Finishes.{may_is}

-- ---- one list, element after element

run_then : (s : State) (xs ys : List Line) (t u : State) → run s xs ≡ Some t → run t ys ≡ Some u → run s (xs ++ ys) ≡ Some u
run_then s xs ys t u e f = run_then_by lock_reader s xs ys t u e f

run_one : (s : State) (l : Line) (ls : List Line) (t u : State) → step s l ≡ Some t → run t ls ≡ Some u → run s (l ∷ ls) ≡ Some u
run_one s l ls t u e f = run_one_by lock_reader s l ls t u e f

run_list : {A : Type 0} (at : List A → State) (spell : A → List Line) (less : A → A → Bool) (P : A → Type 0)
    → ((xs : List A) (x : A) → tops less xs x ≡ true → P x → run (at xs) (spell x) ≡ Some (at (xs ++ x ∷ [])))
    → (done xs : List A) → Rising less (done ++ xs) → Each P xs → run (at done) (flat_map spell xs) ≡ Some (at (done ++ xs))
run_list at spell less P each done [] r p = ap (λ x. Some (at x)) (sym (append-nil done))
run_list at spell less P each done (x ∷ xs) r p =
    let q : (done ++ x ∷ []) ++ xs ≡ done ++ x ∷ xs = append_assoc done (x ∷ []) xs in
    run_then (at done) (spell x) (flat_map spell xs) (at (done ++ x ∷ [])) (at (done ++ x ∷ xs)) (each done x (Rising-mid less done x xs r) p.0)
    (run_list at spell less P each (done ++ x ∷ []) xs (subst (λ k. Rising less k) (sym q) r) p.1 ∙ ap (λ k. Some (at k)) q)

Each-all : {A : Type 0} (xs : List A) → Each (λ _. Unit {0}) xs
Each-all [] = tt
Each-all (x ∷ xs) = (tt, Each-all xs)

Rising-all : {A : Type 0} (xs : List A) → Rising (λ _ _. true) xs
Rising-all [] = tt
Rising-all (x ∷ []) = (tt, tt)
Rising-all (x ∷ y ∷ xs) = (refl, Rising-all (y ∷ xs))

-- a line for each
run_map : {A : Type 0} (at : List A → State) (spell : A → Line) (less : A → A → Bool)
    → ((xs : List A) (x : A) → tops less xs x ≡ true → step (at xs) (spell x) ≡ Some (at (xs ++ x ∷ [])))
    → (xs : List A) → Rising less xs → run (at []) (map spell xs) ≡ Some (at xs)
run_map at spell less each xs r =
    ap (λ k. run (at []) k) (sym (flat_map_single spell xs))
    ∙ run_list at (λ x. spell x ∷ []) less (λ _. Unit {0}) (λ ys y t _. run_one (at ys) (spell y) [] (at (ys ++ y ∷ [])) (at (ys ++ y ∷ [])) (each ys y t) refl) [] xs r (Each-all xs)

run_forks : (v : Edition) (r : List ℕ) (s : Plain) (ms : List Plain) → run (in_forks v r s []) (map item ms) ≡ Some (in_forks v r s ms)
run_forks v r s ms = run_map (λ k. in_forks v r s k) item (λ _ _. true) (λ xs x t. refl) ms (Rising-all ms)

run_in_files : (h : Head) (bs : List Locked) (n : List ℕ) (v : Fields) (fs : List FileFields) → Rising file_less fs → run (in_files h bs n v []) (map file fs) ≡ Some (in_files h bs n v fs)
run_in_files h bs n v fs r = run_map (λ k. in_files h bs n v k) file file_less (λ xs x t. may_is _ _ t) fs r

run_in_edges : (h : Head) (bs : List Locked) (n : List ℕ) (v : Fields) (fs : List FileFields) (es : List Edge) → Rising edge_less es → run (in_edges h bs n v fs []) (map edge es) ≡ Some (in_edges h bs n v fs es)
run_in_edges h bs n v fs es r = run_map (λ k. in_edges h bs n v fs k) edge edge_less (λ xs x t. may_is _ _ t) es r

run_in_extra : (h : Head) (bs : List Locked) (n : List ℕ) (v : Fields) (fs : List FileFields) (es : List Edge) (xs : List Extra) (x : List ℕ) (ls : List Edge) → Rising edge_less ls → run (in_extra h bs n v fs es xs x []) (map edge ls) ≡ Some (in_extra h bs n v fs es xs x ls)
run_in_extra h bs n v fs es xs x ls r = run_map (λ k. in_extra h bs n v fs es xs x k) edge edge_less (λ ys y t. may_is _ _ t) ls r

run_extra : (h : Head) (bs : List Locked) (n : List ℕ) (v : Fields) (fs : List FileFields) (es : List Edge) (xs : List Extra) (x : List ℕ) (ls : List Edge)
    → tops extra_less xs (record { name = x; edges = ls }) ≡ true → Rising edge_less ls
    → run (in_extras h bs n v fs es xs) (listed x ls) ≡ Some (in_extras h bs n v fs es (xs ++ record { name = x; edges = ls } ∷ []))
run_extra h bs n v fs es xs x [] t r = run_one (in_extras h bs n v fs es xs) (bare x) [] (in_extras h bs n v fs es (xs ++ record { name = x; edges = [] } ∷ [])) _ (may_is _ _ t) refl
run_extra h bs n v fs es xs x (l ∷ ls) t r =
    run_one (in_extras h bs n v fs es xs) (opens x) (map edge (l ∷ ls) ++ close ∷ []) (in_extra h bs n v fs es xs x []) _ (may_is _ _ (sym (extra_top xs x (l ∷ ls)) ∙ t))
    (run_then (in_extra h bs n v fs es xs x []) (map edge (l ∷ ls)) (close ∷ []) (in_extra h bs n v fs es xs x (l ∷ ls)) _ (run_in_extra h bs n v fs es xs x (l ∷ ls) r) refl)

run_table : (h : Head) (bs : List Locked) (n : List ℕ) (v : Fields) (fs : List FileFields) (es : List Edge) (xs : List Extra) → Rising extra_less xs → Each IsExtra xs
    → run (after_gap h bs n v fs es) (table ∷ flat_map extra_lines xs) ≡ Some (in_extras h bs n v fs es xs)
run_table h bs n v fs es xs r p =
    run_one (after_gap h bs n v fs es) table (flat_map extra_lines xs) (in_extras h bs n v fs es []) _ refl
    (run_list (λ k. in_extras h bs n v fs es k) extra_lines extra_less IsExtra (λ ys y t q. run_extra h bs n v fs es ys y.name y.edges t q) [] xs r p)

-- ---- blocks

-- a state at which these blocks have been read, and another may follow
pub record Stands (h : Head) (bs : List Locked) (s : State) : Type 0 where
  pub final : final s ≡ Some (sheet_of h bs)
  pub next : run s (gap ∷ entry ∷ []) ≡ Some (after_entry h bs)

pub record Reaches (h : Head) (bs : List Locked) (s : State) (ls : List Line) : Type 0 where
  pub last : State
  pub runs : run s ls ≡ Some last
  pub stands : Stands h bs last

-- a state behind a block's files: its edges or an empty line may follow, or the end
record Filed (h : Head) (bs : List Locked) (n : List ℕ) (v : Fields) (fs : List FileFields) (s : State) : Type 0 where
  stands : Stands h (bs ++ plain_block n v fs [] [] ∷ []) s
  pauses : step s gap ≡ Some (after_gap h bs n v fs [])
  needs : run s (opens (edges_key) ∷ []) ≡ Some (in_edges h bs n v fs [])

run_edges : (h : Head) (bs : List Locked) (n : List ℕ) (v : Fields) (fs : List FileFields) (s : State) (e : Edge) (es : List Edge) → Filed h bs n v fs s → Rising edge_less (e ∷ es) → run s (edge_lines (e ∷ es)) ≡ Some (after_edges h bs n v fs (e ∷ es))
run_edges h bs n v fs s e es k r = run_then s (opens edges_key ∷ []) (map edge (e ∷ es) ++ close ∷ []) (in_edges h bs n v fs []) _ k.needs (run_then (in_edges h bs n v fs []) (map edge (e ∷ es)) (close ∷ []) (in_edges h bs n v fs (e ∷ es)) _ (run_in_edges h bs n v fs (e ∷ es) r) refl)

-- behind the files
run_rest : (h : Head) (bs : List Locked) (n : List ℕ) (v : Fields) (fs : List FileFields) (s : State) (es : List Edge) (xs : List Extra) → Filed h bs n v fs s → Rising edge_less es → Rising extra_less xs → Each IsExtra xs
    → Reaches h (bs ++ plain_block n v fs es xs ∷ []) s (edge_lines es ++ table_lines xs)
run_rest h bs n v fs s [] [] k re rx p = record { last = s; runs = refl; stands = k.stands }
run_rest h bs n v fs s [] (x ∷ xs) k re rx p = record {
  last = in_extras h bs n v fs [] (x ∷ xs);
  runs = run_one s gap (table ∷ flat_map extra_lines (x ∷ xs)) (after_gap h bs n v fs []) _ k.pauses (run_table h bs n v fs [] (x ∷ xs) rx p);
  stands = record { final = refl; next = refl };
}
run_rest h bs n v fs s (e ∷ es) [] k re rx p = record {
  last = after_edges h bs n v fs (e ∷ es);
  runs = run_then s (edge_lines (e ∷ es)) [] (after_edges h bs n v fs (e ∷ es)) _ (run_edges h bs n v fs s e es k re) refl;
  stands = record { final = refl; next = refl };
}
run_rest h bs n v fs s (e ∷ es) (x ∷ xs) k re rx p = record {
  last = in_extras h bs n v fs (e ∷ es) (x ∷ xs);
  runs = run_then s (edge_lines (e ∷ es)) (gap ∷ table ∷ flat_map extra_lines (x ∷ xs)) (after_edges h bs n v fs (e ∷ es)) _ (run_edges h bs n v fs s e es k re)
      (run_one (after_edges h bs n v fs (e ∷ es)) gap (table ∷ flat_map extra_lines (x ∷ xs)) (after_gap h bs n v fs (e ∷ es)) _ refl (run_table h bs n v fs (e ∷ es) (x ∷ xs) rx p));
  stands = record { final = refl; next = refl };
}

record ReachesFiles (h : Head) (bs : List Locked) (n : List ℕ) (v : Fields) (fs : List FileFields) : Type 0 where
  last : State
  runs : run (after_version h bs n v) (file_lines fs) ≡ Some last
  filed : Filed h bs n v fs last

is_second : (e : Edition) (f : FileFields) (fs : List FileFields) → MayHave e (f ∷ fs) → second e ≡ true
is_second one f fs h = absurd cc
is_second two f fs h = refl

run_files : (h : Head) (bs : List Locked) (n : List ℕ) (v : Fields) (fs : List FileFields) → MayHave h.edition fs → Rising file_less fs → ReachesFiles h bs n v fs
run_files h bs n v [] m r = record { last = after_version h bs n v; runs = refl; filed = record { stands = record { final = refl; next = refl }; pauses = refl; needs = refl } }
run_files h bs n v (f ∷ fs) m r = record {
  last = after_files h bs n v (f ∷ fs);
  runs = run_one (after_version h bs n v) (opens files_key) (map file (f ∷ fs) ++ close ∷ []) (in_files h bs n v []) _ (may_is _ _ (is_second h.edition f fs m))
      (run_then (in_files h bs n v []) (map file (f ∷ fs)) (close ∷ []) (in_files h bs n v (f ∷ fs)) _ (run_in_files h bs n v (f ∷ fs) r) refl);
  filed = record { stands = record { final = refl; next = refl }; pauses = refl; needs = refl };
}

run_block : (h : Head) (bs : List Locked) (b : Locked) (s : State) → Stands h bs s → tops block_less bs b ≡ true → IsBlock b → MayHave h.edition b.files → Reaches h (bs ++ b ∷ []) s (block_lines b)
run_block h bs b s at t k m =
    let top = sym (tops_plain bs b) ∙ t in
    let f = run_files h bs b.name b.version b.files m k.files in
    let r = run_rest h bs b.name b.version b.files f.last b.edges b.extras f.filed k.edges k.extras k.each in
    let rest = edge_lines b.edges ++ table_lines b.extras in
    let all : run s (gap ∷ entry ∷ name b.name ∷ version b.version ∷ (file_lines b.files ++ rest)) ≡ Some r.last =
    run_then s (gap ∷ entry ∷ []) (name b.name ∷ version b.version ∷ (file_lines b.files ++ rest)) (after_entry h bs) r.last at.next
    (run_one (after_entry h bs) (name b.name) (version b.version ∷ (file_lines b.files ++ rest)) (after_name h bs b.name) r.last (may_is _ _ (name_tops_from bs b.name b.version top))
    (run_one (after_name h bs b.name) (version b.version) (file_lines b.files ++ rest) (after_version h bs b.name b.version) r.last (may_is _ _ top)
    (run_then (after_version h bs b.name b.version) (file_lines b.files) rest f.last r.last f.runs r.runs))) in
    record {
      last = r.last;
      runs = ap (λ ls. run s (gap ∷ entry ∷ name b.name ∷ version b.version ∷ ls)) (append_assoc (file_lines b.files) (edge_lines b.edges) (table_lines b.extras)) ∙ all;
      stands = r.stands;
    }

run_blocks : (h : Head) (done bs : List Locked) (s : State) → Stands h done s → Rising block_less (done ++ bs) → Each IsBlock bs → Each (λ b. MayHave h.edition b.files) bs → Reaches h (done ++ bs) s (flat_map block_lines bs)
run_blocks h done [] s at r p m = record { last = s; runs = refl; stands = subst (λ k. Stands h k s) (sym (append-nil done)) at }
run_blocks h done (b ∷ bs) s at r p m =
    let q : (done ++ b ∷ []) ++ bs ≡ done ++ b ∷ bs = append_assoc done (b ∷ []) bs in
    let once = run_block h done b s at (Rising-mid block_less done b bs r) p.0 m.0 in
    let more = run_blocks h (done ++ b ∷ []) bs once.last once.stands (subst (λ k. Rising block_less k) (sym q) r) p.1 m.1 in
    record { last = more.last; runs = run_then s (block_lines b) (flat_map block_lines bs) once.last more.last once.runs more.runs; stands = subst (λ k. Stands h k more.last) q more.stands }

-- ---- the top lines

run_closing : (v : Edition) (r : List ℕ) (s : Plain) (m : Plain) (ms : List Plain) → NoneOrSeveral (m ∷ ms) → run (in_forks v r s []) (map item (m ∷ ms) ++ close ∷ []) ≡ Some (after_forks (head_of v r s (m ∷ ms)))
run_closing v r s m ms k = run_then (in_forks v r s []) (map item (m ∷ ms)) (close ∷ []) (in_forks v r s (m ∷ ms)) _ (run_forks v r s (m ∷ ms)) (run_one (in_forks v r s (m ∷ ms)) close [] (after_forks (head_of v r s (m ∷ ms))) _ (may_is _ _ (are_several m ms k)) refl)

-- true or not, and which tree it then is
true_is : (m : Plain) → is_true m ≡ true → all_worlds ≡ m
true_is (truth true) h = refl
true_is (truth false) h = absurd cc
true_is (node l d bs) h = absurd cc

run_forks_lines : (v : Edition) (r : List ℕ) (s : Plain) (ms : List Plain) (at : State) → Stands (head_of v r s []) [] at → ((k : Line) → opens forks_key ≡ k → step at k ≡ Some (in_forks v r s [])) → NoneOrSeveral ms → Reaches (head_of v r s ms) [] at (fork_lines ms)
run_forks_lines v r s [] at st to k = record { last = at; runs = refl; stands = st }
run_forks_lines v r s (m ∷ ms) at st to k = record { last = after_forks (head_of v r s (m ∷ ms)); runs = run_one at (opens forks_key) (map item (m ∷ ms) ++ close ∷ []) (in_forks v r s []) _ (to _ refl) (run_closing v r s m ms k); stands = record { final = refl; next = refl } }

run_supported : (v : Edition) (r : List ℕ) (s : Plain) (ms : List Plain) (b : Bool) → is_true s ≡ b → NoneOrSeveral ms → Reaches (head_of v r s ms) [] start (first v ∷ root r ∷ cond b [] (supported s ∷ []) ++ fork_lines ms)
run_supported v r s ms true q k =
    subst (λ z. Reaches (head_of v r z ms) [] start (first v ∷ root r ∷ fork_lines ms)) (true_is s q)
    (let a = run_forks_lines v r all_worlds ms (after_root v r) (record { final = refl; next = refl }) (λ l e. subst (λ z. step (after_root v r) z ≡ Some (in_forks v r all_worlds [])) e refl) k in
    record { last = a.last; runs = a.runs; stands = a.stands })
run_supported v r s ms false q k =
    let a = run_forks_lines v r s ms (after_supported v r s) (record { final = refl; next = refl }) (λ l e. subst (λ z. step (after_supported v r s) z ≡ Some (in_forks v r s [])) e refl) k in
    record { last = a.last; runs = run_one (after_root v r) (supported s) (fork_lines ms) (after_supported v r s) a.last (bounded_by v r s q) a.runs; stands = a.stands }
  where
    bounded_by : (v : Edition) (r : List ℕ) (s : Plain) → is_true s ≡ false → step (after_root v r) (supported s) ≡ Some (after_supported v r s)
    bounded_by v r s q = rw q refl

run_head : (h : Head) → NoneOrSeveral h.forks → Reaches h [] start (head_lines h)
run_head h k = run_supported h.edition h.root h.supported h.forks (is_true h.supported) refl k

-- the reader goes over the lines of each sheet, and says the sheet
pub accepts : (x : Sheet) → IsSheet x → Reads lock_reader (sheet_lines x) x
accepts x k =
    let a = run_head x.head k.forks in
    let b = run_blocks x.head [] x.packages a.last a.stands k.blocks k.each k.allowed in
    record { last = b.last; runs = run_then start (head_lines x.head) (flat_map block_lines x.packages) a.last b.last a.runs b.runs; ended = b.stands.final }
