-- What is read of a line is spelled so, and what is spelled so is read: the values.
use Rattle.std.proofs.Common.{◌≡◌, ℕ, List, [], ◌∷◌, ◌++◌, Bool, true, false, cond, ◌||◌, eqb, refl, sym, ap, subst, ◌∙◌, arith, Option, Some, None}
use Rattle.std.specs.Prelude.{option_and_then, option_map, codes, bytes_eq, IfSome}
use Rattle.std.specs.Char.{is_ascii}
use Rattle.std.specs.Cmp.{first_so, second_so}
use Rattle.std.specs.List.{list_all}
use Rattle.std.proofs.lemmas.Bool.{eqb-true}
use Rattle.std.proofs.lemmas.Bool.Decides.{nat_tests}
use Rattle.ul_base.specs.Names.{IsNormalName, IsPlain, name_of, is_normal_byte}
use Rattle.ul_base.proofs.ForCallers.{name_is_plain, name_reads_itself}
use Rattle.ul_version.specs.Fields.{IsVersion}
use Rattle.ul_version.specs.Reading.{version_of}
use Rattle.ul_version.specs.Texts.{version_text, is_text_byte}
use Rattle.ul_version.proofs.ForCallers.{plain as text_is_plain, versions as read_is_version, version-read}
use Rattle.ul_nodes.specs.Plain.{truth, node, Plain}
use Rattle.ul_marker_text.specs.MarkerText.{marker_text}
use Rattle.ul_marker_text.specs.MarkerOfText.{is_readable, marker_of_text}
use Rattle.ul_marker_text.proofs.ForCallers.{star_is_none, truth_readable}
use Rattle.ul_lock.proofs.ForCallers.{all_region}
use Rattle.ul_lock_lines.proofs.Markers.{region_is, region_again, region_10, region_92}
use Rattle.ul_version.specs.Fields.{Fields}
use Rattle.ul_requirement.specs.Fields.{FileFields, IsFile, is_file_byte, is_file_name, is_hex, is_digest}
use Rattle.ul_lines.specs.Pieces.{has}
use Rattle.ul_lines.specs.Lines.{ends_line}
use Rattle.ul_lines.proofs.ForCallers.{some_is, bind_some, map_some, same_text, bytes_eq_self, has_none, skip_line}
use Rattle.ul_lock.specs.declared.parts.Edge.{Edge}
use Rattle.ul_lock_lines.specs.declared.lines.Edition.TheVariants.{First as one, Second as two}
use Rattle.ul_lock_lines.specs.declared.lines.Line.{Line}
use Rattle.ul_lock_lines.specs.declared.lines.Line.TheVariants.{First as first, Root as root, Supported as supported, Item as item, Close as close, Gap as gap, Entry as entry, Name as name, Version as version, File as file, Edge as edge, Table as table, Opens as opens, Bare as bare}
use Rattle.ul_lock_lines.specs.declared.lines.RawFile.{RawFile}
use Rattle.ul_lock_lines.specs.declared.lines.RawEdge.{RawEdge}
use Rattle.ul_lock_lines.specs.declared.lines.RawLine.{RawLine}
use Rattle.ul_lock_lines.specs.declared.lines.RawLine.TheVariants.{First as raw_first, Root as raw_root, Supported as raw_supported, Item as raw_item, Close as raw_close, Gap as raw_gap, Entry as raw_entry, Name as raw_name, Version as raw_version, File as raw_file, Edge as raw_edge, Table as raw_table, Opens as raw_opens, Bare as raw_bare}
use Rattle.ul_lock.specs.Region.{all_worlds, is_true}
use Rattle.ul_lock_lines.specs.Raw.{part, end_text, spell_raw}
use Rattle.ul_lock_lines.specs.Text.{escaped, marker_line, fork_line, marker_part, raw_edge_of, raw_file_of, raw_of, spell, IsReadRegion, Fit}
use Rattle.ul_lock.specs.WellFormed.{IsEdge}
use Rattle.ul_lock_lines.specs.LineReading.{ascii_at, kept_name, name_at, kept_version, version_at, unescaped, marker_at, fork_at, some_text, name_option, marker_option, edge_made, edge_with_extra, edge_with_version, edge_with_name, edge_at, file_made, file_with_name, file_at, typed, candidate, line_of}
use Rattle.ul_lock_lines.proofs.LineLaws.{Cuttable, IsKeyText, candidate_is, candidate_again}

-- ---- tools

pick_true : {A : Type 0} (b : Bool) (o : Option A) (x : A) → cond b o None ≡ Some x → (b ≡ true) × (o ≡ Some x)
pick_true true o x e = (refl, e)
pick_true false o x e = absurd cc

-- a weaker test
all_weaker : (p q : ℕ → Bool) → ((c : ℕ) → p c ≡ true → q c ≡ true) → (t : List ℕ) → list_all p t ≡ true → list_all q t ≡ true
all_weaker p q w [] h = refl
all_weaker p q w (x ∷ t) h = rw (w x (first_so _ _ h)) (all_weaker p q w t (second_so _ _ h))

normal_is_ascii : (c : ℕ) → is_normal_byte c ≡ true → is_ascii c ≡ true
normal_is_ascii c h = grind (arith, nat_tests)

file_is_ascii : (c : ℕ) → is_file_byte c ≡ true → is_ascii c ≡ true
file_is_ascii c h = grind (arith, nat_tests)

hex_is_ascii : (c : ℕ) → is_hex c ≡ true → is_ascii c ≡ true
hex_is_ascii c h = grind (arith, nat_tests)

-- ---- names

ascii_is : (t y : List ℕ) → ascii_at t ≡ Some y → t ≡ y
ascii_is t y e = some_is t y (pick_true (list_all is_ascii t) (Some t) y e).1

pub name_is : (t n : List ℕ) → name_at t ≡ Some n → (n ≡ t) × IsNormalName n
unfolding name_at
name_is t n e =
    let a = bind_some (option_and_then name_of (ascii_at t)) (kept_name t) n e in
    let c = bind_some (ascii_at t) name_of a.0 a.1 in
    let k = pick_true (bytes_eq a.0 t) (Some a.0) n a.2 in
    let q : a.0 ≡ n = some_is a.0 n k.1 in
    (sym q ∙ same_text a.0 t k.0, subst (λ z. IsNormalName z) q (name_reads_itself c.0 a.0 c.2))

pub name_again : (n : List ℕ) → IsNormalName n → name_at n ≡ Some n
unfolding name_at
name_again n h =
    let a : list_all is_ascii n ≡ true = all_weaker is_normal_byte is_ascii normal_is_ascii n (name_is_plain n h).1 in
    rw (a, h, bytes_eq_self n) refl

-- ---- versions

kept_is : (t : List ℕ) (f v : Fields) → kept_version t f ≡ Some v → (version_text v ≡ t) × (f ≡ v)
kept_is t f v e =
    let a = pick_true (bytes_eq (version_text f) t) (Some f) v e in
    let q : f ≡ v = some_is f v a.1 in
    (ap version_text (sym q) ∙ same_text (version_text f) t a.0, q)

pub version_is : (t : List ℕ) (v : Fields) → version_at t ≡ Some v → (version_text v ≡ t) × IsVersion v
unfolding version_at
version_is t v e =
    let a = bind_some (version_of t) (kept_version t) v e in
    let k = kept_is t a.0 v a.2 in
    (k.0, subst (λ z. IsVersion z) k.1 (read_is_version t a.0 a.1))

pub version_again : (v : Fields) → IsVersion v → version_at (version_text v) ≡ Some v
unfolding version_at
version_again v h = rw (version-read v h, bytes_eq_self (version_text v)) refl

-- ---- markers

unescape_again : (t : List ℕ) → has 92 t ≡ false → unescaped (escaped t) ≡ t
unescape_again [] h = refl
unescape_again (x ∷ t) h = by_slash (eqb x 92) (eqb x 34) refl refl (λ k. unescape_again t k) h
  where
    by_slash : (a b : Bool) → eqb x 92 ≡ a → eqb x 34 ≡ b → (has 92 t ≡ false → unescaped (escaped t) ≡ t) → (a || has 92 t) ≡ false → unescaped (cond b (92 ∷ 34 ∷ escaped t) (x ∷ escaped t)) ≡ x ∷ t
    by_slash true b p q more k = absurd cc
    by_slash false true p q more k = let e : x ≡ 34 = eqb-true x 34 q in ap (λ z. 34 ∷ z) (more k) ∙ ap (λ z. z ∷ t) (sym e)
    by_slash false false p q more k = rw p (ap (λ z. x ∷ z) (more k))

-- all worlds are read
pub all_readable : IsReadRegion all_worlds
all_readable = record { region = all_region; readable = truth_readable true }

marker_is : (t : List ℕ) (m : Plain) → marker_at t ≡ Some m → (marker_line m ≡ t) × (IsReadRegion m × (is_true m ≡ false))
unfolding marker_at
marker_is t m e =
    let a = pick_true (bytes_eq (escaped (unescaped t)) t) (marker_of_text (unescaped t)) m e in
    let k = region_is (unescaped t) m a.1 in
    (ap escaped k.text ∙ same_text (escaped (unescaped t)) t a.0, (k.region, k.within))

marker_again : (m : Plain) → IsReadRegion m → is_true m ≡ false → marker_at (marker_line m) ≡ Some m
unfolding marker_at
marker_again m h k = rw (unescape_again (marker_text m) (region_92 m h k), bytes_eq_self (escaped (marker_text m))) (region_again m h k)

star_is : marker_at (42 ∷ []) ≡ None
unfolding marker_at
star_is = star_is_none

-- a marker's line isn't `*`
no_star : (m : Plain) → IsReadRegion m → is_true m ≡ false → bytes_eq (marker_line m) (42 ∷ []) ≡ false
no_star m h k = by_star (bytes_eq (marker_line m) (42 ∷ [])) refl
  where
    by_star : (b : Bool) → bytes_eq (marker_line m) (42 ∷ []) ≡ b → bytes_eq (marker_line m) (42 ∷ []) ≡ false
    by_star false q = q
    by_star true q = let e : Some m ≡ None = sym (marker_again m h k) ∙ (ap marker_at (same_text (marker_line m) (42 ∷ []) q) ∙ star_is) in absurd cc

fork_by : (t : List ℕ) (m : Plain) (b : Bool) → bytes_eq t (42 ∷ []) ≡ b → cond b (Some all_worlds) (marker_at t) ≡ Some m → (fork_line m ≡ t) × IsReadRegion m
fork_by t m true q e = subst (λ z. (fork_line z ≡ t) × IsReadRegion z) (some_is all_worlds m e) (sym (same_text t (42 ∷ []) q), all_readable)
fork_by t m false q e =
    let k = marker_is t m e in
    (ap (λ z. cond z (42 ∷ []) (marker_line m)) k.1.1 ∙ k.0, k.1.0)

fork_is : (t : List ℕ) (m : Plain) → fork_at t ≡ Some m → (fork_line m ≡ t) × IsReadRegion m
unfolding fork_at
fork_is t m e = fork_by t m (bytes_eq t (42 ∷ [])) refl e

fork_again : (m : Plain) → IsReadRegion m → fork_at (fork_line m) ≡ Some m
unfolding fork_at
fork_again (truth true) h = refl
fork_again (truth false) h = absurd (h.region.not_false refl)
fork_again (node l d bs) h = rw (no_star (node l d bs) h refl) (marker_again (node l d bs) h refl)

-- ---- edges and files

part_is : (t : Option (List ℕ)) (m : Plain) → marker_option t ≡ Some m → (marker_part m ≡ t) × IsReadRegion m
part_is None m e = subst (λ z. (marker_part z ≡ None) × IsReadRegion z) (some_is all_worlds m e) (refl, all_readable)
part_is (Some t) m e =
    let k = marker_is t m e in
    (ap (λ z. cond z None (Some (marker_line m))) k.1.1 ∙ ap some_text k.0, k.1.0)

part_again : (m : Plain) → IsReadRegion m → marker_option (marker_part m) ≡ Some m
part_again (truth true) h = refl
part_again (truth false) h = absurd (h.region.not_false refl)
part_again (node l d bs) h = marker_again (node l d bs) h refl

extra_is : (t x : Option (List ℕ)) → name_option t ≡ Some x → (x ≡ t) × IfSome x IsNormalName
extra_is None x e = subst (λ (z : Option (List ℕ)). (z ≡ None) × IfSome z IsNormalName) (some_is None x e) (refl, tt)
extra_is (Some t) x e =
    let r = map_some (name_at t) some_text x e in
    let k = name_is t r.0 r.1 in
    subst (λ (z : Option (List ℕ)). (z ≡ Some t) × IfSome z IsNormalName) r.2 (ap some_text k.0, k.1)

extra_again : (x : Option (List ℕ)) → IfSome x IsNormalName → name_option x ≡ Some x
extra_again None h = refl
extra_again (Some t) h = ap (option_map some_text) (name_again t h)

raw_edge_with : List ℕ → List ℕ → Option (List ℕ) → Option (List ℕ) → RawLine
raw_edge_with n v x m = raw_edge (record { name = n; version = v; extra = x; marker = m })

edge_is : (e : RawEdge) (l : Line) → edge_at e ≡ Some l → (raw_of l ≡ raw_edge e) × Fit l
unfolding raw_edge_with
edge_is e l h =
    let n = bind_some (name_at e.name) (edge_with_name e) l h in
    let v = bind_some (version_at e.version) (edge_with_version e n.0) l n.2 in
    let x = bind_some (name_option e.extra) (edge_with_extra n.0 v.0 e.marker) l v.2 in
    let m = map_some (marker_option e.marker) (edge_made n.0 v.0 x.0) l x.2 in
    let kn = name_is e.name n.0 n.1 in
    let kv = version_is e.version v.0 v.1 in
    let kx = extra_is e.extra x.0 x.1 in
    let km = part_is e.marker m.0 m.1 in
    subst (λ z. (raw_of z ≡ raw_edge e) × Fit z) m.2
    ((λ i. raw_edge_with (kn.0 i) (kv.0 i) (kx.0 i) (km.0 i)), (record { name = kn.1; version = kv.1; extra = kx.1; marker = km.1.region }, km.1.readable))

edge_again : (e : Edge) → IsEdge e → is_readable e.marker ≡ true → edge_at (raw_edge_of e) ≡ Some (edge e)
edge_again e h m =
    ap (option_and_then (edge_with_name (raw_edge_of e))) (name_again e.target.name h.name)
    ∙ (ap (option_and_then (edge_with_version (raw_edge_of e) e.target.name)) (version_again e.version h.version)
    ∙ (ap (option_and_then (edge_with_extra e.target.name e.version (marker_part e.marker))) (extra_again e.target.extra h.extra)
    ∙ ap (option_map (edge_made e.target.name e.version e.target.extra)) (part_again e.marker (record { region = h.marker; readable = m }))))

file_is : (f : RawFile) (l : Line) → file_at f ≡ Some l → (raw_of l ≡ raw_file f) × Fit l
file_is f l e =
    let n = bind_some (ascii_at f.file) (file_with_name f) l e in
    let h = bind_some (ascii_at f.hash) (file_made n.0) l n.2 in
    let a = pick_true (is_file_name n.0) (cond (is_digest h.0) (Some (file (record { file = n.0; sha256 = h.0 }))) None) l h.2 in
    let b = pick_true (is_digest h.0) (Some (file (record { file = n.0; sha256 = h.0 }))) l a.1 in
    let kn : n.0 ≡ f.file = sym (ascii_is f.file n.0 n.1) in
    let kh : h.0 ≡ f.hash = sym (ascii_is f.hash h.0 h.1) in
    subst (λ z. (raw_of z ≡ raw_file f) × Fit z) (some_is (file (record { file = n.0; sha256 = h.0 })) l b.1)
    ((λ i. raw_file (record { file = kn i; hash = kh i })), record { file = a.0; sha256 = b.0 })

file_again : (f : FileFields) → IsFile f → file_at (raw_file_of f) ≡ Some (file f)
file_again f h =
    let a : list_all is_ascii f.file ≡ true = all_weaker is_file_byte is_ascii file_is_ascii f.file (second_so _ _ h.file) in
    let b : list_all is_ascii f.sha256 ≡ true = all_weaker is_hex is_ascii hex_is_ascii f.sha256 (second_so _ _ h.sha256) in
    rw (a, b, h.file, h.sha256) refl

-- ---- lines

line_is : (x l : Line) (r : RawLine) → (raw_of x ≡ r) × Fit x → Some x ≡ Some l → (raw_of l ≡ r) × Fit l
line_is x l r k e = subst (λ z. (raw_of z ≡ r) × Fit z) (some_is x l e) k

of_name : (to : List ℕ → Line) (raw : List ℕ → RawLine) (t : List ℕ) (l : Line) → ((n : List ℕ) → IsNormalName n → (raw_of (to n) ≡ raw n) × Fit (to n)) → option_map to (name_at t) ≡ Some l → (raw_of l ≡ raw t) × Fit l
of_name to raw t l each e =
    let r = map_some (name_at t) to l e in
    let k = name_is t r.0 r.1 in
    let c = each r.0 k.1 in
    subst (λ z. (raw_of z ≡ raw t) × Fit z) r.2 (c.0 ∙ ap raw k.0, c.1)

pub typed_is : (r : RawLine) (l : Line) → typed r ≡ Some l → (raw_of l ≡ r) × Fit l
typed_is (raw_first v) l e = line_is (first v) l _ (refl, tt) e
typed_is (raw_root t) l e = of_name root raw_root t l (λ n h. (refl, h)) e
typed_is (raw_supported t) l e = let r = map_some (marker_at t) supported l e in let k = marker_is t r.0 r.1 in subst (λ z. (raw_of z ≡ raw_supported t) × Fit z) r.2 (ap raw_supported k.0, k.1)
typed_is (raw_item t) l e = let r = map_some (fork_at t) item l e in let k = fork_is t r.0 r.1 in subst (λ z. (raw_of z ≡ raw_item t) × Fit z) r.2 (ap raw_item k.0, k.1)
typed_is raw_close l e = line_is close l _ (refl, tt) e
typed_is raw_gap l e = line_is gap l _ (refl, tt) e
typed_is raw_entry l e = line_is entry l _ (refl, tt) e
typed_is (raw_name t) l e = of_name name raw_name t l (λ n h. (refl, h)) e
typed_is (raw_version t) l e = let r = map_some (version_at t) version l e in let k = version_is t r.0 r.1 in subst (λ z. (raw_of z ≡ raw_version t) × Fit z) r.2 (ap raw_version k.0, k.1)
typed_is (raw_file f) l e = file_is f l e
typed_is (raw_edge x) l e = edge_is x l e
typed_is raw_table l e = line_is table l _ (refl, tt) e
typed_is (raw_opens t) l e = of_name opens raw_opens t l (λ n h. (refl, h)) e
typed_is (raw_bare t) l e = of_name bare raw_bare t l (λ n h. (refl, h)) e

pub typed_again : (l : Line) → Fit l → typed (raw_of l) ≡ Some l
typed_again (first v) h = refl
typed_again (root n) h = ap (option_map root) (name_again n h)
typed_again (supported m) h = ap (option_map supported) (marker_again m h.0 h.1)
typed_again (item m) h = ap (option_map item) (fork_again m h)
typed_again close h = refl
typed_again gap h = refl
typed_again entry h = refl
typed_again (name n) h = ap (option_map name) (name_again n h)
typed_again (version v) h = ap (option_map version) (version_again v h)
typed_again (file f) h = file_again f h
typed_again (edge e) h = edge_again e h.0 h.1
typed_again table h = refl
typed_again (opens n) h = ap (option_map opens) (name_again n h)
typed_again (bare n) h = ap (option_map bare) (name_again n h)

-- ---- texts that fit can be cut

pub name_has : (c : ℕ) (n : List ℕ) → is_normal_byte c ≡ false → IsNormalName n → has c n ≡ false
name_has c n k h = has_none is_normal_byte c n k (name_is_plain n h).1

pub version_has : (c : ℕ) (v : Fields) → is_text_byte c ≡ false → IsVersion v → has c (version_text v) ≡ false
version_has c v k h = has_none is_text_byte c (version_text v) k (text_is_plain v h).0

pub file_has : (c : ℕ) (t : List ℕ) → is_file_byte c ≡ false → is_file_name t ≡ true → has c t ≡ false
file_has c t k h = has_none is_file_byte c t k (second_so _ _ h)

key_text : (n : List ℕ) → IsPlain n → IsKeyText n
key_text [] p = absurd (omega (arith, p.0))
key_text (c ∷ t) p = (first_so _ _ p.1, has_none is_normal_byte 32 (c ∷ t) refl p.1)

extra_has : (c : ℕ) (x : Option (List ℕ)) → is_normal_byte c ≡ false → IfSome x IsNormalName → IfSome x (λ t. has c t ≡ false)
extra_has c None k h = tt
extra_has c (Some t) k h = name_has c t k h

cuttable : (l : Line) → Fit l → Cuttable (raw_of l)
cuttable (file f) h = file_has 34 f.file refl h.file
cuttable (edge e) h = (name_has 34 e.target.name refl h.0.name, version_has 34 e.version refl h.0.version, extra_has 34 e.target.extra refl h.0.extra)
cuttable (opens n) h = key_text n (name_is_plain n h)
cuttable (bare n) h = key_text n (name_is_plain n h)
cuttable (first v) h = tt
cuttable (root n) h = tt
cuttable (supported m) h = tt
cuttable (item m) h = tt
cuttable close h = tt
cuttable gap h = tt
cuttable entry h = tt
cuttable (name n) h = tt
cuttable (version v) h = tt
cuttable table h = tt

-- what is read of a line is spelled so
pub line_takes : (b : List ℕ) (l : Line) → line_of b ≡ Some l → (spell l ≡ b) × Fit l
unfolding line_of spell
line_takes b l e =
    let c = bind_some (candidate b) typed l e in
    let k = typed_is c.0 l c.2 in
    (ap spell_raw k.0 ∙ candidate_is b c.0 c.1, k.1)

-- what is spelled so is read
pub line_again : (l : Line) → Fit l → line_of (spell l) ≡ Some l
unfolding line_of spell
line_again l h = ap (option_and_then typed) (candidate_again (raw_of l) (cuttable l h)) ∙ typed_again l h

-- ---- a line ends in LF, and has none before

part_ends : (front : List ℕ) (x : Option (List ℕ)) (r : List ℕ) → has 10 front ≡ false → IfSome x (λ t. has 10 t ≡ false) → ends_line (part front x r) ≡ ends_line r
part_ends front None r f h = refl
part_ends front (Some t) r f h = skip_line front (34 ∷ (t ++ 34 ∷ r)) f ∙ skip_line t (34 ∷ r) h

escaped_10 : (t : List ℕ) → has 10 t ≡ false → has 10 (escaped t) ≡ false
escaped_10 [] h = refl
escaped_10 (x ∷ t) h = by_quote (eqb x 34) (eqb x 10) refl (escaped_10 t) h
  where
    by_quote : (a b : Bool) → eqb x 10 ≡ b → (has 10 t ≡ false → has 10 (escaped t) ≡ false) → (b || has 10 t) ≡ false → has 10 (cond a (92 ∷ 34 ∷ escaped t) (x ∷ escaped t)) ≡ false
    by_quote a true q more k = absurd cc
    by_quote true false q more k = more k
    by_quote false false q more k = rw q (more k)

line_10 : (m : Plain) → IsReadRegion m → is_true m ≡ false → has 10 (marker_line m) ≡ false
line_10 m h k = escaped_10 (marker_text m) (region_10 m h k)

fork_10 : (m : Plain) → IsReadRegion m → has 10 (fork_line m) ≡ false
fork_10 (truth true) h = refl
fork_10 (truth false) h = absurd (h.region.not_false refl)
fork_10 (node l d bs) h = line_10 (node l d bs) h refl

part_10 : (m : Plain) → IsReadRegion m → IfSome (marker_part m) (λ t. has 10 t ≡ false)
part_10 (truth true) h = tt
part_10 (truth false) h = absurd (h.region.not_false refl)
part_10 (node l d bs) h = line_10 (node l d bs) h refl

extra_10 : (x : Option (List ℕ)) → IfSome x IsNormalName → IfSome x (λ t. has 10 t ≡ false)
extra_10 None h = tt
extra_10 (Some t) h = name_has 10 t refl h

hash_10 : (t : List ℕ) → is_digest t ≡ true → has 10 t ≡ false
hash_10 t h = has_none is_hex 10 t refl (second_so _ _ h)

pub line_ends : (l : Line) → Fit l → ends_line (spell l) ≡ true
unfolding spell
line_ends (first one) h = refl
line_ends (first two) h = refl
line_ends (root t) h = skip_line t (34 ∷ 10 ∷ []) (name_has 10 t refl h)
line_ends (supported m) h = skip_line (marker_line m) (34 ∷ 10 ∷ []) (line_10 m h.0 h.1)
line_ends (item m) h = skip_line (fork_line m) (34 ∷ 44 ∷ 10 ∷ []) (fork_10 m h)
line_ends close h = refl
line_ends gap h = refl
line_ends entry h = refl
line_ends (name t) h = skip_line t (34 ∷ 10 ∷ []) (name_has 10 t refl h)
line_ends (version v) h = skip_line (version_text v) (34 ∷ 10 ∷ []) (version_has 10 v refl h)
line_ends (file f) h = skip_line f.file _ (file_has 10 f.file refl h.file) ∙ skip_line f.sha256 _ (hash_10 f.sha256 h.sha256)
line_ends (edge e) h = skip_line e.target.name _ (name_has 10 e.target.name refl h.0.name) ∙ (skip_line (version_text e.version) _ (version_has 10 e.version refl h.0.version) ∙ (part_ends (codes ", extra = ") e.target.extra _ refl (extra_10 e.target.extra h.0.extra) ∙ part_ends (codes ", marker = ") (marker_part e.marker) end_text refl (part_10 e.marker (record { region = h.0.marker; readable = h.1 }))))
line_ends table h = refl
line_ends (opens t) h = skip_line t (32 ∷ 61 ∷ 32 ∷ 91 ∷ 10 ∷ []) (name_has 10 t refl h)
line_ends (bare t) h = skip_line t (32 ∷ 61 ∷ 32 ∷ 91 ∷ 93 ∷ 10 ∷ []) (name_has 10 t refl h)
