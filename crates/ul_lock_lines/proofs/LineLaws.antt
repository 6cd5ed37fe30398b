-- What is read of a line is spelled so, and what is spelled so is read: the texts.
use Rattle.std.proofs.Common.{◌≡◌, ℕ, List, [], ◌∷◌, ◌++◌, Bool, true, false, cond, eqb, refl, sym, ap, subst, ◌∙◌, append_assoc, Option, Some, None}
use Rattle.std.specs.Prelude.{option_and_then, option_map, codes, bytes_eq, IfSome}
use Rattle.std.proofs.lemmas.Bool.{eqb-true}
use Rattle.ul_base.specs.Names.{is_normal_byte}
use Rattle.ul_lock_lines.specs.declared.lines.Edition.{Edition}
use Rattle.ul_lock_lines.specs.declared.lines.Edition.TheVariants.{First as one, Second as two}
use Rattle.ul_lock_lines.specs.declared.lines.RawFile.{RawFile}
use Rattle.ul_lock_lines.specs.declared.lines.RawEdge.{RawEdge}
use Rattle.ul_lock_lines.specs.declared.lines.RawLine.{RawLine}
use Rattle.ul_lock_lines.specs.declared.lines.RawLine.TheVariants.{First as raw_first, Root as raw_root, Supported as raw_supported, Item as raw_item, Close as raw_close, Gap as raw_gap, Entry as raw_entry, Name as raw_name, Version as raw_version, File as raw_file, Edge as raw_edge, Table as raw_table, Opens as raw_opens, Bare as raw_bare}
use Rattle.ul_lock_lines.specs.Raw.{keyed, quoted, part, end_text, edge_text, file_text, edition_text, spell_raw}
use Rattle.ul_lines.specs.Pieces.{has, strip, until, inside, inner_and_rest, some_part, part_found}
use Rattle.ul_lines.proofs.ForCallers.{some_is, bind_some, map_some, same_text, strip_is, strip_again, until_is, until_again, inside_is, inside_again, enclosed_is, enclosed_again}
use Rattle.ul_lock_lines.specs.LineReading.{where_is, or_else, fixed_of, item_of, quoted_at, file_of, file_line_of, part_of, some_text, marker_end, edge_end, after_extra, after_version, after_name, edge_of, pair_of, value_of, key_end, keyed_of, candidate}

-- ---- tools

where_some : (b : Bool) (l m : RawLine) → where_is b l ≡ Some m → (b ≡ true) × (l ≡ m)
where_some true l m e = (refl, some_is l m e)
where_some false l m e = absurd cc

-- ---- what is read is spelled so

or_by : (p q : Option RawLine) (l : RawLine) (P : Type 0) → (p ≡ Some l → P) → (q ≡ Some l → P) → or_else p q ≡ Some l → P
or_by None q l P f g e = g e
or_by (Some x) q l P f g e = f e

-- the first alternative is a line of which P holds, or the second is
if_by : (b : Bool) (p q : Option RawLine) (l : RawLine) (P : Type 0) → (b ≡ true → p ≡ Some l → P) → (q ≡ Some l → P) → cond b p q ≡ Some l → P
if_by true p q l P f g e = f refl e
if_by false p q l P f g e = g e

line_is : (x l : RawLine) (b : List ℕ) → spell_raw x ≡ b → Some x ≡ Some l → spell_raw l ≡ b
line_is x l b k e = let q : x ≡ l = cc in subst (λ z. spell_raw z ≡ b) q k

fixed_is : (b : List ℕ) (l : RawLine) → fixed_of b ≡ Some l → spell_raw l ≡ b
fixed_is b l e =
    if_by (bytes_eq b (10 ∷ [])) _ _ l _ (λ h f. line_is raw_gap l b (sym (same_text b _ h)) f)
    (if_by (bytes_eq b (93 ∷ 10 ∷ [])) _ _ l _ (λ h f. line_is raw_close l b (sym (same_text b _ h)) f)
    (if_by (bytes_eq b (codes "[[package]]" ++ 10 ∷ [])) _ _ l _ (λ h f. line_is raw_entry l b (sym (same_text b _ h)) f)
    (if_by (bytes_eq b (codes "[package.optional-dependencies]" ++ 10 ∷ [])) _ _ l _ (λ h f. line_is raw_table l b (sym (same_text b _ h)) f) (λ f. absurd cc)))) e

quoted_is : (front b : List ℕ) (p : List ℕ × List ℕ) → quoted_at front b ≡ Some p → front ++ quoted p.0 p.1 ≡ b
quoted_is front b p e = sym (append_assoc front (34 ∷ []) (p.0 ++ 34 ∷ p.1)) ∙ (enclosed_is (front ++ 34 ∷ []) 34 b p e).0

item_is : (b : List ℕ) (l : RawLine) → item_of b ≡ Some l → spell_raw l ≡ b
item_is b l e =
    let r = map_some (inside (codes "    \"") (34 ∷ 44 ∷ 10 ∷ []) b) raw_item l e in
    subst (λ z. spell_raw z ≡ b) r.2 (inside_is (codes "    \"") (34 ∷ 44 ∷ 10 ∷ []) b r.0 r.1)

part_by : (front b : List ℕ) (o : Option (List ℕ)) (p : Option (List ℕ) × List ℕ) → ((r : List ℕ) → o ≡ Some r → (front ++ 34 ∷ []) ++ r ≡ b) → part_found 34 b o ≡ Some p → part front p.0 p.1 ≡ b
part_by front b None p again e = subst (λ (q : Option (List ℕ) × List ℕ). part front q.0 q.1 ≡ b) (some_is (None, b) p e) refl
part_by front b (Some r) p again e =
    let m = map_some (until 34 r) some_part p e in
    let u = until_is 34 r m.0.0 m.0.1 m.1 in
    subst (λ (q : Option (List ℕ) × List ℕ). part front q.0 q.1 ≡ b) m.2 (ap (λ z. front ++ 34 ∷ z) u.0 ∙ (sym (append_assoc front (34 ∷ []) r) ∙ again r refl))

part_is : (front b : List ℕ) (p : Option (List ℕ) × List ℕ) → part_of front b ≡ Some p → part front p.0 p.1 ≡ b
part_is front b p e = part_by front b (strip (front ++ 34 ∷ []) b) p (λ r q. strip_is (front ++ 34 ∷ []) b r q) e

marker_by : (b : List ℕ) (q : Bool) (m : Option (List ℕ)) → bytes_eq b end_text ≡ q → cond q (Some None) (option_map some_text (inside (codes ", marker = \"") (34 ∷ end_text) b)) ≡ Some m → part (codes ", marker = ") m end_text ≡ b
marker_by b true m q e = subst (λ (z : Option (List ℕ)). part (codes ", marker = ") z end_text ≡ b) (some_is None m e) (sym (same_text b end_text q))
marker_by b false m q e =
    let r = map_some (inside (codes ", marker = \"") (34 ∷ end_text) b) some_text m e in
    subst (λ (z : Option (List ℕ)). part (codes ", marker = ") z end_text ≡ b) r.2 (inside_is (codes ", marker = \"") (34 ∷ end_text) b r.0 r.1)

marker_is : (b : List ℕ) (m : Option (List ℕ)) → marker_end b ≡ Some m → part (codes ", marker = ") m end_text ≡ b
marker_is b m e = marker_by b (bytes_eq b end_text) m refl e

edge_is : (b : List ℕ) (l : RawLine) → edge_of b ≡ Some l → spell_raw l ≡ b
edge_is b l e =
    let n = bind_some (quoted_at (codes "    { name = ") b) after_name l e in
    let v = bind_some (quoted_at (codes ", version = ") n.0.1) (after_version n.0.0) l n.2 in
    let x = bind_some (part_of (codes ", extra = ") v.0.1) (after_extra n.0.0 v.0.0) l v.2 in
    let m = map_some (marker_end x.0.1) (edge_end n.0.0 v.0.0 x.0.0) l x.2 in
    let em : part (codes ", marker = ") m.0 end_text ≡ x.0.1 = marker_is x.0.1 m.0 m.1 in
    let ex : part (codes ", extra = ") x.0.0 (part (codes ", marker = ") m.0 end_text) ≡ v.0.1 = ap (part (codes ", extra = ") x.0.0) em ∙ part_is (codes ", extra = ") v.0.1 x.0 x.1 in
    let ev : codes ", version = " ++ quoted v.0.0 (part (codes ", extra = ") x.0.0 (part (codes ", marker = ") m.0 end_text)) ≡ n.0.1 = ap (λ z. codes ", version = " ++ quoted v.0.0 z) ex ∙ quoted_is (codes ", version = ") n.0.1 v.0 v.1 in
    subst (λ z. spell_raw z ≡ b) m.2 (ap (λ z. codes "    { name = " ++ quoted n.0.0 z) ev ∙ quoted_is (codes "    { name = ") b n.0 n.1)

file_is : (b : List ℕ) (l : RawLine) → file_line_of b ≡ Some l → spell_raw l ≡ b
file_is b l e =
    let f = bind_some (quoted_at (codes "    { file = ") b) file_of l e in
    let h = map_some (inside (codes ", hash = \"sha256:") (34 ∷ end_text) f.0.1) (λ h. raw_file (record { file = f.0.0; hash = h })) l f.2 in
    subst (λ z. spell_raw z ≡ b) h.2 (ap (λ z. codes "    { file = " ++ quoted f.0.0 z) (inside_is (codes ", hash = \"sha256:") (34 ∷ end_text) f.0.1 h.0 h.1) ∙ quoted_is (codes "    { file = ") b f.0 f.1)

pair_is : (k t b : List ℕ) (l : RawLine) → keyed k (quoted t (10 ∷ [])) ≡ b → pair_of k t ≡ Some l → spell_raw l ≡ b
pair_is k t b l h e =
    let to = λ (c : List ℕ) (q : bytes_eq k c ≡ true). ap (λ z. keyed z (quoted t (10 ∷ []))) (sym (same_text k c q)) ∙ h in
    if_by (bytes_eq k (codes "root")) _ _ l _ (λ q f. line_is (raw_root t) l b (to _ q) f)
    (if_by (bytes_eq k (codes "supported-markers")) _ _ l _ (λ q f. line_is (raw_supported t) l b (to _ q) f)
    (if_by (bytes_eq k (codes "name")) _ _ l _ (λ q f. line_is (raw_name t) l b (to _ q) f)
    (if_by (bytes_eq k (codes "version")) _ _ l _ (λ q f. line_is (raw_version t) l b (to _ q) f) (λ f. absurd cc)))) e

pair_end_is : (k r b : List ℕ) (l : RawLine) → keyed k r ≡ b → option_and_then (pair_of k) (inside (34 ∷ []) (34 ∷ 10 ∷ []) r) ≡ Some l → spell_raw l ≡ b
pair_end_is k r b l h e =
    let p = bind_some (inside (34 ∷ []) (34 ∷ 10 ∷ []) r) (pair_of k) l e in
    pair_is k p.0 b l (ap (keyed k) (inside_is (34 ∷ []) (34 ∷ 10 ∷ []) r p.0 p.1) ∙ h) p.2

edition_is : (k r b : List ℕ) (v : Edition) (l : RawLine) → keyed k r ≡ b → r ≡ edition_text v → where_is (bytes_eq k (codes "version")) (raw_first v) ≡ Some l → spell_raw l ≡ b
edition_is k r b v l h q e =
    let w = where_some (bytes_eq k (codes "version")) (raw_first v) l e in
    subst (λ z. spell_raw z ≡ b) w.1 (ap (λ z. keyed z (edition_text v)) (sym (same_text k (codes "version") w.0)) ∙ (ap (keyed k) (sym q) ∙ h))

value_is : (k r b : List ℕ) (l : RawLine) → keyed k r ≡ b → value_of k r ≡ Some l → spell_raw l ≡ b
value_is k r b l h e =
    let to = λ (c : List ℕ) (q : bytes_eq r c ≡ true). ap (keyed k) (sym (same_text r c q)) ∙ h in
    if_by (bytes_eq r (91 ∷ 10 ∷ [])) _ _ l _ (λ q f. line_is (raw_opens k) l b (to _ q) f)
    (if_by (bytes_eq r (91 ∷ 93 ∷ 10 ∷ [])) _ _ l _ (λ q f. line_is (raw_bare k) l b (to _ q) f)
    (if_by (bytes_eq r (49 ∷ 10 ∷ [])) _ _ l _ (λ q f. edition_is k r b one l h (same_text r _ q) f)
    (if_by (bytes_eq r (50 ∷ 10 ∷ [])) _ _ l _ (λ q f. edition_is k r b two l h (same_text r _ q) f)
    (λ f. pair_end_is k r b l h f)))) e

keyed_is : (b : List ℕ) (l : RawLine) → keyed_of b ≡ Some l → spell_raw l ≡ b
keyed_is b l e =
    let k = bind_some (until 32 b) key_end l e in
    let r = bind_some (strip (61 ∷ 32 ∷ []) k.0.1) (value_of k.0.0) l k.2 in
    let u = until_is 32 b k.0.0 k.0.1 k.1 in
    value_is k.0.0 r.0 b l (ap (λ z. k.0.0 ++ 32 ∷ z) (strip_is (61 ∷ 32 ∷ []) k.0.1 r.0 r.1) ∙ u.0) r.2

-- what is read of a line is spelled so
pub candidate_is : (b : List ℕ) (l : RawLine) → candidate b ≡ Some l → spell_raw l ≡ b
unfolding candidate
candidate_is b l e = or_by (fixed_of b) _ l (spell_raw l ≡ b) (fixed_is b l) (or_by (item_of b) _ l (spell_raw l ≡ b) (item_is b l) (or_by (edge_of b) _ l (spell_raw l ≡ b) (edge_is b l) (or_by (file_line_of b) _ l (spell_raw l ≡ b) (file_is b l) (keyed_is b l)))) e

-- ---- what is spelled so is read

-- a key: a byte of a name first, and no space
abbrev pub IsKeyText : List ℕ → Type 0
IsKeyText [] = ⊥
IsKeyText (c ∷ t) = (is_normal_byte c ≡ true) × (has 32 (c ∷ t) ≡ false)

-- texts that a line can be cut at
abbrev pub Cuttable : RawLine → Type 0
Cuttable (raw_file f) = has 34 f.file ≡ false
Cuttable (raw_edge e) = (has 34 e.name ≡ false) × (has 34 e.version ≡ false) × IfSome e.extra (λ t. has 34 t ≡ false)
Cuttable (raw_opens t) = IsKeyText t
Cuttable (raw_bare t) = IsKeyText t
Cuttable l = Unit {0}

quoted_again : (front t r : List ℕ) → has 34 t ≡ false → quoted_at front (front ++ quoted t r) ≡ Some (t, r)
quoted_again front t r h =
    ap (inner_and_rest (front ++ 34 ∷ []) 34) (sym (append_assoc front (34 ∷ []) (t ++ 34 ∷ r)))
    ∙ enclosed_again (front ++ 34 ∷ []) 34 t r h

-- a byte of a name is no other byte
normal_not : (c d : ℕ) → is_normal_byte c ≡ true → is_normal_byte d ≡ false → eqb c d ≡ false
normal_not c d h k = not_by (eqb c d) refl
  where
    not_by : (b : Bool) → eqb c d ≡ b → eqb c d ≡ false
    not_by false q = q
    not_by true q = let e : c ≡ d = eqb-true c d q in let f : is_normal_byte d ≡ true = ap is_normal_byte (sym e) ∙ h in absurd cc

not_normal : (c d : ℕ) → is_normal_byte c ≡ true → is_normal_byte d ≡ false → eqb d c ≡ false
not_normal c d h k = not_by (eqb d c) refl
  where
    not_by : (b : Bool) → eqb d c ≡ b → eqb d c ≡ false
    not_by false q = q
    not_by true q = let e : d ≡ c = eqb-true d c q in let f : is_normal_byte d ≡ true = ap is_normal_byte e ∙ h in absurd cc

-- what begins with a byte of a name is a line with a key
candidate_keyed : (c : ℕ) (r : List ℕ) → is_normal_byte c ≡ true → candidate (c ∷ r) ≡ keyed_of (c ∷ r)
unfolding candidate
candidate_keyed c r h = rw (normal_not c 10 h refl, normal_not c 93 h refl, normal_not c 91 h refl, not_normal c 32 h refl) refl

keyed_again : (k rest : List ℕ) → has 32 k ≡ false → keyed_of (keyed k rest) ≡ value_of k rest
keyed_again k rest h = ap (option_and_then key_end) (until_again 32 k (61 ∷ 32 ∷ rest) h)

key_again : (k rest : List ℕ) → IsKeyText k → candidate (keyed k rest) ≡ value_of k rest
key_again [] rest h = absurd h
key_again (c ∷ k) rest h = candidate_keyed c (k ++ 32 ∷ 61 ∷ 32 ∷ rest) h.0 ∙ keyed_again (c ∷ k) rest h.1

pair_again : (k t : List ℕ) → IsKeyText k → candidate (keyed k (quoted t (10 ∷ []))) ≡ pair_of k t
pair_again k t h = key_again k (quoted t (10 ∷ [])) h ∙ ap (option_and_then (pair_of k)) (inside_again (34 ∷ []) (34 ∷ 10 ∷ []) t)

part_again : (front : List ℕ) (x : Option (List ℕ)) (r : List ℕ) → IfSome x (λ t. has 34 t ≡ false) → strip (front ++ 34 ∷ []) r ≡ None → part_of front (part front x r) ≡ Some (x, r)
part_again front None r h e = ap (part_found 34 r) e
part_again front (Some t) r h e =
    ap (λ z. part_found 34 (front ++ quoted t r) (strip (front ++ 34 ∷ []) z)) (sym (append_assoc front (34 ∷ []) (t ++ 34 ∷ r)))
    ∙ (ap (part_found 34 (front ++ quoted t r)) (strip_again (front ++ 34 ∷ []) (t ++ 34 ∷ r)) ∙ ap (option_map some_part) (until_again 34 t r h))

no_extra : (m : Option (List ℕ)) → strip (codes ", extra = " ++ 34 ∷ []) (part (codes ", marker = ") m end_text) ≡ None
no_extra None = refl
no_extra (Some t) = refl

marker_again : (m : Option (List ℕ)) → marker_end (part (codes ", marker = ") m end_text) ≡ Some m
marker_again None = refl
marker_again (Some t) = ap (option_map some_text) (inside_again (codes ", marker = \"") (34 ∷ end_text) t)

edge_again : (n v : List ℕ) (x m : Option (List ℕ)) → has 34 n ≡ false → has 34 v ≡ false → IfSome x (λ t. has 34 t ≡ false)
    → edge_of (edge_text (record { name = n; version = v; extra = x; marker = m })) ≡ Some (raw_edge (record { name = n; version = v; extra = x; marker = m }))
edge_again n v x m hn hv hx =
    let rm = part (codes ", marker = ") m end_text in
    let rx = part (codes ", extra = ") x rm in
    let rv = codes ", version = " ++ quoted v rx in
    ap (option_and_then after_name) (quoted_again (codes "    { name = ") n rv hn)
    ∙ (ap (option_and_then (after_version n)) (quoted_again (codes ", version = ") v rx hv)
    ∙ (ap (option_and_then (after_extra n v)) (part_again (codes ", extra = ") x rm hx (no_extra m))
    ∙ ap (option_map (edge_end n v x)) (marker_again m)))

candidate_edge : (e : RawEdge) (l : RawLine) → edge_of (edge_text e) ≡ Some l → candidate (edge_text e) ≡ Some l
unfolding candidate
candidate_edge e l h = ap (λ o. or_else o (or_else (file_line_of (edge_text e)) (keyed_of (edge_text e)))) h

file_again : (f : RawFile) → has 34 f.file ≡ false → file_line_of (file_text f) ≡ Some (raw_file f)
file_again f h =
    ap (option_and_then file_of) (quoted_again (codes "    { file = ") f.file (codes ", hash = \"sha256:" ++ (f.hash ++ 34 ∷ end_text)) h)
    ∙ ap (option_map (λ h. raw_file (record { file = f.file; hash = h }))) (inside_again (codes ", hash = \"sha256:") (34 ∷ end_text) f.hash)

candidate_file : (f : RawFile) (l : RawLine) → file_line_of (file_text f) ≡ Some l → candidate (file_text f) ≡ Some l
unfolding candidate
candidate_file f l h = ap (λ o. or_else o (keyed_of (file_text f))) h

candidate_item : (t : List ℕ) → candidate (spell_raw (raw_item t)) ≡ Some (raw_item t)
unfolding candidate
candidate_item t = ap (λ o. or_else (option_map raw_item o) (or_else (edge_of (spell_raw (raw_item t))) (or_else (file_line_of (spell_raw (raw_item t))) (keyed_of (spell_raw (raw_item t)))))) (inside_again (codes "    \"") (34 ∷ 44 ∷ 10 ∷ []) t)

candidate_close : candidate (spell_raw raw_close) ≡ Some raw_close
unfolding candidate
candidate_close = refl

candidate_gap : candidate (spell_raw raw_gap) ≡ Some raw_gap
unfolding candidate
candidate_gap = refl

candidate_entry : candidate (spell_raw raw_entry) ≡ Some raw_entry
unfolding candidate
candidate_entry = refl

candidate_table : candidate (spell_raw raw_table) ≡ Some raw_table
unfolding candidate
candidate_table = refl

candidate_first : (v : Edition) → candidate (spell_raw (raw_first v)) ≡ Some (raw_first v)
unfolding candidate
candidate_first one = refl
candidate_first two = refl

-- what is spelled so is read
pub candidate_again : (l : RawLine) → Cuttable l → candidate (spell_raw l) ≡ Some l
candidate_again (raw_first v) h = candidate_first v
candidate_again (raw_root t) h = pair_again (codes "root") t (refl, refl)
candidate_again (raw_supported t) h = pair_again (codes "supported-markers") t (refl, refl)
candidate_again (raw_item t) h = candidate_item t
candidate_again raw_close h = candidate_close
candidate_again raw_gap h = candidate_gap
candidate_again raw_entry h = candidate_entry
candidate_again (raw_name t) h = pair_again (codes "name") t (refl, refl)
candidate_again (raw_version t) h = pair_again (codes "version") t (refl, refl)
candidate_again (raw_file f) h = candidate_file f (raw_file f) (file_again f h)
candidate_again (raw_edge e) h = candidate_edge e (raw_edge e) (edge_again e.name e.version e.extra e.marker h.0 h.1 h.2)
candidate_again raw_table h = candidate_table
candidate_again (raw_opens t) h = key_again t (91 ∷ 10 ∷ []) h
candidate_again (raw_bare t) h = key_again t (91 ∷ 93 ∷ 10 ∷ []) h
