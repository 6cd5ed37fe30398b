-- Of all spellings of a text, it is read by the one whose earlier parts are longest.
use Rattle.std.proofs.Common.{◌≡◌, ℕ, ◌<◌, ◌≤◌, List, [], ◌∷◌, ◌++◌, length, refl, sym, ap, ◌∙◌, arith, false, Option, Some}
use Rattle.std.specs.Prelude.{◌==◌}
use Rattle.std.proofs.lemmas.List.{length-append}
use Rattle.ul_version.specs.Fields.{Fields}
use Rattle.ul_version.specs.Grammar.{IsPre, IsPost, IsDev, IsSpelled}
use Rattle.ul_version.specs.Reading.{epoch, release, pre, after_optional, post, dev, local, fields_of}
use Rattle.std.proofs.Common.{drop, subst}
use Rattle.std.proofs.lemmas.List.{drop_at}
use Rattle.std.proofs.lemmas.Cmp.{ranked}
use Rattle.std.specs.Ordering.{nat_cmp, is_lt, ordering_then, MatchOrdering}
use Rattle.std.specs.declared.cmp.Ordering.{Ordering}
use Rattle.std.specs.declared.cmp.Ordering.TheVariants.{Less, Equal, Greater}
use Rattle.ul_version.specs.Order.{numbers_cmp}
use Rattle.ul_version.specs.Laws.{part_lengths}
use Rattle.ul_version.proofs.Cuts.{bind_some}
use Rattle.ul_version.proofs.Spelling.{cut_same, inside, letter-spelled, epoch-spelled, release-spelled, pre-spelled, post-spelled, dev-spelled, local-spelled}
use Rattle.ul_version.specs.declared.fields.Pre.{Pre}
use Rattle.ul_version.specs.declared.fields.Segment.{Segment}
use Rattle.ul_version.proofs.Complete.{Last, FromDev, FromPost, FromPre, FromPre-ends, dev-reads, post-reads, pre-reads, letter-read, epoch-read, release-read}

-- ---- the earlier part takes as much as it can

-- two ways to cut one text, the first of which leaves no more
front-longer : (front rest part after : List ℕ) → front ++ rest ≡ part ++ after → length rest ≤ length after → length part ≤ length front
front-longer front rest part after e h =
    let a = length-append front rest in
    let b = length-append part after in
    let c : length (front ++ rest) ≡ length (part ++ after) = ap (λ (l : List ℕ). length l) e in
    omega arith

front-same : (front rest part after : List ℕ) → front ++ rest ≡ part ++ after → rest ≡ after → length front ≡ length part
front-same front rest part after e h =
    let a = length-append front rest in
    let b = length-append part after in
    let c : length (front ++ rest) ≡ length (part ++ after) = ap (λ (l : List ℕ). length l) e in
    let d : length rest ≡ length after = ap (λ (l : List ℕ). length l) h in
    omega arith

rest-same : (front rest part after : List ℕ) → front ++ rest ≡ part ++ after → length front ≡ length part → rest ≡ after
rest-same front rest part after e h = sym (drop_at front rest (length front) refl) ∙ ap (λ (l : List ℕ). drop (length front) l) e ∙ drop_at part after (length front) (sym h)

longer-first : (a b : ℕ) (ms ns : List ℕ) → b ≤ a → (a ≡ b → is_lt (numbers_cmp ms ns) ≡ false) → is_lt (numbers_cmp (a ∷ ms) (b ∷ ns)) ≡ false
longer-first a b ms ns h f = go (nat_cmp a b) (ranked a b (nat_cmp a b) refl)
  where
    go : (r : Ordering) → MatchOrdering r (a < b) (a ≡ b) (b < a) → is_lt (ordering_then r (numbers_cmp ms ns)) ≡ false
    go Less m = absurd (omega arith)
    go Equal m = f m
    go Greater m = refl

abbrev Longest : (text : List ℕ) (g f : Fields) → IsSpelled text f → Type 0
Longest text g f s = (r : IsSpelled text g) × (is_lt (numbers_cmp (part_lengths r) (part_lengths s)) ≡ false)

dev-longest : (t4 t5 : List ℕ) (v : Option ℕ) (front part rest : List ℕ) (value : Option ℕ) → dev t4 ≡ Some (v, t5) → t4 ≡ front ++ t5 → t4 ≡ part ++ rest → IsDev part value → Last rest
    → is_lt (numbers_cmp (length front ∷ []) (length part ∷ [])) ≡ false
dev-longest t4 t5 v front part rest value h whole other is last =
    let t : FromDev t4 = record { value = value; part = part; rest = rest; is_part = is; last = last; whole = other } in
    let r = dev-reads t4 t in
    let same : t5 ≡ r.rest = (cut_same v r.value t5 r.rest (sym h ∙ r.is)).1 in
    let size : length t5 ≡ length r.rest = ap (λ (l : List ℕ). length l) same in
    let less = r.shorter in
    longer-first (length front) (length part) [] [] (front-longer front t5 part rest (sym whole ∙ other) (omega arith)) (λ e. refl)

post-longest : (t3 t4 t5 : List ℕ) (q v : Option ℕ) (front front2 part part2 rest : List ℕ) (value value2 : Option ℕ) → post t3 ≡ Some (q, t4) → dev t4 ≡ Some (v, t5)
    → t3 ≡ front ++ t4 → t4 ≡ front2 ++ t5 → t3 ≡ part ++ (part2 ++ rest) → IsPost part value → IsDev part2 value2 → Last rest
    → is_lt (numbers_cmp (length front ∷ length front2 ∷ []) (length part ∷ length part2 ∷ [])) ≡ false
post-longest t3 t4 t5 q v front front2 part part2 rest value value2 h h2 whole whole2 other is is2 last =
    let d : FromDev (part2 ++ rest) = record { value = value2; part = part2; rest = rest; is_part = is2; last = last; whole = refl } in
    let t : FromPost t3 = record { value = value; part = part; rest = part2 ++ rest; is_part = is; later = d; whole = other } in
    let r = post-reads t3 t in
    let same : t4 ≡ r.rest = (cut_same q r.value t4 r.rest (sym h ∙ r.is)).1 in
    let size : length t4 ≡ length r.rest = ap (λ (l : List ℕ). length l) same in
    let less = r.shorter in
    let both = sym whole ∙ other in
    longer-first (length front) (length part) (length front2 ∷ []) (length part2 ∷ []) (front-longer front t4 part (part2 ++ rest) both (omega arith))
    (λ e. dev-longest t4 t5 v front2 part2 rest value2 h2 whole2 (rest-same front t4 part (part2 ++ rest) both e) is2 last)

pre-longest : (t2 t3 t4 t5 : List ℕ) (p : Option Pre) (q v : Option ℕ) (front front2 front3 part part2 part3 rest : List ℕ) (value : Option Pre) (value2 value3 : Option ℕ)
    → pre t2 ≡ Some (p, t3) → post t3 ≡ Some (q, t4) → dev t4 ≡ Some (v, t5) → t2 ≡ front ++ t3 → t3 ≡ front2 ++ t4 → t4 ≡ front3 ++ t5 → t2 ≡ part ++ (part2 ++ (part3 ++ rest))
    → IsPre part value → IsPost part2 value2 → IsDev part3 value3 → Last rest
    → is_lt (numbers_cmp (length front ∷ length front2 ∷ length front3 ∷ []) (length part ∷ length part2 ∷ length part3 ∷ [])) ≡ false
pre-longest t2 t3 t4 t5 p q v front front2 front3 part part2 part3 rest value value2 value3 h h2 h3 whole whole2 whole3 other is is2 is3 last =
    let d : FromDev (part3 ++ rest) = record { value = value3; part = part3; rest = rest; is_part = is3; last = last; whole = refl } in
    let o : FromPost (part2 ++ (part3 ++ rest)) = record { value = value2; part = part2; rest = part3 ++ rest; is_part = is2; later = d; whole = refl } in
    let t : FromPre t2 = record { value = value; part = part; rest = part2 ++ (part3 ++ rest); is_part = is; later = o; whole = other } in
    let r = pre-reads t2 t in
    let same : t3 ≡ r.rest = (cut_same p r.value t3 r.rest (sym h ∙ r.is)).1 in
    let size : length t3 ≡ length r.rest = ap (λ (l : List ℕ). length l) same in
    let less = r.shorter in
    let both = sym whole ∙ other in
    longer-first (length front) (length part) (length front2 ∷ length front3 ∷ []) (length part2 ∷ length part3 ∷ [])
    (front-longer front t3 part (part2 ++ (part3 ++ rest)) both (omega arith))
    (λ e. post-longest t3 t4 t5 q v front2 front3 part2 part3 rest value2 value3 h2 h3 whole2 whole3 (rest-same front t3 part (part2 ++ (part3 ++ rest)) both e) is2 is3 last)

parts-longest : (text : List ℕ) (f : Fields) (s : IsSpelled text f) (t1 t2 t3 t4 t5 : List ℕ) (n : ℕ) (ns : List ℕ) (p : Option Pre) (q v : Option ℕ) (ss : List Segment) (g : Fields)
    → epoch (after_optional (λ b. b == 118) text) ≡ Some (n, t1) → release t1 ≡ Some (ns, t2) → pre t2 ≡ Some (p, t3) → post t3 ≡ Some (q, t4) → dev t4 ≡ Some (v, t5) → local t5 ≡ Some ss
    → Some (record { epoch = n; release = ns; pre = p; post = q; dev = v; local = ss }) ≡ Some g → Longest text g f s
parts-longest text f s t1 t2 t3 t4 t5 n ns p q v ss g h1 h2 h3 h4 h5 h6 e =
    let t0 = after_optional (λ b. b == 118) text in
    let fl = letter-spelled text in
    let fe = epoch-spelled t0 n t1 h1 in
    let fr = release-spelled t1 ns t2 h2 in
    let fp = pre-spelled t2 p t3 h3 in
    let fq = post-spelled t3 q t4 h4 in
    let fd = dev-spelled t4 v t5 h5 in
    let last : Last s.local = record { segments = f.local; is_local = s.is_local } in
    let d : FromDev (s.dev ++ s.local) = record { value = f.dev; part = s.dev; rest = s.local; is_part = s.is_dev; last = last; whole = refl } in
    let o : FromPost (s.post ++ (s.dev ++ s.local)) = record { value = f.post; part = s.post; rest = s.dev ++ s.local; is_part = s.is_post; later = d; whole = refl } in
    let tail = s.pre ++ (s.post ++ (s.dev ++ s.local)) in
    let t : FromPre tail = record { value = f.pre; part = s.pre; rest = s.post ++ (s.dev ++ s.local); is_part = s.is_pre; later = o; whole = refl } in
    let ends = FromPre-ends tail t in
    let x0 : t0 ≡ s.epoch ++ (s.release ++ tail) =
    ap (λ (l : List ℕ). after_optional (λ b. b == 118) l) s.spelling ∙ letter-read s.letter s.epoch f.epoch s.release f.release tail s.is_letter s.is_epoch s.is_release in
    let x1 : t1 ≡ s.release ++ tail =
    (cut_same n f.epoch t1 (s.release ++ tail) (sym h1 ∙ ap (λ (l : List ℕ). epoch l) x0 ∙ epoch-read s.epoch f.epoch s.release f.release tail s.is_epoch s.is_release ends)).1 in
    let x2 : t2 ≡ tail = (cut_same ns f.release t2 tail (sym h2 ∙ ap (λ (l : List ℕ). release l) x1 ∙ release-read s.release f.release tail s.is_release ends)).1 in
    let l0 = front-same fl.front t0 s.letter (s.epoch ++ (s.release ++ tail)) (sym fl.whole ∙ s.spelling) x0 in
    let l1 = front-same fe.front t1 s.epoch (s.release ++ tail) (sym fe.whole ∙ x0) x1 in
    let l2 = front-same fr.front t2 s.release tail (sym fr.whole ∙ x1) x2 in
    let later = pre-longest t2 t3 t4 t5 p q v fp.front fq.front fd.front s.pre s.post s.dev s.local f.pre f.post f.dev h3 h4 h5 fp.whole fq.whole fd.whole x2 s.is_pre s.is_post s.is_dev last in
    subst (λ x. Longest text x f s) (inside (record { epoch = n; release = ns; pre = p; post = q; dev = v; local = ss }) g e) (
      record {
        letter = fl.front;
        epoch = fe.front;
        release = fr.front;
        pre = fp.front;
        post = fq.front;
        dev = fd.front;
        local = t5;
        is_letter = fl.holds;
        is_epoch = fe.holds;
        is_release = fr.holds;
        is_pre = fp.holds;
        is_post = fq.holds;
        is_dev = fd.holds;
        is_local = local-spelled t5 ss h6;
        spelling = fl.whole ∙ ap (λ (l : List ℕ). fl.front ++ l) (fe.whole ∙ ap (λ (l : List ℕ). fe.front ++ l) (fr.whole ∙ ap (λ (l : List ℕ). fr.front ++ l)
            (fp.whole ∙ ap (λ (l : List ℕ). fp.front ++ l) (fq.whole ∙ ap (λ (l : List ℕ). fq.front ++ l) fd.whole))));
      },
      longer-first (length fl.front) (length s.letter)
          (length fe.front ∷ length fr.front ∷ length fp.front ∷ length fq.front ∷ length fd.front ∷ [])
          (length s.epoch ∷ length s.release ∷ length s.pre ∷ length s.post ∷ length s.dev ∷ []) (omega arith)
          (λ e0. longer-first (length fe.front) (length s.epoch) (length fr.front ∷ length fp.front ∷ length fq.front ∷ length fd.front ∷ [])
          (length s.release ∷ length s.pre ∷ length s.post ∷ length s.dev ∷ []) (omega arith)
          (λ e1. longer-first (length fr.front) (length s.release) (length fp.front ∷ length fq.front ∷ length fd.front ∷ [])
          (length s.pre ∷ length s.post ∷ length s.dev ∷ []) (omega arith) (λ e2. later))),
    )

pub fields-longest : (text : List ℕ) (f g : Fields) (s : IsSpelled text f) → fields_of text ≡ Some g → Longest text g f s
unfolding fields_of
fields-longest text f g s e =
    let (n, is_n, e1) = bind_some (epoch (after_optional (λ b. b == 118) text)) _ _ e in
    let (r, is_r, e2) = bind_some (release n.1) _ _ e1 in
    let (p, is_p, e3) = bind_some (pre r.1) _ _ e2 in
    let (q, is_q, e4) = bind_some (post p.1) _ _ e3 in
    let (d, is_d, e5) = bind_some (dev q.1) _ _ e4 in
    let (l, is_l, e6) = bind_some (local d.1) _ _ e5 in
    parts-longest text f s n.1 r.1 p.1 q.1 d.1 n.0 r.0 p.0 q.0 d.0 l g is_n is_r is_p is_q is_d is_l e6
