-- A text is read as what the grammar spells it as.
use Rattle.std.proofs.Common.{◌≡◌, ◌&&◌, ℕ, suc, List, [], ◌∷◌, ◌++◌, length, drop, take, refl, sym, ap, subst, ◌∙◌, arith, Bool, true, false, true≢false, Option, Some, None, inl, inr, ⊎_elim}
use Rattle.std.specs.Prelude.{◌==◌, ◌+◌, ◌-◌, ◌⊎◌, nat_eq, codes}
use Rattle.std.proofs.lemmas.Bool.{and_parts, cases_Bool, eqb-true}
use Rattle.std.proofs.lemmas.List.{drop_at, length-append, take-append-drop, take_at}
use Rattle.std.proofs.lemmas.Slice.Eq.{bytes_eq-Decides}
use lib.Pointwise.{pointwise}
use Rattle.std.specs.List.{ends_with, list_all, list_any, slice_split}
use Rattle.ul_base.specs.Names.{has_ends, is_name, is_name_byte, name_of}
use Rattle.ul_version.specs.Ascii.{after_all, at_sign, before_end, begins, comma, is_blank, is_white, left_bracket, left_parenthesis, right_bracket, right_parenthesis, run_length, semicolon, text_between}
use Rattle.ul_version.specs.Reading.{◌>>=◌}
use Rattle.ul_version.proofs.ForCallers.{after_all-drop, bind_some, cond_some, run-all}
use Rattle.ul_specifier.specs.Clauses.{ClauseFields}
use Rattle.ul_specifier.specs.Reading.{clauses_of, specifiers_of}
use Rattle.ul_comparison.specs.Formulas.{Formula}
use Rattle.ul_marker.specs.Reading.{marker_of}
use Rattle.ul_requirement.specs.Fields.{RequirementFields}
use Rattle.ul_requirement.specs.Grammar.{AreExtraNames, AreExtras, bracketed, no_extras, AreNames, AreSpecifiers, bare, enclosed, HasMarker, IsAddress, IsFront, IsTail, IsUrlTail, Spells, SpellsByUrl}
use Rattle.ul_requirement.specs.Laws.{ReadingIsGrammar, SpelledOnce}
use Rattle.ul_requirement.specs.Reading.{Front, IsByUrl, Reading, address_of, address_with, by_url, cut_at, extras_front, extras_in, front_of, is_address, is_inner_byte, is_url_byte, marker_behind, marker_in, name_set, names_in, names_of, parts_at, parts_read, read_address, reading_behind, reading_of, reading_with, requirement, specifiers_in, tail_of, unread, url_marker}
use Rattle.ul_requirement.proofs.Cutting.{cut-is, cut-not, cut-of, cut-without, run-ends, run-of}

-- ---- names

names_to : (pieces names : List (List ℕ)) → names_of pieces ≡ Some names → AreNames pieces names
unfolding names_of
names_to [] [] e = tt
names_to [] (n ∷ ns) e = cc
names_to (piece ∷ pieces) names e =
    let (x, is, more) = bind_some (name_of (text_between is_blank piece)) _ _ e in
    let (xs, are, some) = bind_some (names_of pieces) _ _ more in
    let same : x ∷ xs ≡ names = cc some in
    subst (AreNames (piece ∷ pieces)) same (is, names_to pieces xs are)

names_from : (pieces names : List (List ℕ)) → AreNames pieces names → names_of pieces ≡ Some names
unfolding names_of
names_from [] [] h = refl
names_from [] (n ∷ ns) h = absurd h
names_from (piece ∷ pieces) [] h = absurd h
names_from (piece ∷ pieces) (n ∷ ns) h = rw (h.0, names_from pieces ns h.1) refl

extra_names_to : (text : List ℕ) (extras : List (List ℕ)) → (names_in text >>= λ names. Some (name_set names)) ≡ Some extras → AreExtraNames text extras
extra_names_to [] extras e = cc
extra_names_to (b ∷ text) extras e =
    let (names, are, some) = bind_some (names_of (slice_split (λ c. c == comma) (b ∷ text))) _ _ e in
    let same : name_set names ≡ extras = cc some in
    (names, names_to (slice_split (λ c. c == comma) (b ∷ text)) names are, sym same)

extra_names_from : (text : List ℕ) (extras : List (List ℕ)) → AreExtraNames text extras → (names_in text >>= λ names. Some (name_set names)) ≡ Some extras
extra_names_from [] extras h = ap Some (sym h)
extra_names_from (b ∷ text) extras (names, are, same) =
    ap (λ o. o >>= λ ns. Some (name_set ns)) (names_from (slice_split (λ c. c == comma) (b ∷ text)) names are) ∙ ap Some (sym same)

-- ---- extras

extras_to : (text : List ℕ) (e : List (List ℕ) × List ℕ) → extras_front text ≡ Some e → AreExtras text e.0 e.1
unfolding extras_front extras_in
extras_to [] e h = let same : ([], []) ≡ e = cc h in subst (λ x. AreExtras [] x.0 x.1) same (no_extras refl refl refl)
extras_to (b ∷ text) e h = elim (cases_Bool (b == left_bracket)) [
  | inl opens ↦
      let read : (cut_at right_bracket text >>= λ p. (names_in (text_between is_blank p.0) >>= λ names. Some (name_set names)) >>= λ extras. Some (extras, p.1)) ≡ Some e = rw opens at h in
      let (p, cut, more) = bind_some (cut_at right_bracket text) _ _ read in
      let (xs, are, some) = bind_some (names_in (text_between is_blank p.0) >>= λ names. Some (name_set names)) _ _ more in
      let same : (xs, p.1) ≡ e = cc some in
      let t = cut-is right_bracket text p cut in
      subst (λ x. AreExtras (b ∷ text) x.0 x.1) same
      (bracketed p.0 (ap (λ c. c ∷ text) (eqb-true b left_bracket opens) ∙ ap (λ l. left_bracket ∷ l) t.0) t.1 (extra_names_to (text_between is_blank p.0) xs are))
  | inr other ↦
      let some : Some ([], b ∷ text) ≡ Some e = rw other at h in
      let same : ([], b ∷ text) ≡ e = cc some in
      subst (λ x. AreExtras (b ∷ text) x.0 x.1) same (no_extras other refl refl)
]

not_bracket : (text : List ℕ) → begins (λ b. b == left_bracket) text ≡ false → extras_front text ≡ Some ([], text)
unfolding extras_front
not_bracket [] h = refl
not_bracket (b ∷ text) h = rw h refl

extras_from : (text : List ℕ) (extras : List (List ℕ)) (rest : List ℕ) → AreExtras text extras rest → extras_front text ≡ Some (extras, rest)
unfolding extras_front extras_in
extras_from text extras rest (no_extras other none same) = not_bracket text other ∙ ap (λ p. Some p) (rw (none, same) refl)
extras_from text extras rest (bracketed inside spelled free are) =
    rw (spelled, cut-of right_bracket inside rest free, extra_names_from (text_between is_blank inside) extras are) refl

-- ---- the front

name_bytes : (text name : List ℕ) → name_of text ≡ Some name → list_all is_name_byte text ≡ true
unfolding name_of is_name
name_bytes text name e =
    let (named, some) = cond_some (has_ends text && list_all is_name_byte text) _ _ e in
    (and_parts (has_ends text) (list_all is_name_byte text) named).1

front_to : (text : List ℕ) (f : Front) → front_of text ≡ Some f → IsFront text f.name f.extras f.rest
unfolding front_of
front_to text f e =
    let n : ℕ = run_length is_name_byte text in
    let (name, named, more) = bind_some (name_of (take n text)) _ _ e in
    let (x, are, some) = bind_some (extras_front (after_all is_blank (drop n text))) _ _ more in
    let same : record { name = name; extras = x.0; rest = after_all is_blank x.1 } ≡ f = cc some in
    subst (λ (g : Front). IsFront text g.name g.extras g.rest) same (record {
      name_text = take n text;
      after_name = drop n text;
      after_extras = x.1;
      spelled = sym (take-append-drop n text);
      is_name = named;
      longest = run-ends is_name_byte text;
      are_extras = extras_to (after_all is_blank (drop n text)) x are;
      is_behind = refl;
    })

front_from : (text name : List ℕ) (extras : List (List ℕ)) (behind : List ℕ) → IsFront text name extras behind → front_of text ≡ Some (record { name = name; extras = extras; rest = behind })
unfolding front_of
front_from text name extras behind f =
    let t = run-of is_name_byte f.name_text f.after_name (name_bytes f.name_text name f.is_name) f.longest in
    rw (f.spelled, t.0, t.1, f.is_name, extras_from (after_all is_blank f.after_name) extras f.after_extras f.are_extras, f.is_behind) refl

-- ---- the tail

-- the text before a word at the end, with the word, is the text
same_suffix : (word text : List ℕ) (n : ℕ) → pointwise nat_eq word (drop n text) ≡ true → text ≡ take n text ++ word
same_suffix word text n h = sym (take-append-drop n text) ∙ ap (λ l. take n text ++ l) (sym ((bytes_eq-Decides word (drop n text)).0 h))

enclosed_to : (text inside : List ℕ) → before_end (codes ")") text ≡ Some inside → text ≡ inside ++ right_parenthesis ∷ []
enclosed_to text inside e =
    let (ends, some) = cond_some (ends_with nat_eq text (codes ")")) _ _ e in
    let same : take (length text - 1) text ≡ inside = cc some in
    same_suffix (codes ")") text (length text - 1) ends ∙ ap (λ l. l ++ right_parenthesis ∷ []) same

enclosed_from : (inside : List ℕ) → before_end (codes ")") (inside ++ right_parenthesis ∷ []) ≡ Some inside
enclosed_from inside =
    let long : length (inside ++ right_parenthesis ∷ []) - 1 ≡ length inside = omega (arith, length-append inside (right_parenthesis ∷ [])) in
    rw (long, take_at inside (right_parenthesis ∷ []) (length inside) refl, drop_at inside (right_parenthesis ∷ []) (length inside) refl) refl

no_specifiers : specifiers_of [] ≡ Some []
unfolding specifiers_of clauses_of
no_specifiers = refl

specifiers_to : (text : List ℕ) (cs : List ClauseFields) → specifiers_in text ≡ Some cs → AreSpecifiers text cs
unfolding specifiers_in
specifiers_to [] cs e = bare refl (no_specifiers ∙ e)
specifiers_to (b ∷ text) cs e = elim (cases_Bool (b == left_parenthesis)) [
  | inl opens ↦
      let read : (before_end (codes ")") text >>= specifiers_of) ≡ Some cs = rw opens at e in
      let (inside, ends, are) = bind_some (before_end (codes ")") text) _ _ read in
      enclosed inside (ap (λ c. c ∷ text) (eqb-true b left_parenthesis opens) ∙ ap (λ l. left_parenthesis ∷ l) (enclosed_to text inside ends)) are
  | inr other ↦ let are : specifiers_of (b ∷ text) ≡ Some cs = rw other at e in bare other are
]

bare_from : (text : List ℕ) (cs : List ClauseFields) → begins (λ b. b == left_parenthesis) text ≡ false → specifiers_of text ≡ Some cs → specifiers_in text ≡ Some cs
unfolding specifiers_in
bare_from [] cs other are = sym no_specifiers ∙ are
bare_from (b ∷ text) cs other are = rw other are

specifiers_from : (text : List ℕ) (cs : List ClauseFields) → AreSpecifiers text cs → specifiers_in text ≡ Some cs
unfolding specifiers_in
specifiers_from text cs (bare other are) = bare_from text cs other are
specifiers_from text cs (enclosed inside spelled are) =
    rw (spelled, enclosed_from inside) are

tail_by : (text : List ℕ) (p : List ClauseFields × Option Formula) (o : Option (List ℕ × List ℕ)) → cut_at semicolon text ≡ o → list_all is_inner_byte text ≡ true
    → parts_read (parts_at text o) ≡ Some p → IsTail text p.0 p.1
unfolding marker_in
tail_by text p None cut inner e =
    let (s, are, more) = bind_some (specifiers_in (text_between is_blank text)) _ _ e in
    let same : (s, None) ≡ p = cc more in
    subst (λ x. IsTail text x.0 x.1) same (record {
      front = text;
      inner = inner;
      are_specifiers = specifiers_to (text_between is_blank text) s are;
      no_semicolon = cut-not semicolon text cut;
      is_marker = inl (refl, refl);
    })
tail_by text p (Some q) cut inner e =
    let (s, are, more) = bind_some (specifiers_in (text_between is_blank q.0)) _ _ e in
    let (m, marked, some) = bind_some (marker_of q.1 >>= λ f. Some (Some f)) _ _ more in
    let (f, formula, one) = bind_some (marker_of q.1) _ _ marked in
    let is : Some f ≡ m = cc one in
    let same : (s, m) ≡ p = cc some in
    let t = cut-is semicolon text q cut in
    subst (λ x. IsTail text x.0 x.1) same (record {
      front = q.0;
      inner = inner;
      are_specifiers = specifiers_to (text_between is_blank q.0) s are;
      no_semicolon = t.1;
      is_marker = inr (q.1, f, t.0, formula, sym is);
    })

tail_to : (text : List ℕ) (p : List ClauseFields × Option Formula) → tail_of text ≡ Some p → IsTail text p.0 p.1
unfolding tail_of
tail_to text p e =
    let (inner, read) = cond_some (list_all is_inner_byte text) _ _ e in
    tail_by text p (cut_at semicolon text) refl inner read

tail_from : (text : List ℕ) (s : List ClauseFields) (m : Option Formula) → IsTail text s m → tail_of text ≡ Some (s, m)
unfolding tail_of marker_in
tail_from text s m t = ⊎_elim
    (λ h.
    let whole : text ≡ t.front = h.0 in
    let free : list_any (λ b. b == semicolon) text ≡ false = ap (λ l. list_any (λ b. b == semicolon) l) whole ∙ t.no_semicolon in
    let are : specifiers_in (text_between is_blank text) ≡ Some s = ap (λ l. specifiers_in (text_between is_blank l)) whole ∙ specifiers_from (text_between is_blank t.front) s t.are_specifiers in
    rw (t.inner, cut-without semicolon text free, are, h.1) refl)
    (λ h.
    let cut : cut_at semicolon text ≡ Some (t.front, h.0) = ap (cut_at semicolon) h.2 ∙ cut-of semicolon t.front h.0 t.no_semicolon in
    rw (t.inner, cut, specifiers_from (text_between is_blank t.front) s t.are_specifiers, h.3, h.4) refl)
    t.is_marker

-- ---- whole texts

abbrev of_reading : RequirementFields → Reading → RequirementFields
of_reading q (requirement r) = r
of_reading q (by_url o) = q
of_reading q unread = q

abbrev of_address : RequirementFields → Reading → RequirementFields
of_address q (requirement r) = q
of_address q (by_url None) = q
of_address q (by_url (Some r)) = r
of_address q unread = q

abbrev is_read : Reading → Bool
is_read (requirement q) = true
is_read (by_url q) = false
is_read unread = false

abbrev is_address_read : Reading → Bool
is_address_read (requirement q) = false
is_address_read (by_url q) = true
is_address_read unread = false

-- what a reading by its front says
abbrev Behind : Option Front → RequirementFields → Type 0
Behind o q = (f : Front) × (o ≡ Some f) × (is_address f.rest ≡ false) × (p : List ClauseFields × Option Formula) × (tail_of f.rest ≡ Some p)
    × (record { name = f.name; extras = f.extras; specifiers = p.0; marker = p.1 } ≡ q)

with_tail : (f : Front) (q : RequirementFields) (o : Option (List ClauseFields × Option Formula)) → reading_with f o ≡ requirement q
    → (p : List ClauseFields × Option Formula) × (o ≡ Some p) × (record { name = f.name; extras = f.extras; specifiers = p.0; marker = p.1 } ≡ q)
with_tail f q None e = absurd (true≢false (sym (ap is_read e)))
with_tail f q (Some p) e = (p, refl, ap (of_reading q) e)

behind_of : (o : Option Front) (q : RequirementFields) → reading_behind o ≡ requirement q → Behind o q
behind_of None q e = absurd (true≢false (sym (ap is_read e)))
behind_of (Some f) q e = elim (cases_Bool (is_address f.rest)) [
  | inl address ↦ let url : by_url (address_of f) ≡ requirement q = rw address at e in absurd (true≢false (sym (ap is_read url)))
  | inr other ↦
      let read : reading_with f (tail_of f.rest) ≡ requirement q = rw other at e in
      let (p, tail, same) = with_tail f q (tail_of f.rest) read in
      (f, refl, other, p, tail, same)
]

spelled_to : (text : List ℕ) (q : RequirementFields) → reading_of text ≡ requirement q → Spells text q
unfolding reading_of
spelled_to text q e =
    let (f, front, other, p, tail, same) = behind_of (front_of (text_between is_white text)) q e in
    subst (Spells text) same (record {
      behind = f.rest;
      is_front = front_to (text_between is_white text) f front;
      no_address = other;
      is_tail = tail_to f.rest p tail;
    })

spelled_from : (text : List ℕ) (q : RequirementFields) → Spells text q → reading_of text ≡ requirement q
unfolding reading_of
spelled_from text q s =
    rw (front_from (text_between is_white text) q.name q.extras s.behind s.is_front, s.no_address, tail_from s.behind q.specifiers q.marker s.is_tail) refl

tail_no_address : (f : Front) (o : Option (List ClauseFields × Option Formula)) (u : Option RequirementFields) → reading_with f o ≡ by_url u → ⊥
tail_no_address f None u e = true≢false (sym (ap is_address_read e))
tail_no_address f (Some p) u e = true≢false (sym (ap is_address_read e))

address_behind : (text : List ℕ) (o : Option Front) (u : Option RequirementFields) → front_of (text_between is_white text) ≡ o → reading_behind o ≡ by_url u → IsAddress text
address_behind text None u front e = absurd (true≢false (sym (ap is_address_read e)))
address_behind text (Some f) u front e = elim (cases_Bool (is_address f.rest)) [
  | inl address ↦ record {
    name = f.name;
    extras = f.extras;
    behind = f.rest;
    is_front = front_to (text_between is_white text) f front;
    is_address = address;
  }
  | inr other ↦ let read : reading_with f (tail_of f.rest) ≡ by_url u = rw other at e in absurd (tail_no_address f (tail_of f.rest) u read)
]

address_to : (text : List ℕ) → IsByUrl (reading_of text) → IsAddress text
unfolding reading_of
address_to text (u, e) = address_behind text (front_of (text_between is_white text)) u refl e

address_from : (text : List ℕ) → IsAddress text → IsByUrl (reading_of text)
unfolding reading_of
address_from text a = (
  address_of (record { name = a.name; extras = a.extras; rest = a.behind }),
  rw (front_from (text_between is_white text) a.name a.extras a.behind a.is_front, a.is_address) refl,
)

-- ---- what a URL serves

marker_to : (text : List ℕ) (m : Option Formula) → marker_behind text ≡ Some m → ((text ≡ []) × (m ≡ None)) ⊎ HasMarker text [] m
unfolding marker_behind marker_in
marker_to [] m e = let same : None ≡ m = cc e in inl (refl, sym same)
marker_to (b ∷ text) m e = elim (cases_Bool (b == semicolon)) [
  | inl here ↦
      let read : (marker_of text >>= λ f. Some (Some f)) ≡ Some m = rw here at e in
      let (f, formula, one) = bind_some (marker_of text) _ _ read in
      let same : Some f ≡ m = cc one in
      inr (text, f, ap (λ c. c ∷ text) (eqb-true b semicolon here), formula, sym same)
  | inr other ↦ let none : None ≡ Some m = rw other at e in absurd (cc none)
]

marker_from : (text : List ℕ) (m : Option Formula) → ((text ≡ []) × (m ≡ None)) ⊎ HasMarker text [] m → marker_behind text ≡ Some m
unfolding marker_behind marker_in
marker_from text m h = ⊎_elim (λ h. rw (h.0, h.1) refl) (λ h. rw (h.2, h.3, h.4) refl) h

run-some : (test : ℕ → Bool) (xs : List ℕ) → begins test xs ≡ true → take (run_length test xs) xs ≡ [] → ⊥
run-some test [] h none = true≢false (sym h)
run-some test (x ∷ xs) h none =
    let n : ℕ = run_length test xs in
    let up : n + 1 ≡ suc n = omega arith in
    let some : x ∷ take n xs ≡ [] = rw (h, up) at none in
    cc some

begins-run : (test : ℕ → Bool) (xs ys : List ℕ) → list_all test xs ≡ true → (xs ≡ [] → ⊥) → begins test (xs ++ ys) ≡ true
begins-run test [] ys h some = absurd (some refl)
begins-run test (x ∷ xs) ys h some = (and_parts (test x) (list_all test xs) h).0

url_to : (text : List ℕ) (m : Option Formula) → url_marker text ≡ Some m → IsUrlTail text m
unfolding url_marker
url_to text m e =
    let (tests, read) = cond_some (list_all is_inner_byte text && begins is_url_byte text) _ _ e in
    let both = and_parts (list_all is_inner_byte text) (begins is_url_byte text) tests in
    let n : ℕ = run_length is_url_byte text in
    let behind : marker_behind (after_all is_blank (drop n text)) ≡ Some m = rw (after_all-drop is_url_byte text) read in
    record {
      url = take n text;
      after_url = drop n text;
      inner = both.0;
      spelled = sym (take-append-drop n text);
      is_url = run-all is_url_byte text;
      not_empty = run-some is_url_byte text both.1;
      longest = run-ends is_url_byte text;
      is_marker = marker_to (after_all is_blank (drop n text)) m behind;
    }

url_from : (text : List ℕ) (m : Option Formula) → IsUrlTail text m → url_marker text ≡ Some m
unfolding url_marker
url_from text m t =
    let begin : begins is_url_byte text ≡ true = ap (begins is_url_byte) t.spelled ∙ begins-run is_url_byte t.url t.after_url t.is_url t.not_empty in
    let after : after_all is_url_byte text ≡ t.after_url =
    ap (after_all is_url_byte) t.spelled ∙ sym (after_all-drop is_url_byte (t.url ++ t.after_url)) ∙ (run-of is_url_byte t.url t.after_url t.is_url t.longest).1 in
    rw (t.inner, begin, after) (marker_from (after_all is_blank t.after_url) m t.is_marker)

-- the text behind `@` in front
sign_first : (text : List ℕ) → is_address text ≡ true → text ≡ at_sign ∷ drop 1 text
sign_first [] h = absurd (true≢false (sym h))
sign_first (b ∷ text) h = ap (λ c. c ∷ text) (eqb-true b at_sign h)

by_url_behind : (text : List ℕ) (o : Option Front) (q : RequirementFields) → front_of (text_between is_white text) ≡ o → reading_behind o ≡ by_url (Some q) → SpellsByUrl text q
by_url_behind text None q front e = absurd (true≢false (sym (ap is_address_read e)))
by_url_behind text (Some f) q front e = elim (cases_Bool (is_address f.rest)) [
  | inl address ↦
      let read : by_url (address_of f) ≡ by_url (Some q) = rw address at e in
      let (m, marked, some) = bind_some (url_marker (after_all is_blank (drop 1 f.rest))) _ _ (ap read_address read) in
      let same : address_with f m ≡ q = cc some in
      subst (SpellsByUrl text) same (record {
        after_sign = drop 1 f.rest;
        is_front = subst (IsFront (text_between is_white text) f.name f.extras) (sign_first f.rest address) (front_to (text_between is_white text) f front);
        no_specifiers = refl;
        is_tail = url_to (after_all is_blank (drop 1 f.rest)) m marked;
      })
  | inr other ↦ let read : reading_with f (tail_of f.rest) ≡ by_url (Some q) = rw other at e in absurd (tail_no_address f (tail_of f.rest) (Some q) read)
]

by_url_to : (text : List ℕ) (q : RequirementFields) → reading_of text ≡ by_url (Some q) → SpellsByUrl text q
unfolding reading_of
by_url_to text q e = by_url_behind text (front_of (text_between is_white text)) q refl e

abbrev by_url_with : RequirementFields → List ClauseFields → Reading
by_url_with q specifiers = by_url (Some (record { name = q.name; extras = q.extras; specifiers = specifiers; marker = q.marker }))

by_url_from : (text : List ℕ) (q : RequirementFields) → SpellsByUrl text q → reading_of text ≡ by_url (Some q)
unfolding reading_of
by_url_from text q s =
    let read : reading_behind (front_of (text_between is_white text)) ≡ by_url_with q [] =
    rw (front_from (text_between is_white text) q.name q.extras (at_sign ∷ s.after_sign) s.is_front, url_from (after_all is_blank s.after_sign) q.marker s.is_tail) refl in
    read ∙ ap (by_url_with q) (sym s.no_specifiers)

-- `@` behind the name and the extras makes a text one by a URL
pub front_address : (text input : List ℕ) (f : Front) → input ≡ text_between is_white text → front_of input ≡ Some f → is_address f.rest ≡ true → IsByUrl (reading_of text)
unfolding reading_of
front_address text input f is front address = (address_of f, rw (← is, front, address) refl)

pub reading_is_grammar : ReadingIsGrammar
reading_is_grammar = record {
  requirements = λ text q. (spelled_to text q, spelled_from text q);
  addresses = λ text. (address_to text, address_from text);
  by_urls = λ text q. (by_url_to text q, by_url_from text q);
}

pub spelled_once : SpelledOnce
spelled_once = record {
  one = λ text q r s t. ap (of_reading q) (sym (spelled_from text q s) ∙ spelled_from text r t);
  one_by_url = λ text q r s t. ap (of_address q) (sym (by_url_from text q s) ∙ by_url_from text r t);
  alone = λ text q s a. let (u, e) = address_from text a in true≢false (ap is_read (sym (spelled_from text q s) ∙ e));
}
