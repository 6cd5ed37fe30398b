-- What a part is read as is spelled by the text that it takes.
use Rattle.std.proofs.Common.{◌≡◌, ℕ, zero, suc, ◌^◌, ◌<◌, List, [], ◌∷◌, ◌++◌, length, refl, sym, ap, subst, ◌∙◌, arith, Bool, true, false, true≢false, inl, inr, ◌⊎◌, Option, Some, None}
use Rattle.std.specs.Prelude.{if◌then◌else◌, nat_lt, IsTrue, not, ◌||◌, ◌==◌, codes}
use Rattle.std.specs.List.{list_all, list_any, slice_split, onto_first}
use Rattle.std.specs.Option.{option_map_or}
use Rattle.std.proofs.lemmas.List.{append_assoc}
use Rattle.std.proofs.lemmas.Bool.{cases_Bool, ltb-true, eqb-true, and_from, and_parts, or_parts, or_cases, or_left, or_right, not-false, eqb-false}
use Rattle.std.specs.Char.{is_ascii_digit, is_ascii_lowercase}
use Rattle.ul_version.specs.Fields.{Fields, is_word_byte}
use Rattle.ul_version.specs.Grammar.{IsNum, IsOptionalNum, IsOptionalSeparator, IsSuffix, IsEpoch, ArePoints, IsRelease, IsPre, IsPost, IsDev, IsSpelledSegment, AreSegments, IsLocal, IsSpelled}
use Rattle.ul_version.specs.Reading.{◌>>=◌, Cut, or_else, number, value_after, digits, after_digits, required_number, begins, epoch, epoch_from, marked_digits, after_word, points, onto, release, pre, pre_from, any_kind, kind_in_front, kind_words, suffix_number, suffix_from, after_optional, is_separator, post, post_words, after_any, dev, segment, segments, local, fields_of}
use Rattle.ul_version.specs.declared.fields.Pre.{Pre}
use Rattle.ul_version.specs.declared.fields.PreKind.{PreKind}
use Rattle.ul_version.specs.declared.fields.PreKind.TheVariants.{A, B, Rc}
use Rattle.ul_version.specs.declared.fields.Segment.{Segment}
use Rattle.ul_version.specs.declared.fields.Segment.TheVariants.{Number, Word}
use Rattle.ul_version.proofs.Cuts.{bind_some}
use Rattle.ul_version.proofs.Words.{IsOneOf, contains_word}

-- a choice between an answer and none that gave an answer
pub cond_some : {X : Type 0} (b : Bool) (o : Option X) (y : X) → (if b then o else None) ≡ Some y → (b ≡ true) × (o ≡ Some y)
cond_some true o y e = (refl, e)
cond_some false o y e = cc e

pub inside : {X : Type 0} (x y : X) → Some x ≡ Some y → x ≡ y
inside x y e = cc e

-- two equal parts have equal values and equal rests
pub cut_same : {X : Type 0} (x y : X) (r t : List ℕ) → ◌≡◌ {A = Cut X} (Some (x, r)) (Some (y, t)) → (x ≡ y) × (r ≡ t)
cut_same x y r t e = let p = inside (x, r) (y, t) e in (ap (λ q. q.0) p, ap (λ q. q.1) p)

-- a text is some front, which has the property, and this rest
pub record Front (text rest : List ℕ) (P : List ℕ → Type 0) : Type 0 where
  pub front : List ℕ
  pub whole : text ≡ front ++ rest
  pub holds : P front

-- the same front, of an equal value and with an equal rest
pub front_at : {X : Type 0} (P : List ℕ → X → Type 0) (text r rest : List ℕ) (x y : X) → x ≡ y → r ≡ rest → Front text r (λ l. P l x) → Front text rest (λ l. P l y)
front_at P text r rest x y e same f =
    record { front = f.front; whole = f.whole ∙ ap (λ (l : List ℕ). f.front ++ l) same; holds = subst (λ z. P f.front z) e f.holds }

pub digits-split : (text : List ℕ) → text ≡ digits text ++ after_digits text
unfolding digits after_digits
digits-split [] = refl
digits-split (b ∷ rest) = elim (cases_Bool (is_ascii_digit b)) [
  | inl digit ↦ rw (digit) (ap (λ (l : List ℕ). b ∷ l) (digits-split rest))
  | inr other ↦ rw other refl
]

pub digits-all : (text : List ℕ) → list_all is_ascii_digit (digits text) ≡ true
unfolding digits
digits-all [] = refl
digits-all (b ∷ rest) = elim (cases_Bool (is_ascii_digit b)) [
  | inl digit ↦ rw (digit) (and_from (is_ascii_digit b) (list_all is_ascii_digit (digits rest)) digit (digits-all rest))
  | inr other ↦ rw other refl
]

pub digits-begin : (text : List ℕ) → begins is_ascii_digit text ≡ true → 0 < length (digits text)
unfolding digits
digits-begin [] h = absurd (true≢false (sym h))
digits-begin (b ∷ rest) h = rw h (omega arith)

num_from : (ds : List ℕ) (n : ℕ) → list_all is_ascii_digit ds ≡ true → value_after 0 ds ≡ n → n < 2 ^ 64 → IsOptionalNum ds n
unfolding value_after
num_from [] n h v fits = inl (refl, sym v)
num_from (d ∷ ds) n h v fits = inr (record { nonempty = omega arith; digits = h; value = v; fits = fits })

number-parts : (text : List ℕ) (n : ℕ) (rest : List ℕ) → number text ≡ Some (n, rest)
    → (value_after 0 (digits text) ≡ n) × (after_digits text ≡ rest) × (n < 2 ^ 64)
unfolding number
number-parts text n rest e =
    let (small, same) = cond_some (nat_lt (value_after 0 (digits text)) (2 ^ 64)) _ _ e in
    let (value, left) = cut_same (value_after 0 (digits text)) n (after_digits text) rest same in
    (value, left, rw (← value) (ltb-true _ _ small))

pub number-spelled : (text : List ℕ) (n : ℕ) (rest : List ℕ) → number text ≡ Some (n, rest) → Front text rest (λ front. IsOptionalNum front n)
number-spelled text n rest e =
    let (value, left, fits) = number-parts text n rest e in
    record { front = digits text; whole = rw (← left) (digits-split text); holds = num_from (digits text) n (digits-all text) value fits }

-- a number whose first digit is there
pub number-there : (text : List ℕ) (n : ℕ) (rest : List ℕ) → begins is_ascii_digit text ≡ true → number text ≡ Some (n, rest) → Front text rest (λ front. IsNum front n)
number-there text n rest b e =
    let (value, left, fits) = number-parts text n rest e in
    record {
      front = digits text;
      whole = rw (← left) (digits-split text);
      holds = record { nonempty = digits-begin text b; digits = digits-all text; value = value; fits = fits };
    }

pub needed-spelled : (text : List ℕ) (n : ℕ) (rest : List ℕ) → required_number text ≡ Some (n, rest) → Front text rest (λ front. IsNum front n)
unfolding required_number
needed-spelled text n rest e = let (b, there) = cond_some (begins is_ascii_digit text) _ _ e in number-there text n rest b there

pub separator-spelled : (text : List ℕ) → Front text (after_optional is_separator text) IsOptionalSeparator
separator-spelled [] = record { front = []; whole = refl; holds = inl refl }
separator-spelled (b ∷ rest) = elim (cases_Bool (is_separator b)) [
  | inl yes_one ↦ record { front = b ∷ []; whole = rw yes_one refl; holds = inr (b, refl, yes_one) }
  | inr no_one ↦ record { front = []; whole = rw no_one refl; holds = inl refl }
]

pub word-spelled : (word text rest : List ℕ) → after_word word text ≡ Some rest → text ≡ word ++ rest
unfolding after_word
word-spelled [] text rest e = inside text rest e
word-spelled (w ∷ word) [] rest e = cc e
word-spelled (w ∷ word) (b ∷ text) rest e =
    let (same, more) = cond_some (b == w) _ _ e in
    rw (eqb-true b w same) (ap (λ (l : List ℕ). w ∷ l) (word-spelled word text rest more))

or_else-cases : {X : Type 0} (o p : Option X) (y : X) → or_else o p ≡ Some y → (o ≡ Some y) ⊎ (p ≡ Some y)
or_else-cases None p y e = inr e
or_else-cases (Some x) p y e = inl e

pub any-spelled : (words : List (List ℕ)) (text rest : List ℕ) → after_any words text ≡ Some rest → Front text rest (IsOneOf words)
any-spelled [] text rest e = cc e
any-spelled (word ∷ words) text rest e = elim (or_else-cases (after_word word text) (after_any words text) rest e) [
  | inl first ↦ record { front = word; whole = word-spelled word text rest first; holds = inl refl }
  | inr later ↦ let f = any-spelled words text rest later in record { front = f.front; whole = f.whole; holds = inr f.holds }
]

-- a word after an optional separator, and the number of the part
pub suffix-spelled : (words : List (List ℕ)) (text after rest : List ℕ) (n : ℕ) → Front (after_optional is_separator text) after (IsOneOf words)
    → suffix_number after ≡ Some (n, rest) → Front text rest (λ front. IsSuffix words front n)
suffix-spelled words text after rest n w e =
    let s = separator-spelled text in
    let t = separator-spelled after in
    let d = number-spelled (after_optional is_separator after) n rest e in
    record {
      front = s.front ++ (w.front ++ (t.front ++ d.front));
      whole = s.whole ∙ ap (λ (l : List ℕ). s.front ++ l) (w.whole ∙ ap (λ (l : List ℕ). w.front ++ l) (t.whole ∙ ap (λ (l : List ℕ). t.front ++ l) d.whole))
          ∙ simp append_assoc;
      holds = record {
        before = s.front;
        word = w.front;
        between = t.front;
        digits = d.front;
        is_before = s.holds;
        is_word = contains_word words w.front w.holds;
        is_between = t.holds;
        are_digits = d.holds;
        spelling = refl;
      };
    }

epoch_from-spelled : (text before : List ℕ) (m : ℕ) (after : List ℕ) (n : ℕ) (rest : List ℕ) (o : Option (List ℕ)) → text ≡ before ++ after → IsNum before m
    → after_word (codes "!") after ≡ o → epoch_from text m o ≡ Some (n, rest) → Front text rest (λ front. IsEpoch front n)
epoch_from-spelled text before m after n rest None whole num h e =
    let (absent, same) = cut_same 0 n text rest e in
    record { front = []; whole = same; holds = inl (refl, sym absent) }
epoch_from-spelled text before m after n rest (Some left) whole num h e =
    let (value, same) = cut_same m n left rest e in
    record {
      front = before ++ codes "!";
      whole = whole ∙ ap (λ (l : List ℕ). before ++ l) (word-spelled (codes "!") after left h ∙ ap (λ (l : List ℕ). codes "!" ++ l) same) ∙ simp append_assoc;
      holds = inr (before, rw (← value) num, refl);
    }

pub epoch-spelled : (text : List ℕ) (n : ℕ) (rest : List ℕ) → epoch text ≡ Some (n, rest) → Front text rest (λ front. IsEpoch front n)
unfolding epoch
epoch-spelled text n rest e = elim (cases_Bool (begins is_ascii_digit text)) [
  | inl digit ↦
      let (m, is, from) = bind_some (number text) _ _ (rw digit at e) in
      let num = number-there text m.0 m.1 digit is in
      epoch_from-spelled text num.front m.0 m.1 n rest _ num.whole num.holds refl from
  | inr other ↦
      let (absent, same) = cut_same 0 n text rest (rw other at e) in
      record { front = []; whole = same; holds = inl (refl, sym absent) }
]

-- the text from its digits on
pub marked-spelled : (mark text rest : List ℕ) → marked_digits mark text ≡ Some rest → (text ≡ mark ++ rest) × (begins is_ascii_digit rest ≡ true)
unfolding marked_digits
marked-spelled mark text rest e =
    let (left, is, same) = bind_some (after_word mark text) _ _ e in
    let (digit, same2) = cond_some (begins is_ascii_digit left) (Some left) rest same in
    let equal = inside left rest same2 in
    (word-spelled mark text rest (is ∙ ap (λ (l : List ℕ). Some l) equal), rw (← equal) digit)

nil_points : (text rest ns : List ℕ) → ◌≡◌ {A = Cut (List ℕ)} (Some ([], text)) (Some (ns, rest)) → Front text rest (λ front. ArePoints front ns)
nil_points text rest ns e =
    let (none, same) = cut_same [] ns text rest e in
    record { front = []; whole = same; holds = rw (← none) refl }

points-step : (text t mid rest : List ℕ) (m : ℕ) (ns : List ℕ) → marked_digits (codes ".") text ≡ Some t → number t ≡ Some (m, mid)
    → Front mid rest (λ front. ArePoints front ns) → Front text rest (λ front. ArePoints front (m ∷ ns))
points-step text t mid rest m ns h is f =
    let (mark, digit) = marked-spelled (codes ".") text t h in
    let d = number-there t m mid digit is in
    record {
      front = codes "." ++ (d.front ++ f.front);
      whole = mark ∙ ap (λ (l : List ℕ). codes "." ++ l) (d.whole ∙ ap (λ (l : List ℕ). d.front ++ l) f.whole) ∙ simp append_assoc;
      holds = (d.front, f.front, d.holds, f.holds, refl);
    }

points_from-spelled : (most : ℕ) (text ns rest : List ℕ) → ((mid ms : List ℕ) (left : List ℕ) → points most mid ≡ Some (ms, left) → Front mid left (λ front. ArePoints front ms))
    → (o : Option (List ℕ)) → marked_digits (codes ".") text ≡ o
    → option_map_or (λ t. number t >>= λ n. onto (n.0 ∷ []) (points most n.1)) o (Some ([], text)) ≡ Some (ns, rest)
    → Front text rest (λ front. ArePoints front ns)
points_from-spelled most text ns rest ih None h k = nil_points text rest ns k
points_from-spelled most text ns rest ih (Some t) h k =
    let (m, is, more) = bind_some (number t) _ _ k in
    let (p, is_more, same) = bind_some (points most m.1) _ _ more in
    let (all, left) = cut_same (m.0 ∷ p.0) ns p.1 rest same in
    front_at ArePoints text p.1 rest (m.0 ∷ p.0) ns all left (points-step text t m.1 p.1 m.0 p.0 h is (ih m.1 p.0 p.1 is_more))

pub points-spelled : (most : ℕ) (text ns rest : List ℕ) → points most text ≡ Some (ns, rest) → Front text rest (λ front. ArePoints front ns)
unfolding points
points-spelled zero text ns rest e = nil_points text rest ns e
points-spelled (suc most) text ns rest e =
    points_from-spelled most text ns rest (λ mid ms left h. points-spelled most mid ms left h) (marked_digits (codes ".") text) refl e

release-step : (text mid rest : List ℕ) (m : ℕ) (ns : List ℕ) → required_number text ≡ Some (m, mid)
    → Front mid rest (λ front. ArePoints front ns) → Front text rest (λ front. IsRelease front (m ∷ ns))
release-step text mid rest m ns is f =
    let d = needed-spelled text m mid is in
    record {
      front = d.front ++ f.front;
      whole = d.whole ∙ ap (λ (l : List ℕ). d.front ++ l) f.whole ∙ simp append_assoc;
      holds = (d.front, f.front, d.holds, f.holds, refl);
    }

pub release-spelled : (text ns rest : List ℕ) → release text ≡ Some (ns, rest) → Front text rest (λ front. IsRelease front ns)
unfolding release
release-spelled text ns rest e =
    let (m, is, more) = bind_some (required_number text) _ _ e in
    let (p, is_more, same) = bind_some (points (length text) m.1) _ _ more in
    let (all, left) = cut_same (m.0 ∷ p.0) ns p.1 rest same in
    front_at IsRelease text p.1 rest (m.0 ∷ p.0) ns all left
    (release-step text m.1 p.1 m.0 p.0 is (points-spelled (length text) m.1 p.0 p.1 is_more))

kind_in_front-spelled : (kind k : PreKind) (text rest : List ℕ) → kind_in_front kind text ≡ Some (k, rest) → Front text rest (IsOneOf (kind_words k))
kind_in_front-spelled kind k text rest e =
    let (left, is, same) = bind_some (after_any (kind_words kind) text) _ _ e in
    let (kinds, lefts) = cut_same kind k left rest same in
    rw (← kinds) (any-spelled (kind_words kind) text rest (is ∙ ap (λ (l : List ℕ). Some l) lefts))

any_kind-spelled : (k : PreKind) (text rest : List ℕ) → any_kind text ≡ Some (k, rest) → Front text rest (IsOneOf (kind_words k))
any_kind-spelled k text rest e = elim (or_else-cases (kind_in_front A text) _ (k, rest) e) [
  | inl a ↦ kind_in_front-spelled A k text rest a
  | inr more ↦ elim (or_else-cases (kind_in_front B text) (kind_in_front Rc text) (k, rest) more) [
    | inl b ↦ kind_in_front-spelled B k text rest b
    | inr rc ↦ kind_in_front-spelled Rc k text rest rc
  ]
]

pre_from-spelled : (text : List ℕ) (p : Option Pre) (rest : List ℕ) (o : Cut PreKind) → any_kind (after_optional is_separator text) ≡ o
    → pre_from text o ≡ Some (p, rest) → Front text rest (λ front. IsPre front p)
pre_from-spelled text p rest None h k =
    let (none, same) = cut_same None p text rest k in
    front_at IsPre text text rest None p none same (record { front = []; whole = refl; holds = refl })
pre_from-spelled text p rest (Some w) h k =
    let (n, is, same) = bind_some (suffix_number w.1) _ _ k in
    let (parts, left) = cut_same (Some (record { kind = w.0; number = n.0 })) p n.1 rest same in
    front_at IsPre text n.1 rest (Some (record { kind = w.0; number = n.0 })) p parts left
    (suffix-spelled (kind_words w.0) text w.1 n.1 n.0 (any_kind-spelled w.0 _ w.1 h) is)

pub pre-spelled : (text : List ℕ) (p : Option Pre) (rest : List ℕ) → pre text ≡ Some (p, rest) → Front text rest (λ front. IsPre front p)
unfolding pre
pre-spelled text p rest e = pre_from-spelled text p rest (any_kind (after_optional is_separator text)) refl e

suffix_from-spelled : (words : List (List ℕ)) (text : List ℕ) (p : Option ℕ) (rest : List ℕ) (o : Option (List ℕ))
    → ((after : List ℕ) → o ≡ Some after → Front (after_optional is_separator text) after (IsOneOf words)) → suffix_from text o ≡ Some (p, rest)
    → ((p ≡ None) × (text ≡ rest)) ⊎ ((n : ℕ) × (p ≡ Some n) × Front text rest (λ front. IsSuffix words front n))
suffix_from-spelled words text p rest None w e =
    let (none, same) = cut_same None p text rest e in inl (sym none, same)
suffix_from-spelled words text p rest (Some after) w e =
    let (n, is, same) = bind_some (suffix_number after) _ _ e in
    let (parts, left) = cut_same (Some n.0) p n.1 rest same in
    inr (n.0, sym parts, suffix-spelled words text after rest n.0 (w after refl) (is ∙ ap (λ (l : List ℕ). Some (n.0, l)) left))

pub dev-spelled : (text : List ℕ) (p : Option ℕ) (rest : List ℕ) → dev text ≡ Some (p, rest) → Front text rest (λ front. IsDev front p)
unfolding dev
dev-spelled text p rest e =
    elim (suffix_from-spelled (codes "dev" ∷ []) text p rest (after_word (codes "dev") (after_optional is_separator text))
    (λ after h. record { front = codes "dev"; whole = word-spelled (codes "dev") _ after h; holds = inl refl }) e) [
      | inl (none, same) ↦ record { front = []; whole = same; holds = rw none refl }
      | inr (n, some, f) ↦ record { front = f.front; whole = f.whole; holds = rw some f.holds }
    ]

post_word-spelled : (text : List ℕ) (p : Option ℕ) (rest : List ℕ) → suffix_from text (after_any post_words (after_optional is_separator text)) ≡ Some (p, rest)
    → Front text rest (λ front. IsPost front p)
post_word-spelled text p rest e =
    elim (suffix_from-spelled post_words text p rest (after_any post_words (after_optional is_separator text)) (λ after h. any-spelled post_words _ after h) e) [
      | inl (none, same) ↦ record { front = []; whole = same; holds = rw none refl }
      | inr (n, some, f) ↦ record { front = f.front; whole = f.whole; holds = rw some (inr f.holds) }
    ]

dash-step : (text t rest : List ℕ) (n : ℕ) → marked_digits (codes "-") text ≡ Some t → number t ≡ Some (n, rest) → Front text rest (λ front. IsPost front (Some n))
dash-step text t rest n h is =
    let (mark, digit) = marked-spelled (codes "-") text t h in
    let d = number-there t n rest digit is in
    record {
      front = codes "-" ++ d.front;
      whole = mark ∙ ap (λ (l : List ℕ). codes "-" ++ l) d.whole ∙ simp append_assoc;
      holds = inl (d.front, d.holds, refl);
    }

post_from-spelled : (text : List ℕ) (p : Option ℕ) (rest : List ℕ) (o : Option (List ℕ)) → marked_digits (codes "-") text ≡ o
    → option_map_or (λ t. number t >>= λ n. Some (Some n.0, n.1)) o (suffix_from text (after_any post_words (after_optional is_separator text))) ≡ Some (p, rest)
    → Front text rest (λ front. IsPost front p)
post_from-spelled text p rest None h k = post_word-spelled text p rest k
post_from-spelled text p rest (Some t) h k =
    let (n, is, same) = bind_some (number t) _ _ k in
    let (parts, left) = cut_same (Some n.0) p n.1 rest same in
    front_at IsPost text n.1 rest (Some n.0) p parts left (dash-step text t n.1 n.0 h is)

pub post-spelled : (text : List ℕ) (p : Option ℕ) (rest : List ℕ) → post text ≡ Some (p, rest) → Front text rest (λ front. IsPost front p)
unfolding post
post-spelled text p rest e = post_from-spelled text p rest (marked_digits (codes "-") text) refl e

-- ---- the local part

digits-whole : (text : List ℕ) → list_all is_ascii_digit text ≡ true → digits text ≡ text
unfolding digits
digits-whole [] h = refl
digits-whole (b ∷ rest) h =
    let (first, others) = and_parts (is_ascii_digit b) (list_all is_ascii_digit rest) h in
    rw first (ap (λ (l : List ℕ). b ∷ l) (digits-whole rest others))

letter_in : (text : List ℕ) → list_all is_word_byte text ≡ true → list_all is_ascii_digit text ≡ false → list_any is_ascii_lowercase text ≡ true
letter_in [] h other = absurd (true≢false other)
letter_in (b ∷ rest) h other =
    let (first, others) = and_parts (is_word_byte b) (list_all is_word_byte rest) h in
    elim (or_cases (is_ascii_digit b) (is_ascii_lowercase b) first) [
      | inl digit ↦ or_right (is_ascii_lowercase b) _ (letter_in rest others (rw digit at other))
      | inr letter ↦ or_left (is_ascii_lowercase b) _ letter
    ]

segment-number : (piece : List ℕ) (s : Segment) → list_all is_ascii_digit piece ≡ true → 0 < length piece → (number piece >>= λ n. Some (Number n.0)) ≡ Some s → IsSpelledSegment piece s
segment-number piece s all filled e =
    let (n, is, same) = bind_some (number piece) _ _ e in
    let (value, left, fits) = number-parts piece n.0 n.1 is in
    subst (λ x. IsSpelledSegment piece x) (inside (Number n.0) s same)
    (record { nonempty = filled; digits = all; value = rw (digits-whole piece all) at value; fits = fits })

pub segment-spelled : (piece : List ℕ) (s : Segment) → segment piece ≡ Some s → IsSpelledSegment piece s
unfolding segment
segment-spelled piece s e = elim (cases_Bool (length piece == 0 || not (list_all is_word_byte piece))) [
  | inl bad ↦ let none = rw bad at e in cc none
  | inr good ↦
      let (filled, words) = or_parts (length piece == 0) (not (list_all is_word_byte piece)) good in
      let some : 0 < length piece = omega (arith, eqb-false (length piece) 0 filled) in
      let all = not-false (list_all is_word_byte piece) words in
      elim (cases_Bool (list_all is_ascii_digit piece)) [
        | inl digit ↦ segment-number piece s digit some (rw (good, digit) at e)
        | inr word ↦
            subst (λ x. IsSpelledSegment piece x) (inside (Word piece) s (rw (good, word) at e))
            (refl, and_from (list_all is_word_byte piece) _ all (letter_in piece all word))
      ]
]

-- pieces that make up a text, with one separator between each two
abbrev Joined : List (List ℕ) → List ℕ → Type 0
Joined [] text = ⊥
Joined (piece ∷ []) text = text ≡ piece
Joined (piece ∷ next ∷ pieces) text = (b : ℕ) × (rest : List ℕ) × IsTrue (is_separator b) × Joined (next ∷ pieces) rest × (text ≡ piece ++ (b ∷ rest))

Joined-first : (b : ℕ) (text : List ℕ) (pieces : List (List ℕ)) → Joined pieces text → Joined (onto_first b pieces) (b ∷ text)
Joined-first b text [] j = absurd j
Joined-first b text (piece ∷ []) j = ap (λ (l : List ℕ). b ∷ l) j
Joined-first b text (piece ∷ next ∷ pieces) (c, rest, sep, others, whole) = (c, rest, sep, others, ap (λ (l : List ℕ). b ∷ l) whole)

Joined-next : (b : ℕ) (text : List ℕ) (pieces : List (List ℕ)) → is_separator b ≡ true → Joined pieces text → Joined ([] ∷ pieces) (b ∷ text)
Joined-next b text [] h j = absurd j
Joined-next b text (piece ∷ pieces) h j = (b, text, h, j, refl)

slice_split-joined : (text : List ℕ) → Joined (slice_split is_separator text) text
slice_split-joined [] = refl
slice_split-joined (b ∷ text) = elim (cases_Bool (is_separator b)) [
  | inl yes_one ↦ rw yes_one (Joined-next b text (slice_split is_separator text) yes_one (slice_split-joined text))
  | inr no_one ↦ rw no_one (Joined-first b text (slice_split is_separator text) (slice_split-joined text))
]

segments-spelled : (pieces : List (List ℕ)) (text : List ℕ) (ss : List Segment) → Joined pieces text → segments pieces ≡ Some ss → AreSegments text ss
unfolding segments
segments-spelled [] text ss j e = absurd j
segments-spelled (piece ∷ []) text ss j e =
    let (s, is, same) = bind_some (segment piece) _ _ e in
    subst (λ xs. AreSegments text xs) (inside (s ∷ []) ss same) (rw j (segment-spelled piece s is))
segments-spelled (piece ∷ next ∷ pieces) text ss (b, rest, sep, j, whole) e =
    let (s, is, more) = bind_some (segment piece) _ _ e in
    let (ts, are, same) = bind_some (segments (next ∷ pieces)) _ _ more in
    subst (λ xs. AreSegments text xs) (inside (s ∷ ts) ss same)
    (segments-join text piece rest b s ts (segment-spelled piece s is) sep (segments-spelled (next ∷ pieces) rest ts j are) whole)
  where
    segments-join : (t p r : List ℕ) (c : ℕ) (x : Segment) (xs : List Segment) → IsSpelledSegment p x → IsTrue (is_separator c) → AreSegments r xs → t ≡ p ++ (c ∷ r) → AreSegments t (x ∷ xs)
    segments-join t p r c x [] h k a w = absurd a
    segments-join t p r c x (y ∷ xs) h k a w = (p, r, c, h, k, a, w)

local-plus : (rest : List ℕ) (ss : List Segment) → AreSegments rest ss → IsLocal (43 ∷ rest) ss
local-plus rest [] a = absurd a
local-plus rest (s ∷ ss) a = (rest, a, refl)

pub local-spelled : (text : List ℕ) (ss : List Segment) → local text ≡ Some ss → IsLocal text ss
unfolding local
local-spelled [] ss e = subst (λ xs. IsLocal [] xs) (inside [] ss e) refl
local-spelled (b ∷ rest) ss e =
    let (plus, are) = cond_some (b == 43) _ _ e in
    rw (eqb-true b 43 plus) (local-plus rest ss (segments-spelled (slice_split is_separator rest) rest ss (slice_split-joined rest) are))

pub letter-spelled : (text : List ℕ) → Front text (after_optional (λ b. b == 118) text) (λ l. (l ≡ []) ⊎ (l ≡ codes "v"))
letter-spelled [] = record { front = []; whole = refl; holds = inl refl }
letter-spelled (b ∷ rest) = elim (cases_Bool (b == 118)) [
  | inl yes_one ↦ record { front = codes "v"; whole = rw (yes_one, eqb-true b 118 yes_one) refl; holds = inr refl }
  | inr no_one ↦ record { front = []; whole = rw no_one refl; holds = inl refl }
]

-- ---- the whole text

all-spelled : (text a b c d e : List ℕ) (n : ℕ) (ns : List ℕ) (p : Option Pre) (q v : Option ℕ) (ss : List Segment) (f : Fields)
    → Front text (after_optional (λ b. b == 118) text) (λ l. (l ≡ []) ⊎ (l ≡ codes "v")) → Front (after_optional (λ b. b == 118) text) a (λ l. IsEpoch l n)
    → Front a b (λ l. IsRelease l ns) → Front b c (λ l. IsPre l p) → Front c d (λ l. IsPost l q) → Front d e (λ l. IsDev l v) → IsLocal e ss
    → Some (record { epoch = n; release = ns; pre = p; post = q; dev = v; local = ss }) ≡ Some f → IsSpelled text f
all-spelled text a b c d e n ns p q v ss f fl fe fr fp fq fd l same = subst (λ g. IsSpelled text g) (inside _ f same) (record {
  letter = fl.front;
  epoch = fe.front;
  release = fr.front;
  pre = fp.front;
  post = fq.front;
  dev = fd.front;
  local = e;
  is_letter = fl.holds;
  is_epoch = fe.holds;
  is_release = fr.holds;
  is_pre = fp.holds;
  is_post = fq.holds;
  is_dev = fd.holds;
  is_local = l;
  spelling = fl.whole ∙ ap (λ (l : List ℕ). fl.front ++ l) (fe.whole ∙ ap (λ (l : List ℕ). fe.front ++ l) (fr.whole ∙ ap (λ (l : List ℕ). fr.front ++ l)
      (fp.whole ∙ ap (λ (l : List ℕ). fp.front ++ l) (fq.whole ∙ ap (λ (l : List ℕ). fq.front ++ l) fd.whole))));
})

pub fields-spelled : (text : List ℕ) (f : Fields) → fields_of text ≡ Some f → IsSpelled text f
unfolding fields_of
fields-spelled text f e =
    let (n, is_n, e1) = bind_some (epoch (after_optional (λ b. b == 118) text)) _ _ e in
    let (r, is_r, e2) = bind_some (release n.1) _ _ e1 in
    let (p, is_p, e3) = bind_some (pre r.1) _ _ e2 in
    let (q, is_q, e4) = bind_some (post p.1) _ _ e3 in
    let (d, is_d, e5) = bind_some (dev q.1) _ _ e4 in
    let (l, is_l, e6) = bind_some (local d.1) _ _ e5 in
    all-spelled text n.1 r.1 p.1 q.1 d.1 n.0 r.0 p.0 q.0 d.0 l f (letter-spelled text) (epoch-spelled (after_optional (λ b. b == 118) text) n.0 n.1 is_n) (release-spelled n.1 r.0 r.1 is_r)
    (pre-spelled r.1 p.0 p.1 is_p) (post-spelled p.1 q.0 q.1 is_q) (dev-spelled q.1 d.0 d.1 is_d) (local-spelled d.1 l is_l) e6
