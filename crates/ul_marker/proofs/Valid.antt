-- What is read is a formula.
use Rattle.std.proofs.Common.{◌≡◌, ℕ, zero, suc, List, [], ◌∷◌, length, drop, take, refl, sym, ap, subst, ◌∙◌, arith, Bool, true, false, true≢false, inl, inr, Option, Some, None, Result, Ok, Err}
use Rattle.std.specs.Prelude.{All, ◌&&◌, ◌||◌, not, ◌==◌, if◌then◌else◌, IfOk}
use Rattle.std.specs.List.{list_all, list_any, slice_split}
use Rattle.std.specs.Option.{option_map_or}
use Rattle.std.specs.Str.{bytes_eq}
use Rattle.std.proofs.lemmas.Bool.{and_parts, and_from, cases_Bool}
use Rattle.std.proofs.lemmas.Bool.Decides.{nat_tests}
use Rattle.std.proofs.lemmas.List.Elements.{All-cons, All-nil}
use Rattle.ul_base.specs.Names.{name_of, is_normal_byte}
use Rattle.ul_base.proofs.ForCallers.{name_is_plain, name_reads_itself}
use Rattle.ul_version.specs.Fields.{Fields, IsVersion}
use Rattle.ul_version.specs.Reading.{is_white, or_else, version_of}
use Rattle.ul_version.proofs.ForCallers.{bind_some}
use Rattle.ul_version.proofs.ForCallers.{versions}
use Rattle.ul_version.proofs.ForCallers.{cond_some, inside}
use Rattle.ul_specifier.specs.Reading.{after_all, clause_with, is_blank, operator, trimmed_text}
use Rattle.ul_specifier.specs.declared.clause.Op.{Op}
use Rattle.ul_specifier.specs.declared.clause.Op.TheVariants.{Equal, Unequal, AtLeast, AtMost, More, Less, Compatible, Distinct}
use Rattle.ul_specifier.proofs.ForCallers.{clause_with-clause}
use Rattle.ul_comparison.specs.Atoms.{is_extras, is_implementation_version, is_literal, is_literal_byte, is_text, has_byte, may_compare, may_stand}
use Rattle.ul_marker.specs.Comparisons.{comparison_of, containment, equality, extra_literal, extra_sign, in_sides, is_not_in, literal_of, mirror_sign, opaquely, parts_versions, python_full, python_sign, python_within, sign_formula, signed_sides, text_sign, three, variable_within, versions_of, within}
use Rattle.ul_comparison.specs.Formulas.{AreFormulas, Formula, Formulas, IsExtraLiteral, IsFormula, extra, formulas_of, none, python, python_list}
use Rattle.ul_marker.specs.Reading.{atom_at, atom_with, before_close, chain_at, chain_with, cuts, each, inner_tokens, is_close, is_open, join, chain_formula, formula_of, onto_first, open_count, part_at, pieces_from, printed_marker_of}
use Rattle.ul_marker.specs.Readers.{Reads}
use Rattle.ul_marker.specs.Views.{marker_view}
use Rattle.ul_marker.specs.Words.{after_quote, dialect_tokens, front_literal, front_sign, front_token, front_word, is_quote, is_quoted, is_sign_byte, is_unread, is_word_byte, keywords, table_token, old_variables, run_length, tokens_in, tokens_of, variables, with_readings, word_token}
use Rattle.ul_marker.specs.declared.fault.MarkerFault.{MarkerFault}
use Rattle.ul_marker.specs.declared.marker.Marker.{Marker}
use Rattle.ul_marker.specs.declared.reading.Chain.{Chain}
use Rattle.ul_marker.specs.declared.reading.Chain.TheVariants.{Conjunction, Disjunction}
use Rattle.ul_comparison.specs.declared.variable.AtomKind.{AtomKind}
use Rattle.ul_comparison.specs.declared.variable.AtomKind.TheVariants as Kind
use Rattle.ul_comparison.specs.declared.variable.Variable.{Variable}
use Rattle.ul_marker.specs.declared.words.Dialect.{Dialect}
use Rattle.ul_marker.specs.declared.words.Dialect.TheVariants.{Printed}
use Rattle.ul_marker.specs.declared.words.Token.{Token}
use Rattle.ul_marker.specs.declared.words.Token.TheVariants.{Open, Close, And, Or, In, Not, Extra, Named, Sign, Literal}
use Rattle.ul_marker.proofs.Compared.{not_python, text_stands}
use Rattle.ul_marker.proofs.Tokens.{first-of, quoted-is_literal, run-all}

-- ---- tokens

-- a token whose literal, if it has one, is a literal
abbrev pub IsToken : Token → Type 0
IsToken (Literal bytes) = is_literal bytes ≡ true
IsToken other = Unit {0}

abbrev pub AreTokens : List Token → Type 0
AreTokens [] = Unit {0}
AreTokens (t ∷ ts) = IsToken t × AreTokens ts

abbrev AreListed : List (List ℕ × Token) → Type 0
AreListed [] = Unit {0}
AreListed (entry ∷ table) = IsToken entry.1 × AreListed table

listed-token : (table : List (List ℕ × Token)) (word : List ℕ) (t : Token) → AreListed table → table_token table word ≡ Some t → IsToken t
listed-token [] word t h e = absurd (cc e)
listed-token (entry ∷ table) word t h e = go (bytes_eq word entry.0) e (listed-token table word t h.1)
  where
    go : (b : Bool) → (if b then Some entry.1 else table_token table word) ≡ Some t → (table_token table word ≡ Some t → IsToken t) → IsToken t
    go true same next = subst (λ (x : Token). IsToken x) (inside entry.1 t same) h.0
    go false same next = next same

either-token : (x y : Option Token) (t : Token) → (x ≡ Some t → IsToken t) → (y ≡ Some t → IsToken t) → or_else x y ≡ Some t → IsToken t
either-token None y t f g e = g e
either-token (Some x) y t f g e = f e

word-token : (word : List ℕ) (t : Token) → word_token word ≡ Some t → IsToken t
unfolding word_token
word-token word t e =
    either-token (table_token keywords word) _ t
    (listed-token keywords word t (tt, (tt, (tt, (tt, (tt, tt))))))
    (either-token (table_token variables word) (table_token old_variables word) t
    (listed-token variables word t (tt, (tt, (tt, (tt, (tt, (tt, (tt, (tt, (tt, (tt, (tt, (tt, tt)))))))))))))
    (listed-token old_variables word t (tt, (tt, (tt, (tt, (tt, (tt, tt))))))))
    e

front-word-token : (input : List ℕ) (t : Token) (after : List ℕ) → front_word input ≡ Some (t, after) → IsToken t
unfolding front_word
front-word-token input t after e =
    let (w, is, some) = bind_some (word_token (take (run_length is_word_byte input) input)) _ _ e in
    word-token _ t (is ∙ ap (λ (x : Token). Some x) (first-of w t (drop (run_length is_word_byte input) input) after some))

front-sign-token : (input : List ℕ) (t : Token) (after : List ℕ) → front_sign input ≡ Some (t, after) → IsToken t
unfolding front_sign
front-sign-token input t after e =
    let (o, is, some) = bind_some (operator input) _ _ e in
    subst (λ (x : Token). IsToken x) (first-of (Sign o.0) t o.1 after some) tt

front-literal-token : (q : ℕ) (input : List ℕ) (t : Token) (after : List ℕ) → is_quote q ≡ true → front_literal q input ≡ Some (t, after) → IsToken t
unfolding front_literal
front-literal-token q input t after h e =
    let n = run_length (is_quoted q) input in
    let (left, is, some) = bind_some (after_quote q (drop n input)) _ _ e in
    subst (λ (x : Token). IsToken x) (first-of (Literal (take n input)) t left after some) (quoted-is_literal q (take n input) h (run-all (is_quoted q) input))

front-is_token : (input : List ℕ) (t : Token) (after : List ℕ) → front_token input ≡ Some (t, after) → IsToken t
unfolding front_token
front-is_token [] t after e = absurd (cc e)
front-is_token (b ∷ rest) t after e = elim (cases_Bool (b == 40)) [
  | inl open_one ↦ subst (λ (x : Token). IsToken x) (first-of Open t rest after (rw open_one at e)) tt
  | inr n1 ↦ let e1 = rw n1 at e in elim (cases_Bool (b == 41)) [
    | inl close_one ↦ subst (λ (x : Token). IsToken x) (first-of Close t rest after (rw close_one at e1)) tt
    | inr n2 ↦ let e2 = rw n2 at e1 in elim (cases_Bool (is_quote b)) [
      | inl quote ↦ front-literal-token b rest t after quote (rw quote at e2)
      | inr n3 ↦ let e3 = rw n3 at e2 in elim (cases_Bool (is_sign_byte b)) [
        | inl sign ↦ front-sign-token (b ∷ rest) t after (rw sign at e3)
        | inr n4 ↦ front-word-token (b ∷ rest) t after (rw n4 at e3)
      ]
    ]
  ]
]

turns-tokens : (n : ℕ) (input : List ℕ) (ts : List Token) → tokens_in n input ≡ Some ts → AreTokens ts
unfolding tokens_in
turns-tokens zero [] ts e = subst (λ (x : List Token). AreTokens x) (inside [] ts e) tt
turns-tokens (suc n) [] ts e = subst (λ (x : List Token). AreTokens x) (inside [] ts e) tt
turns-tokens zero (b ∷ rest) ts e = absurd (cc e)
turns-tokens (suc n) (b ∷ rest) ts e =
    let (t, is, next) = bind_some (front_token (b ∷ rest)) _ _ e in
    let (us, are, some) = bind_some (tokens_in n (after_all is_blank t.1)) _ _ next in
    subst (λ (x : List Token). AreTokens x) (inside (t.0 ∷ us) ts some) (front-is_token (b ∷ rest) t.0 t.1 is, turns-tokens n (after_all is_blank t.1) us are)

pub tokens-tokens : (input : List ℕ) (ts : List Token) → tokens_of input ≡ Some ts → AreTokens ts
unfolding tokens_of
tokens-tokens input ts e = turns-tokens (length input) input ts e

-- ---- comparisons

normal-literal : (b : ℕ) → is_normal_byte b ≡ true → is_literal_byte b ≡ true
normal-literal b h = grind (arith, nat_tests)

normal-quote : (b : ℕ) → is_normal_byte b ≡ true → (b == 39) ≡ false
normal-quote b h = grind (arith, nat_tests)

plain-literal : (name : List ℕ) → list_all is_normal_byte name ≡ true → list_all is_literal_byte name ≡ true
plain-literal [] h = refl
plain-literal (b ∷ name) h =
    let p = and_parts (is_normal_byte b) (list_all is_normal_byte name) h in
    and_from (is_literal_byte b) (list_all is_literal_byte name) (normal-literal b p.0) (plain-literal name p.1)

plain-quote : (name : List ℕ) → list_all is_normal_byte name ≡ true → has_byte 39 name ≡ false
plain-quote [] h = refl
plain-quote (b ∷ name) h =
    let p = and_parts (is_normal_byte b) (list_all is_normal_byte name) h in
    rw (normal-quote b p.0) (plain-quote name p.1)

name-literal : (name : List ℕ) → name_of name ≡ Some name → is_literal name ≡ true
name-literal name e =
    let plain = name_is_plain name e in
    let quote : not (has_byte 39 name && has_byte 34 name) ≡ true = rw (plain-quote name plain.1) refl in
    and_from (list_all is_literal_byte name) _ (plain-literal name plain.1) quote

extra-is_literal : (literal : List ℕ) → is_literal literal ≡ true → IsExtraLiteral (extra_literal literal)
unfolding extra_literal
extra-is_literal literal h = go (name_of literal) refl
  where
    go : (read : Option (List ℕ)) → name_of literal ≡ read → IsExtraLiteral (extra_literal literal)
    go None e = rw e (h, λ name is. absurd (cc (sym e ∙ is)))
    go (Some n) e =
        let itself = name_reads_itself literal n e in
        rw e (name-literal n itself, λ name is. inside name n (sym is ∙ itself))

one-formula : (f g : Formula) → Some f ≡ Some g → IsFormula f → IsFormula g
one-formula f g e h = subst (λ (x : Formula). IsFormula x) (inside f g e) h

extra-formula : (op : Op) (literal : List ℕ) (f : Formula) → is_literal literal ≡ true → extra_sign op literal ≡ Some f → IsFormula f
extra-formula Equal literal f h e = one-formula (extra (extra_literal literal) true) f e (extra-is_literal literal h)
extra-formula Unequal literal f h e = one-formula (extra (extra_literal literal) false) f e (extra-is_literal literal h)
extra-formula AtLeast literal f h e = absurd (cc e)
extra-formula AtMost literal f h e = absurd (cc e)
extra-formula More literal f h e = absurd (cc e)
extra-formula Less literal f h e = absurd (cc e)
extra-formula Compatible literal f h e = absurd (cc e)
extra-formula Distinct literal f h e = absurd (cc e)

opaque-formula : (variable : Variable) (kind : AtomKind) (literal : List ℕ) (positive : Bool) (f : Formula) → is_literal literal ≡ true → may_compare kind variable ≡ true → may_stand variable literal ≡ true
    → Some (opaquely variable kind literal positive) ≡ Some f → IsFormula f
opaque-formula variable kind literal positive f h may stands e =
    one-formula (opaquely variable kind literal positive) f e (record { literal = h; kind = may; stands = stands })

second-true : (x y : Bool) → (x || y) ≡ true → x ≡ false → y ≡ true
second-true true y h e = absurd (true≢false e)
second-true false y h e = h

equality-formula : (variable : Variable) (literal : List ℕ) (equal : Bool) → is_literal literal ≡ true → (is_text variable || is_implementation_version variable) ≡ true
    → IsFormula (equality variable literal equal)
equality-formula variable literal equal h may = elim (cases_Bool (is_text variable)) [
  | inl yes_text ↦ rw yes_text (yes_text, h)
  | inr no_text ↦ rw no_text (record { literal = h; kind = second-true (is_text variable) (is_implementation_version variable) may no_text; stands = text_stands variable literal may })
]

text-formula : (variable : Variable) (op : Op) (literal : List ℕ) (f : Formula) → is_literal literal ≡ true
    → (is_text variable || is_implementation_version variable) ≡ true → text_sign variable op literal ≡ Some f → IsFormula f
text-formula variable Equal literal f h may e = one-formula (equality variable literal true) f e (equality-formula variable literal true h may)
text-formula variable Unequal literal f h may e = one-formula (equality variable literal false) f e (equality-formula variable literal false h may)
text-formula variable Less literal f h may e = opaque-formula variable Kind.Below literal true f h may (text_stands variable literal may) e
text-formula variable AtLeast literal f h may e = opaque-formula variable Kind.Below literal false f h may (text_stands variable literal may) e
text-formula variable AtMost literal f h may e = opaque-formula variable Kind.AtMost literal true f h may (text_stands variable literal may) e
text-formula variable More literal f h may e = opaque-formula variable Kind.AtMost literal false f h may (text_stands variable literal may) e
text-formula variable Compatible literal f h may e = absurd (cc e)
text-formula variable Distinct literal f h may e = absurd (cc e)

python-formula : (variable : Variable) (op : Op) (literal : List ℕ) (full : Option Bool) (f : Formula) → is_literal literal ≡ true → is_extras variable ≡ false → python_full variable ≡ full
    → python_sign variable op literal full ≡ Some f → IsFormula f
python-formula variable op literal None f h no_extras is e = text-formula variable op literal f h (not_python variable is no_extras) e
python-formula variable op literal (Some full) f h no_extras is e =
    let (clause, read, some) = bind_some (clause_with op literal) _ _ e in
    one-formula (python full clause) f some (clause_with-clause op literal clause read)

-- what is there only beside another variable than `extras`
pub none_else : (b : Bool) (found : Option Formula) (f : Formula) → (if b then None else found) ≡ Some f → (b ≡ false) × (found ≡ Some f)
none_else true found f e = absurd (cc e)
none_else false found f e = (refl, e)

signed-formula : (subject : Token) (op : Op) (literal : List ℕ) (f : Formula) → is_literal literal ≡ true → sign_formula subject op literal ≡ Some f → IsFormula f
unfolding sign_formula
signed-formula Extra op literal f h e = extra-formula op literal f h e
signed-formula (Named variable) op literal f h e =
    let own = none_else (is_extras variable) (python_sign variable op literal (python_full variable)) f e in
    python-formula variable op literal (python_full variable) f h own.0 refl own.1
signed-formula Open op literal f h e = absurd (cc e)
signed-formula Close op literal f h e = absurd (cc e)
signed-formula And op literal f h e = absurd (cc e)
signed-formula Or op literal f h e = absurd (cc e)
signed-formula In op literal f h e = absurd (cc e)
signed-formula Not op literal f h e = absurd (cc e)
signed-formula (Sign sign) op literal f h e = absurd (cc e)
signed-formula (Literal other) op literal f h e = absurd (cc e)

are-versions : (pieces : List (List ℕ)) (vs : List Fields) → versions_of pieces ≡ Some vs → All IsVersion vs
unfolding versions_of
are-versions [] vs e = subst (λ (x : List Fields). All IsVersion x) (inside [] vs e) (All-nil IsVersion)
are-versions ([] ∷ pieces) vs e = are-versions pieces vs e
are-versions ((b ∷ piece) ∷ pieces) vs e =
    let (v, is, next) = bind_some (version_of (b ∷ piece)) _ _ e in
    let (us, are, some) = bind_some (versions_of pieces) _ _ next in
    subst (λ (x : List Fields). All IsVersion x) (inside (v ∷ us) vs some) (All-cons IsVersion v us (versions (b ∷ piece) v is) (are-versions pieces us are))

within-python : (variable : Variable) (literal : List ℕ) (positive : Bool) (full : Option Bool) (f : Formula) → is_literal literal ≡ true → is_extras variable ≡ false → python_full variable ≡ full
    → python_within variable literal positive full ≡ Some f → IsFormula f
within-python variable literal positive None f h no_extras is e = opaque-formula variable Kind.Within literal positive f h (not_python variable is no_extras) (text_stands variable literal (not_python variable is no_extras)) e
within-python variable literal positive (Some full) f h no_extras is e =
    let (vs, read, some) = bind_some (versions_of (slice_split parts_versions literal)) _ _ e in
    one-formula (python_list full vs positive) f some (are-versions _ vs read)

within-formula : (positive : Bool) (subject : Token) (literal : List ℕ) (f : Formula) → is_literal literal ≡ true → within positive subject literal ≡ Some f → IsFormula f
unfolding within
within-formula positive (Named variable) literal f h e =
    let own = none_else (is_extras variable) (variable_within variable literal positive) f e in
    within-python variable literal positive (python_full variable) f h own.0 refl own.1
within-formula positive Extra literal f h e = absurd (cc e)
within-formula positive Open literal f h e = absurd (cc e)
within-formula positive Close literal f h e = absurd (cc e)
within-formula positive And literal f h e = absurd (cc e)
within-formula positive Or literal f h e = absurd (cc e)
within-formula positive In literal f h e = absurd (cc e)
within-formula positive Not literal f h e = absurd (cc e)
within-formula positive (Sign sign) literal f h e = absurd (cc e)
within-formula positive (Literal other) literal f h e = absurd (cc e)

contained-formula : (positive : Bool) (subject : Token) (literal : List ℕ) (f : Formula) → is_literal literal ≡ true → containment positive subject literal ≡ Some f → IsFormula f
unfolding containment
contained-formula positive (Named variable) literal f h e =
    let own = cond_some (may_stand variable literal) (Some (opaquely variable Kind.Contains literal positive)) f e in
    opaque-formula variable Kind.Contains literal positive f h refl own.0 own.1
contained-formula positive Extra literal f h e = absurd (cc e)
contained-formula positive Open literal f h e = absurd (cc e)
contained-formula positive Close literal f h e = absurd (cc e)
contained-formula positive And literal f h e = absurd (cc e)
contained-formula positive Or literal f h e = absurd (cc e)
contained-formula positive In literal f h e = absurd (cc e)
contained-formula positive Not literal f h e = absurd (cc e)
contained-formula positive (Sign sign) literal f h e = absurd (cc e)
contained-formula positive (Literal other) literal f h e = absurd (cc e)

-- ---- sides

literal-token : (t : Token) (literal : List ℕ) → IsToken t → literal_of t ≡ Some literal → is_literal literal ≡ true
literal-token (Literal bytes) literal h e = subst (λ (x : List ℕ). is_literal x ≡ true) (inside bytes literal e) h
literal-token Open literal h e = absurd (cc e)
literal-token Close literal h e = absurd (cc e)
literal-token And literal h e = absurd (cc e)
literal-token Or literal h e = absurd (cc e)
literal-token In literal h e = absurd (cc e)
literal-token Not literal h e = absurd (cc e)
literal-token Extra literal h e = absurd (cc e)
literal-token (Named v) literal h e = absurd (cc e)
literal-token (Sign op) literal h e = absurd (cc e)

signed_sides-formula : (left : Token) (op : Op) (right : Token) (own : Option (List ℕ)) (f : Formula) → IsToken left → IsToken right → literal_of left ≡ own
    → signed_sides left op right own ≡ Some f → IsFormula f
signed_sides-formula left op right None f h k is e =
    let (literal, other, some) = bind_some (literal_of right) _ _ e in
    signed-formula left op literal f (literal-token right literal k other) some
signed_sides-formula left op right (Some literal) f h k is e =
    let (sign, mirror, some) = bind_some (mirror_sign op) _ _ e in
    signed-formula right sign literal f (literal-token left literal h is) some

in_sides-formula : (positive : Bool) (left right : Token) (own : Option (List ℕ)) (f : Formula) → IsToken left → IsToken right → literal_of left ≡ own
    → in_sides positive left right own ≡ Some f → IsFormula f
in_sides-formula positive left right None f h k is e =
    let (literal, other, some) = bind_some (literal_of right) _ _ e in
    within-formula positive left literal f (literal-token right literal k other) some
in_sides-formula positive left right (Some literal) f h k is e = contained-formula positive right literal f (literal-token left literal h is) e

three-formula : (left middle right : Token) (f : Formula) → IsToken left → IsToken right → three left middle right ≡ Some f → IsFormula f
three-formula left (Sign op) right f h k e = signed_sides-formula left op right (literal_of left) f h k refl e
three-formula left In right f h k e = in_sides-formula true left right (literal_of left) f h k refl e
three-formula left Open right f h k e = absurd (cc e)
three-formula left Close right f h k e = absurd (cc e)
three-formula left And right f h k e = absurd (cc e)
three-formula left Or right f h k e = absurd (cc e)
three-formula left Not right f h k e = absurd (cc e)
three-formula left Extra right f h k e = absurd (cc e)
three-formula left (Named v) right f h k e = absurd (cc e)
three-formula left (Literal bytes) right f h k e = absurd (cc e)

comparison-formula : (ts : List Token) (f : Formula) → AreTokens ts → comparison_of ts ≡ Some f → IsFormula f
unfolding comparison_of
comparison-formula [] f h e = absurd (cc e)
comparison-formula (a ∷ []) f h e = absurd (cc e)
comparison-formula (a ∷ b ∷ []) f h e = absurd (cc e)
comparison-formula (a ∷ b ∷ d ∷ []) f h e = three-formula a b d f h.0 h.1.1.0 e
comparison-formula (a ∷ b ∷ d ∷ g ∷ []) f h e =
    in_sides-formula false a g (literal_of a) f h.0 h.1.1.1.0 refl (cond_some (is_not_in b d) (in_sides false a g (literal_of a)) f e).1
comparison-formula (a ∷ b ∷ d ∷ g ∷ i ∷ ts) f h e = absurd (cc e)

-- ---- pieces and parentheses

abbrev ArePieces : List (List Token) → Type 0
ArePieces [] = Unit {0}
ArePieces (piece ∷ pieces) = AreTokens piece × ArePieces pieces

onto-pieces : (t : Token) (pieces : List (List Token)) → IsToken t → ArePieces pieces → ArePieces (onto_first t pieces)
onto-pieces t [] h are = ((h, tt), tt)
onto-pieces t (piece ∷ pieces) h are = ((h, are.0), are.1)

pieces-tokens : (chain : Chain) (n : ℕ) (ts : List Token) → AreTokens ts → ArePieces (pieces_from chain n ts)
unfolding pieces_from
pieces-tokens chain n [] h = (tt, tt)
pieces-tokens chain n (t ∷ ts) h = elim (cases_Bool (cuts chain n t)) [
  | inl cut ↦ rw cut (tt, pieces-tokens chain 0 ts h.1)
  | inr keep ↦ rw keep (onto-pieces t (pieces_from chain (open_count t n) ts) h.0 (pieces-tokens chain (open_count t n) ts h.1))
]

close-tokens : (ts inner : List Token) → AreTokens ts → before_close ts ≡ Some inner → AreTokens inner
unfolding before_close
close-tokens [] inner h e = absurd (cc e)
close-tokens (t ∷ []) inner h e = subst (λ (x : List Token). AreTokens x) (inside [] inner (cond_some (is_close t) (Some []) inner e).1) tt
close-tokens (t ∷ u ∷ ts) inner h e =
    let (rest, is, some) = bind_some (before_close (u ∷ ts)) _ _ e in
    subst (λ (x : List Token). AreTokens x) (inside (t ∷ rest) inner some) (h.0, close-tokens (u ∷ ts) rest h.1 is)

enclosed-tokens : (ts inner : List Token) → AreTokens ts → inner_tokens ts ≡ Some inner → AreTokens inner
unfolding inner_tokens
enclosed-tokens [] inner h e = absurd (cc e)
enclosed-tokens (t ∷ ts) inner h e = close-tokens ts inner h.1 (cond_some (is_open t) (before_close ts) inner e).1

-- ---- markers

-- a reader of tokens that gives formulas alone
abbrev GivesFormulas : (List Token → Option Formula) → Type 0
GivesFormulas read = (ts : List Token) (f : Formula) → AreTokens ts → read ts ≡ Some f → IsFormula f

each-formulas : (read : List Token → Option Formula) (pieces : List (List Token)) (fs : List Formula) → GivesFormulas read → ArePieces pieces → each read pieces ≡ Some fs
    → AreFormulas (formulas_of fs)
unfolding each
each-formulas read [] fs gives are e = subst (λ (x : List Formula). AreFormulas (formulas_of x)) (inside [] fs e) tt
each-formulas read (piece ∷ pieces) fs gives are e =
    let (f, is, next) = bind_some (read piece) _ _ e in
    let (gs, rest, some) = bind_some (each read pieces) _ _ next in
    subst (λ (x : List Formula). AreFormulas (formulas_of x)) (inside (f ∷ gs) fs some) (gives piece f are.0 is, each-formulas read pieces gs gives are.1 rest)

join-formula : (chain : Chain) (fs : Formulas) → AreFormulas fs → IsFormula (join chain fs)
join-formula Conjunction fs h = h
join-formula Disjunction fs h = h

joined-formula : (chain : Chain) (fs : List Formula) → AreFormulas (formulas_of fs) → IsFormula (chain_formula chain fs)
joined-formula chain [] h = join-formula chain none tt
joined-formula chain (f ∷ []) h = h.0
joined-formula chain (f ∷ g ∷ fs) h = join-formula chain (formulas_of (f ∷ g ∷ fs)) h

chain-formula : (chain : Chain) (read : List Token → Option Formula) → GivesFormulas read → GivesFormulas (chain_with chain read)
unfolding chain_with
chain-formula chain read gives ts f h e =
    let (fs, are, some) = bind_some (each read (pieces_from chain 0 ts)) _ _ e in
    one-formula (chain_formula chain fs) f some (joined-formula chain fs (each-formulas read _ fs gives (pieces-tokens chain 0 ts h) are))

inner-formula : (read : List Token → Option Formula) → GivesFormulas read → GivesFormulas (atom_with read)
inner-formula read gives ts f h e = go (inner_tokens ts) refl e
  where
    go : (inner : Option (List Token)) → inner_tokens ts ≡ inner → option_map_or read inner (comparison_of ts) ≡ Some f → IsFormula f
    go None is some = comparison-formula ts f h some
    go (Some inner) is some = gives inner f (enclosed-tokens ts inner h is) some

atom-formula : (depth : ℕ) → GivesFormulas (atom_at depth)
unfolding atom_at
atom-formula zero ts f h e = inner-formula (λ inner. None) (λ inner g are none. absurd (cc none)) ts f h e
atom-formula (suc depth) ts f h e =
    inner-formula (chain_with Disjunction (chain_with Conjunction (atom_at depth)))
    (chain-formula Disjunction (chain_with Conjunction (atom_at depth)) (chain-formula Conjunction (atom_at depth) (atom-formula depth))) ts f h e

part-formula : (chain : Chain) (depth : ℕ) → GivesFormulas (part_at chain depth)
unfolding part_at
part-formula Conjunction depth ts f h e = atom-formula depth ts f h e
part-formula Disjunction depth ts f h e = chain-formula Conjunction (atom_at depth) (atom-formula depth) ts f h e

pub tokens-formula : (chain : Chain) (depth : ℕ) (ts : List Token) (f : Formula) → AreTokens ts → chain_at chain depth ts ≡ Some f → IsFormula f
unfolding chain_at
tokens-formula chain depth ts f h e = chain-formula chain (part_at chain depth) (part-formula chain depth) ts f h e

-- tokens that have readings are those of the text
pub read-tokens : (dialect : Dialect) (tokens : Option (List Token)) (ts : List Token) → with_readings dialect tokens ≡ Some ts → tokens ≡ Some ts
read-tokens dialect None ts e = e
read-tokens dialect (Some found) ts e = go (list_any (is_unread dialect) found) e
  where
    go : (b : Bool) → (if b then None else Some found) ≡ Some ts → Some found ≡ Some ts
    go true e = absurd (cc e)
    go false e = e

-- what is read is a formula
pub marker-formula : (dialect : Dialect) (input : List ℕ) (f : Formula) → formula_of dialect input ≡ Some f → IsFormula f
marker-formula dialect input f e =
    let (ts, are, some) = bind_some (dialect_tokens dialect (trimmed_text is_white input)) _ _ e in
    tokens-formula Disjunction 64 ts f (tokens-tokens _ ts (read-tokens dialect (tokens_of (trimmed_text is_white input)) ts are)) some

-- the formula that a printed text spells is a marker's
pub printed-formula : (input : List ℕ) (f : Formula) → printed_marker_of input ≡ Some f → IsFormula f
unfolding printed_marker_of
printed-formula input f e = marker-formula Printed input f e

-- a marker that a reader answers is one whose formula is a formula
pub answer-formula : (result : Result Marker MarkerFault) (chain : Chain) (depth : ℕ) (ts : List Token) → AreTokens ts → Reads marker_view result (chain_at chain depth ts)
    → IfOk result (λ m. IsFormula (marker_view m))
answer-formula (Ok m) chain depth ts h e = tokens-formula chain depth ts (marker_view m) h e
answer-formula (Err fault) chain depth ts h e = tt
