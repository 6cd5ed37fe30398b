-- The tokens of printed comparisons.
use Rattle.std.proofs.Common.{◌≡◌, ◌∙◌, inl, inr, ℕ, Bool, true, false, true≢false, List, [], ◌∷◌, ◌++◌, drop, length, Some, refl, sym, ap, arith}
use Rattle.std.specs.Prelude.{◌&&◌, ◌||◌, ◌==◌, not, codes}
use Rattle.std.specs.List.{list_all}
use Rattle.std.proofs.Math.Seq.{take-append_seam}
use Rattle.std.proofs.lemmas.Bool.{and_from, and_parts, cases_Bool, eq-eqb}
use Rattle.std.proofs.lemmas.List.{append_assoc}
use Rattle.std.proofs.lemmas.List.Prefix.{front_rest}
use Rattle.ul_version.specs.Reading.{begins, is_white}
use Rattle.ul_specifier.specs.Clauses.{is_exclusion}
use Rattle.ul_specifier.specs.Grammar.{operator_text}
use Rattle.ul_specifier.specs.Reading.{after_all, is_blank}
use Rattle.ul_specifier.specs.declared.clause.Op.{Op}
use Rattle.ul_specifier.specs.declared.clause.Op.TheVariants.{Equal, Unequal, AtLeast, AtMost, More, Less, Compatible, Distinct}
use Rattle.ul_specifier.proofs.ForCallers.{is_equals, operator-read}
use Rattle.ul_comparison.specs.Atoms.{has_byte, is_literal, is_literal_byte}
use Rattle.ul_comparison.specs.Printed.{quote_of, quoted_text, variable_name}
use Rattle.ul_marker.specs.Words.{front_literal, front_sign, front_token, front_word, is_quote, is_quoted, is_sign_byte, is_word_byte, run_length, tokens_in, tokens_of, word_token}
use Rattle.ul_comparison.specs.declared.variable.Variable.{Variable}
use Rattle.ul_comparison.specs.declared.variable.Variable.TheVariants.{OsName, SysPlatform, PlatformMachine, PlatformPythonImplementation, PlatformRelease, PlatformSystem, PlatformVersion, PythonVersion, PythonFullVersion, ImplementationName, ImplementationVersion, Extras}
use Rattle.ul_marker.specs.declared.words.Token.{Token}
use Rattle.ul_marker.specs.declared.words.Token.TheVariants.{And, Or, In, Not, Extra, Named, Sign, Literal}
use Rattle.ul_marker.proofs.Tokens.{onto, tokens-next}

-- ---- what stands in front of a text

-- a run that ends where another byte stands
run-front : (test : ℕ → Bool) (word rest : List ℕ) → list_all test word ≡ true → begins test rest ≡ false → run_length test (word ++ rest) ≡ length word
run-front test [] [] h e = refl
run-front test [] (b ∷ rest) h e = rw e refl
run-front test (w ∷ word) rest h e =
    let both = and_parts (test w) (list_all test word) h in rw (both.0, run-front test word rest both.1 e) (omega arith)

drop-front : (word rest : List ℕ) → drop (length word) (word ++ rest) ≡ rest
drop-front word rest = front_rest (word ++ rest) word rest refl

-- a byte of a word begins no other token
word-begins : (b : ℕ) → is_word_byte b ≡ true → (((b == 40) ≡ false) × ((b == 41) ≡ false)) × ((is_quote b ≡ false) × (is_sign_byte b ≡ false))
word-begins b h = parts (is_white b) (b == 40) (b == 41) (is_quote b) (is_sign_byte b) h
  where
    parts : (w o c q s : Bool) → not (w || (o || (c || (q || s)))) ≡ true → ((o ≡ false) × (c ≡ false)) × ((q ≡ false) × (s ≡ false))
    parts true o c q s h = absurd (true≢false (sym h))
    parts false true c q s h = absurd (true≢false (sym h))
    parts false false true q s h = absurd (true≢false (sym h))
    parts false false false true s h = absurd (true≢false (sym h))
    parts false false false false true h = absurd (true≢false (sym h))
    parts false false false false false h = ((refl, refl), (refl, refl))

word-found : (word rest : List ℕ) (t : Token) → list_all is_word_byte word ≡ true → begins is_word_byte rest ≡ false → word_token word ≡ Some t
    → front_word (word ++ rest) ≡ Some (t, rest)
unfolding front_word
word-found word rest t h e is =
    let n : run_length is_word_byte (word ++ rest) ≡ length word = run-front is_word_byte word rest h e in
    rw (n, take-append_seam word rest, drop-front word rest, is) refl

-- a word in front
pub word-front : (b : ℕ) (word rest : List ℕ) (t : Token) → list_all is_word_byte (b ∷ word) ≡ true → begins is_word_byte rest ≡ false → word_token (b ∷ word) ≡ Some t
    → front_token ((b ∷ word) ++ rest) ≡ Some (t, rest)
unfolding front_token
word-front b word rest t h e is =
    let first = word-begins b (and_parts (is_word_byte b) (list_all is_word_byte word) h).0 in
    rw (first.0.0, first.0.1, first.1.0, first.1.1) (word-found (b ∷ word) rest t h e is)

quote-ends : (q : ℕ) → is_quoted q q ≡ false
quote-ends q = rw (eq-eqb q q refl) (never (is_literal_byte q))
  where
    never : (b : Bool) → (b && false) ≡ false
    never true = refl
    never false = refl

-- a literal in front, after its first quote
pub literal-front : (q : ℕ) (literal rest : List ℕ) → is_quote q ≡ true → ((q == 40) ≡ false) → ((q == 41) ≡ false) → list_all (is_quoted q) literal ≡ true
    → front_token (q ∷ (literal ++ (q ∷ rest))) ≡ Some (Literal literal, rest)
unfolding front_token front_literal
literal-front q literal rest is open_one close_one h =
    let n : run_length (is_quoted q) (literal ++ (q ∷ rest)) ≡ length literal = run-front (is_quoted q) literal (q ∷ rest) h (quote-ends q) in
    rw (open_one, close_one, is, n, drop-front literal (q ∷ rest), take-append_seam literal (q ∷ rest), eq-eqb q q refl) refl

-- a sign in front
pub sign-front : (op : Op) (rest : List ℕ) → is_exclusion op ≡ false → begins is_equals rest ≡ false → front_token (operator_text op ++ rest) ≡ Some (Sign op, rest)
unfolding front_token front_sign
sign-front Equal rest s e = rw (operator-read Equal rest s e) refl
sign-front Unequal rest s e = rw (operator-read Unequal rest s e) refl
sign-front AtLeast rest s e = rw (operator-read AtLeast rest s e) refl
sign-front AtMost rest s e = rw (operator-read AtMost rest s e) refl
sign-front More rest s e = rw (operator-read More rest s e) refl
sign-front Less rest s e = rw (operator-read Less rest s e) refl
sign-front Compatible rest s e = rw (operator-read Compatible rest s e) refl
sign-front Distinct rest s e = absurd (true≢false s)

-- ---- whole texts

-- a text has these tokens
abbrev pub Lexes : List ℕ → List Token → Type 0
Lexes text ts = tokens_of text ≡ Some ts

-- a token in front, one space, and a text
pub lexes-next : (text : List ℕ) (t : Token) (rest : List ℕ) (ts : List Token) → front_token text ≡ Some (t, 32 ∷ rest) → begins is_blank rest ≡ false → Lexes rest ts → Lexes text (t ∷ ts)
lexes-next text t rest ts front e more = tokens-next text t (32 ∷ rest) front ∙ ap (λ r. onto (t ∷ []) (tokens_of r)) (kept rest e) ∙ rw more refl
  where
    kept : (rest : List ℕ) → begins is_blank rest ≡ false → after_all is_blank (32 ∷ rest) ≡ rest
    kept [] e = refl
    kept (b ∷ rest) e = rw e refl

-- a token that ends a text
pub lexes-last : (text : List ℕ) (t : Token) → front_token text ≡ Some (t, []) → Lexes text (t ∷ [])
unfolding tokens_of tokens_in
lexes-last text t front = tokens-next text t [] front

-- a token in front of a text that goes on, or ends
pub lexes-then : (text : List ℕ) (t : Token) (rest : List ℕ) (ts : List Token) → front_token text ≡ Some (t, rest) → Lexes (after_all is_blank rest) ts → Lexes text (t ∷ ts)
lexes-then text t rest ts front more = tokens-next text t rest front ∙ rw more refl

-- ---- literals in their quotes

no-byte : (q : ℕ) (literal : List ℕ) → has_byte q literal ≡ false → list_all is_literal_byte literal ≡ true → list_all (is_quoted q) literal ≡ true
no-byte q [] e h = refl
no-byte q (b ∷ literal) e h =
    let both = and_parts (is_literal_byte b) (list_all is_literal_byte literal) h in
    let apart = neither (b == q) (has_byte q literal) e in
    and_from (is_quoted q b) (list_all (is_quoted q) literal) (rw (both.0, apart.0) refl) (no-byte q literal apart.1 both.1)
  where
    neither : (x y : Bool) → (x || y) ≡ false → (x ≡ false) × (y ≡ false)
    neither true y e = absurd (true≢false e)
    neither false y e = (refl, e)

-- the quote of a literal: one of two, and none of the literal's bytes
pub record IsQuote (q : ℕ) (literal : List ℕ) : Type 0 where
  pub quote : is_quote q ≡ true
  pub opens : (q == 40) ≡ false
  pub closes : (q == 41) ≡ false
  pub blank : is_blank q ≡ false
  pub white : is_white q ≡ false
  pub quoted : list_all (is_quoted q) literal ≡ true

second-fails : (x y : Bool) → not (x && y) ≡ true → x ≡ true → y ≡ false
second-fails true true h e = absurd (true≢false (sym h))
second-fails true false h e = refl
second-fails false y h e = absurd (true≢false (sym e))

pub quote-is : (literal : List ℕ) → is_literal literal ≡ true → IsQuote (quote_of literal) literal
quote-is literal h =
    let both = and_parts (list_all is_literal_byte literal) (not (has_byte 39 literal && has_byte 34 literal)) h in
    elim (cases_Bool (has_byte 39 literal)) [
      | inl holds ↦
          let none : has_byte 34 literal ≡ false = second-fails (has_byte 39 literal) (has_byte 34 literal) both.1 holds in
          rw holds (record { quote = refl; opens = refl; closes = refl; blank = refl; white = refl; quoted = no-byte 34 literal none both.0 })
      | inr fails ↦ rw fails (record { quote = refl; opens = refl; closes = refl; blank = refl; white = refl; quoted = no-byte 39 literal fails both.0 })
    ]

-- a literal in its quotes in front
pub quoted-front : (literal rest : List ℕ) → is_literal literal ≡ true → front_token (quoted_text literal ++ rest) ≡ Some (Literal literal, rest)
quoted-front literal rest h =
    let is = quote-is literal h in
    let q = quote_of literal in
    ap (λ t. front_token (q ∷ t)) (append_assoc literal (q ∷ []) rest) ∙ literal-front q literal rest is.quote is.opens is.closes is.quoted

quoted-begins : (literal rest : List ℕ) → is_literal literal ≡ true → begins is_blank (quoted_text literal ++ rest) ≡ false
quoted-begins literal rest h = (quote-is literal h).blank

-- ---- words

-- the name of a variable in front
pub name-front : (v : Variable) (rest : List ℕ) → begins is_word_byte rest ≡ false → front_token (variable_name v ++ rest) ≡ Some (Named v, rest)
unfolding word_token
name-front OsName rest e = word-front 111 (codes "s_name") rest (Named OsName) refl e refl
name-front SysPlatform rest e = word-front 115 (codes "ys_platform") rest (Named SysPlatform) refl e refl
name-front PlatformMachine rest e = word-front 112 (codes "latform_machine") rest (Named PlatformMachine) refl e refl
name-front PlatformPythonImplementation rest e = word-front 112 (codes "latform_python_implementation") rest (Named PlatformPythonImplementation) refl e refl
name-front PlatformRelease rest e = word-front 112 (codes "latform_release") rest (Named PlatformRelease) refl e refl
name-front PlatformSystem rest e = word-front 112 (codes "latform_system") rest (Named PlatformSystem) refl e refl
name-front PlatformVersion rest e = word-front 112 (codes "latform_version") rest (Named PlatformVersion) refl e refl
name-front PythonVersion rest e = word-front 112 (codes "ython_version") rest (Named PythonVersion) refl e refl
name-front PythonFullVersion rest e = word-front 112 (codes "ython_full_version") rest (Named PythonFullVersion) refl e refl
name-front ImplementationName rest e = word-front 105 (codes "mplementation_name") rest (Named ImplementationName) refl e refl
name-front ImplementationVersion rest e = word-front 105 (codes "mplementation_version") rest (Named ImplementationVersion) refl e refl
name-front Extras rest e = word-front 101 (codes "xtras") rest (Named Extras) refl e refl

name-begins : (v : Variable) (rest : List ℕ) → begins is_blank (variable_name v ++ rest) ≡ false
name-begins OsName rest = refl
name-begins SysPlatform rest = refl
name-begins PlatformMachine rest = refl
name-begins PlatformPythonImplementation rest = refl
name-begins PlatformRelease rest = refl
name-begins PlatformSystem rest = refl
name-begins PlatformVersion rest = refl
name-begins PythonVersion rest = refl
name-begins PythonFullVersion rest = refl
name-begins ImplementationName rest = refl
name-begins ImplementationVersion rest = refl
name-begins Extras rest = refl

-- `extra` in front
pub extra-front : (rest : List ℕ) → begins is_word_byte rest ≡ false → front_token (codes "extra" ++ rest) ≡ Some (Extra, rest)
unfolding word_token
extra-front rest e = word-front 101 (codes "xtra") rest Extra refl e refl

in-front : (rest : List ℕ) → front_token (codes "in" ++ (32 ∷ rest)) ≡ Some (In, 32 ∷ rest)
unfolding word_token
in-front rest = word-front 105 (codes "n") (32 ∷ rest) In refl refl refl

not-front : (rest : List ℕ) → front_token (codes "not" ++ (32 ∷ rest)) ≡ Some (Not, 32 ∷ rest)
unfolding word_token
not-front rest = word-front 110 (codes "ot") (32 ∷ rest) Not refl refl refl

-- `and` in front
pub and-front : (rest : List ℕ) → front_token (codes "and" ++ (32 ∷ rest)) ≡ Some (And, 32 ∷ rest)
unfolding word_token
and-front rest = word-front 97 (codes "nd") (32 ∷ rest) And refl refl refl

-- `or` in front
pub or-front : (rest : List ℕ) → front_token (codes "or" ++ (32 ∷ rest)) ≡ Some (Or, 32 ∷ rest)
unfolding word_token
or-front rest = word-front 111 (codes "r") (32 ∷ rest) Or refl refl refl

operator-begins : (op : Op) (rest : List ℕ) → is_exclusion op ≡ false → begins is_blank (operator_text op ++ rest) ≡ false
operator-begins Equal rest s = refl
operator-begins Unequal rest s = refl
operator-begins AtLeast rest s = refl
operator-begins AtMost rest s = refl
operator-begins More rest s = refl
operator-begins Less rest s = refl
operator-begins Compatible rest s = refl
operator-begins Distinct rest s = absurd (true≢false s)

-- ---- comparisons

-- a subject in front of any text that begins no word byte
abbrev pub IsSubject : List ℕ → Token → Type 0
IsSubject name t = (rest : List ℕ) → begins is_word_byte rest ≡ false → front_token (name ++ rest) ≡ Some (t, rest)

-- a subject, a sign and a literal
pub signed-lexes : (name : List ℕ) (t : Token) (op : Op) (literal rest : List ℕ) (ts : List Token) → is_exclusion op ≡ false → IsSubject name t → is_literal literal ≡ true
    → Lexes (after_all is_blank rest) ts → Lexes (name ++ (32 ∷ (operator_text op ++ (32 ∷ (quoted_text literal ++ rest))))) (t ∷ Sign op ∷ Literal literal ∷ ts)
signed-lexes name t op literal rest ts spelled subject h more =
    let last = lexes-then (quoted_text literal ++ rest) (Literal literal) rest ts (quoted-front literal rest h) more in
    let middle = lexes-next (operator_text op ++ (32 ∷ (quoted_text literal ++ rest))) (Sign op) (quoted_text literal ++ rest) (Literal literal ∷ ts)
    (sign-front op (32 ∷ (quoted_text literal ++ rest)) spelled refl) (quoted-begins literal rest h) last in
    lexes-next (name ++ (32 ∷ (operator_text op ++ (32 ∷ (quoted_text literal ++ rest))))) t (operator_text op ++ (32 ∷ (quoted_text literal ++ rest))) (Sign op ∷ Literal literal ∷ ts)
    (subject (32 ∷ (operator_text op ++ (32 ∷ (quoted_text literal ++ rest)))) refl) (operator-begins op (32 ∷ (quoted_text literal ++ rest)) spelled) middle

-- `in`, or `not in`
abbrev pub in_tokens : Bool → List Token
in_tokens true = In ∷ []
in_tokens false = Not ∷ In ∷ []

abbrev pub in_words : Bool → List ℕ
in_words true = codes "in"
in_words false = codes "not in"

in-lexes : (holds : Bool) (rest : List ℕ) (ts : List Token) → begins is_blank rest ≡ false → Lexes rest ts → Lexes (in_words holds ++ (32 ∷ rest)) (in_tokens holds ++ ts)
in-lexes true rest ts e more = lexes-next (codes "in" ++ (32 ∷ rest)) In rest ts (in-front rest) e more
in-lexes false rest ts e more =
    lexes-next (codes "not" ++ (32 ∷ (codes "in" ++ (32 ∷ rest)))) Not (codes "in" ++ (32 ∷ rest)) (In ∷ ts) (not-front (codes "in" ++ (32 ∷ rest))) refl
    (lexes-next (codes "in" ++ (32 ∷ rest)) In rest ts (in-front rest) e more)

in-begins : (holds : Bool) (rest : List ℕ) → begins is_blank (in_words holds ++ rest) ≡ false
in-begins true rest = refl
in-begins false rest = refl

-- a variable in a literal
pub within-lexes : (name : List ℕ) (t : Token) (holds : Bool) (literal rest : List ℕ) (ts : List Token) → IsSubject name t → is_literal literal ≡ true
    → Lexes (after_all is_blank rest) ts → Lexes (name ++ (32 ∷ (in_words holds ++ (32 ∷ (quoted_text literal ++ rest))))) (t ∷ (in_tokens holds ++ (Literal literal ∷ ts)))
within-lexes name t holds literal rest ts subject h more =
    let last = lexes-then (quoted_text literal ++ rest) (Literal literal) rest ts (quoted-front literal rest h) more in
    let middle = in-lexes holds (quoted_text literal ++ rest) (Literal literal ∷ ts) (quoted-begins literal rest h) last in
    lexes-next (name ++ (32 ∷ (in_words holds ++ (32 ∷ (quoted_text literal ++ rest))))) t (in_words holds ++ (32 ∷ (quoted_text literal ++ rest))) (in_tokens holds ++ (Literal literal ∷ ts))
    (subject (32 ∷ (in_words holds ++ (32 ∷ (quoted_text literal ++ rest)))) refl) (in-begins holds (32 ∷ (quoted_text literal ++ rest))) middle

-- a literal in a variable
pub contains-lexes : (v : Variable) (holds : Bool) (literal rest : List ℕ) (ts : List Token) → is_literal literal ≡ true → begins is_word_byte rest ≡ false
    → Lexes (after_all is_blank rest) ts → Lexes (quoted_text literal ++ (32 ∷ (in_words holds ++ (32 ∷ (variable_name v ++ rest))))) (Literal literal ∷ (in_tokens holds ++ (Named v ∷ ts)))
contains-lexes v holds literal rest ts h e more =
    let last = lexes-then (variable_name v ++ rest) (Named v) rest ts (name-front v rest e) more in
    let middle = in-lexes holds (variable_name v ++ rest) (Named v ∷ ts) (name-begins v rest) last in
    lexes-next (quoted_text literal ++ (32 ∷ (in_words holds ++ (32 ∷ (variable_name v ++ rest))))) (Literal literal) (in_words holds ++ (32 ∷ (variable_name v ++ rest)))
    (in_tokens holds ++ (Named v ∷ ts)) (quoted-front literal (32 ∷ (in_words holds ++ (32 ∷ (variable_name v ++ rest)))) h)
    (in-begins holds (32 ∷ (variable_name v ++ rest))) middle
