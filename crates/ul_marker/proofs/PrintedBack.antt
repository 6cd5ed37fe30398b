-- Printed comparisons are read back.
use Rattle.std.proofs.Common.{◌≡◌, ◌∙◌, ◌<◌, ◌^◌, ℕ, Bool, true, false, true≢false, List, [], ◌∷◌, ◌++◌, map, Option, Some, None, refl, sym, ap, arith, subst}
use Rattle.std.specs.Prelude.{◌||◌, All, codes}
use Rattle.std.specs.List.{list_any}
use Rattle.std.specs.Option.{option_map_or}
use Rattle.std.proofs.lemmas.List.{append_assoc, append-nil}
use Rattle.std.proofs.lemmas.Bool.Decides.{nat_tests}
use Rattle.std.proofs.lemmas.List.Elements.{All-cons, All-head, All-nil, All-tail}
use Rattle.ul_version.specs.Fields.{IsVersion, plain}
use Rattle.ul_version.specs.Reading.{begins, is_white}
use Rattle.ul_base.specs.Names.{name_of}
use Rattle.ul_specifier.specs.Clauses.{IsClause, IsSpelled, is_exclusion}
use Rattle.ul_specifier.specs.Grammar.{operator_text}
use Rattle.ul_specifier.specs.Reading.{after_all, before_all, clause_with, is_blank, trimmed_text}
use Rattle.ul_specifier.specs.declared.clause.Op.{Op}
use Rattle.ul_specifier.specs.declared.clause.Op.TheVariants.{Equal, Unequal, AtLeast, AtMost, More, Less}
use Rattle.ul_specifier.proofs.ForCallers.{before_all-kept, clause-read}
use Rattle.ul_comparison.specs.Atoms.{is_implementation_version, is_literal, is_text, may_compare, may_stand}
use Rattle.ul_marker.specs.Comparisons.{comparison_of, containment, extra_literal, python_full, sign_formula, within}
use Rattle.ul_comparison.specs.Formulas.{Formula, IsExtraLiteral, opaque}
use Rattle.ul_marker.specs.Grammar.{AreJoined, IsAtomOf, IsConjunction, IsMarker, Spells}
use Rattle.ul_comparison.specs.Printed.{Comparison, IsComparison, atom_text, bound, bound_clause, bound_op, bound_sign, comparison_formula, comparison_text, equality_sign, extra_is, interpreter_text, kind_sign, atom_is, quote_of, quoted_text, sides, text_is, variable_name}
use Rattle.ul_marker.specs.PrintedPaths.{ComparisonReads, IsPath, PathsRead, path_formula, path_text, paths_formula, paths_text}
use Rattle.ul_marker.specs.Reading.{printed_marker_of}
use Rattle.ul_marker.specs.Words.{dialect_tokens, is_unread, is_word_byte, tokens_in, tokens_of, with_readings}
use Rattle.ul_comparison.specs.declared.variable.AtomKind.{AtomKind}
use Rattle.ul_comparison.specs.declared.variable.AtomKind.TheVariants.{Contains, Within, Below, AtMost as AtMostKind, Same}
use Rattle.ul_comparison.specs.declared.variable.Variable.{Variable}
use Rattle.ul_comparison.specs.declared.variable.Variable.TheVariants.{OsName, SysPlatform, PlatformMachine, PlatformPythonImplementation, PlatformRelease, PlatformSystem, PlatformVersion, PythonVersion, PythonFullVersion, ImplementationName, ImplementationVersion, Extras}
use Rattle.ul_marker.specs.declared.words.Dialect.TheVariants.{Printed}
use Rattle.ul_marker.specs.declared.words.Token.{Token}
use Rattle.ul_marker.specs.declared.words.Token.TheVariants.{And, Or, Extra, Named, Sign, Literal}
use Rattle.ul_comparison.proofs.ForCallers.{interpreter-is, interpreter-literal, interpreter-version}
use Rattle.ul_marker.proofs.Lexed.{IsSubject, Lexes, and-front, contains-lexes, extra-front, in_tokens, lexes-next, name-front, or-front, quote-is, signed-lexes, within-lexes}
use Rattle.ul_marker.proofs.Compared.{text_no_extras}
use Rattle.ul_marker.proofs.Spelled.{comparison-spelled, reading_is_grammar}

-- ---- tokens

-- `==`, or `!=`
abbrev equality_op : Bool → Op
equality_op true = Equal
equality_op false = Unequal

abbrev atom_tokens : AtomKind → Variable → List ℕ → Bool → List Token
atom_tokens Contains v literal holds = Literal literal ∷ (in_tokens holds ++ (Named v ∷ []))
atom_tokens Within v literal holds = Named v ∷ (in_tokens holds ++ (Literal literal ∷ []))
atom_tokens Below v literal true = Named v ∷ Sign Less ∷ Literal literal ∷ []
atom_tokens Below v literal false = Named v ∷ Sign AtLeast ∷ Literal literal ∷ []
atom_tokens AtMostKind v literal true = Named v ∷ Sign AtMost ∷ Literal literal ∷ []
atom_tokens AtMostKind v literal false = Named v ∷ Sign More ∷ Literal literal ∷ []
atom_tokens Same v literal holds = Named v ∷ Sign (equality_op holds) ∷ Literal literal ∷ []

-- the tokens of a comparison
abbrev printed_tokens : Comparison → List Token
printed_tokens (bound lower major minor patch) = Named PythonFullVersion ∷ Sign (bound_op lower) ∷ Literal (interpreter_text major minor patch) ∷ []
printed_tokens (extra_is literal equal) = Extra ∷ Sign (equality_op equal) ∷ Literal literal ∷ []
printed_tokens (text_is v literal equal) = Named v ∷ Sign (equality_op equal) ∷ Literal literal ∷ []
printed_tokens (atom_is a holds) = atom_tokens a.kind a.variable a.literal holds

-- ---- interpreters

bound-is : (lower : Bool) (major minor patch : ℕ) → IsVersion (plain (major ∷ minor ∷ patch ∷ [])) → IsClause (bound_clause lower major minor patch)
bound-is true major minor patch v = record {
  version = v;
  prefix = λ e. absurd (true≢false (sym e));
  local = λ e. absurd (true≢false (sym e));
  compatible = λ e. absurd (true≢false (sym e));
}
bound-is false major minor patch v = record {
  version = v;
  prefix = λ e. absurd (true≢false (sym e));
  local = λ e. absurd (true≢false (sym e));
  compatible = λ e. absurd (true≢false (sym e));
}

bound-spelled : (lower : Bool) (major minor patch : ℕ) → IsSpelled (bound_clause lower major minor patch)
bound-spelled true major minor patch = refl
bound-spelled false major minor patch = refl

bound-read : (lower : Bool) (major minor patch : ℕ) → major < 2 ^ 32 → minor < 2 ^ 32 → patch < 2 ^ 32
    → clause_with (bound_op lower) (interpreter_text major minor patch) ≡ Some (bound_clause lower major minor patch)
bound-read lower major minor patch a b c =
    ap (clause_with (bound_op lower)) (interpreter-version major minor patch)
    ∙ clause-read (bound_clause lower major minor patch) (bound-is lower major minor patch (interpreter-is major minor patch a b c)) (bound-spelled lower major minor patch)

-- ---- what the tokens say

own-literal : (literal : List ℕ) → IsExtraLiteral literal → extra_literal literal ≡ literal
unfolding extra_literal
own-literal literal is = go (name_of literal) refl
  where
    go : (named : Option (List ℕ)) → name_of literal ≡ named → option_map_or (λ name. name) named literal ≡ literal
    go None e = refl
    go (Some name) e = is.1 name e

text-not-python : (v : Variable) → (is_text v || is_implementation_version v) ≡ true → python_full v ≡ None
text-not-python OsName h = refl
text-not-python SysPlatform h = refl
text-not-python PlatformMachine h = refl
text-not-python PlatformPythonImplementation h = refl
text-not-python PlatformRelease h = refl
text-not-python PlatformSystem h = refl
text-not-python PlatformVersion h = refl
text-not-python PythonVersion h = absurd (true≢false (sym h))
text-not-python PythonFullVersion h = absurd (true≢false (sym h))
text-not-python ImplementationName h = refl
text-not-python ImplementationVersion h = refl
text-not-python Extras h = absurd (true≢false (sym h))

text-either : (v : Variable) → is_text v ≡ true → (is_text v || is_implementation_version v) ≡ true
text-either v h = rw h refl

version-either : (v : Variable) → is_implementation_version v ≡ true → ((is_text v || is_implementation_version v) ≡ true) × (is_text v ≡ false)
version-either OsName h = absurd (true≢false (sym h))
version-either SysPlatform h = absurd (true≢false (sym h))
version-either PlatformMachine h = absurd (true≢false (sym h))
version-either PlatformPythonImplementation h = absurd (true≢false (sym h))
version-either PlatformRelease h = absurd (true≢false (sym h))
version-either PlatformSystem h = absurd (true≢false (sym h))
version-either PlatformVersion h = absurd (true≢false (sym h))
version-either PythonVersion h = absurd (true≢false (sym h))
version-either PythonFullVersion h = absurd (true≢false (sym h))
version-either ImplementationName h = absurd (true≢false (sym h))
version-either ImplementationVersion h = (refl, refl)
version-either Extras h = absurd (true≢false (sym h))

atom-says : (kind : AtomKind) (v : Variable) (literal : List ℕ) (holds : Bool) → may_compare kind v ≡ true → may_stand v literal ≡ true
    → comparison_of (atom_tokens kind v literal holds) ≡ Some (opaque (record { variable = v; kind = kind; literal = literal }) holds)
unfolding comparison_of containment within sign_formula
atom-says Contains v literal true h s = rw s refl
atom-says Contains v literal false h s = rw s refl
atom-says Within v literal true h s = rw (text_no_extras v h, text-not-python v h) refl
atom-says Within v literal false h s = rw (text_no_extras v h, text-not-python v h) refl
atom-says Below v literal true h s = rw (text_no_extras v h, text-not-python v h) refl
atom-says Below v literal false h s = rw (text_no_extras v h, text-not-python v h) refl
atom-says AtMostKind v literal true h s = rw (text_no_extras v h, text-not-python v h) refl
atom-says AtMostKind v literal false h s = rw (text_no_extras v h, text-not-python v h) refl
atom-says Same v literal true h s = let is = version-either v h in rw (text_no_extras v is.0, text-not-python v is.0, is.1) refl
atom-says Same v literal false h s = let is = version-either v h in rw (text_no_extras v is.0, text-not-python v is.0, is.1) refl

says : (c : Comparison) → IsComparison c → comparison_of (printed_tokens c) ≡ Some (comparison_formula c)
unfolding comparison_of sign_formula
says (bound true major minor patch) is = rw (bound-read true major minor patch is.0 is.1 is.2) refl
says (bound false major minor patch) is = rw (bound-read false major minor patch is.0 is.1 is.2) refl
says (extra_is literal true) is = rw (own-literal literal is) refl
says (extra_is literal false) is = rw (own-literal literal is) refl
says (text_is v literal true) is = rw (text_no_extras v (text-either v is.0), text-not-python v (text-either v is.0), is.0) refl
says (text_is v literal false) is = rw (text_no_extras v (text-either v is.0), text-not-python v (text-either v is.0), is.0) refl
says (atom_is a holds) is = atom-says a.kind a.variable a.literal holds is.kind is.stands

-- ---- how the texts are cut

three-parts : (a s q rest : List ℕ) → (a ++ (s ++ q)) ++ rest ≡ a ++ (s ++ (q ++ rest))
three-parts a s q rest = append_assoc a (s ++ q) rest ∙ ap (λ t. a ++ t) (append_assoc s q rest)

spaced : (name word q rest : List ℕ) → (name ++ ((32 ∷ (word ++ (32 ∷ []))) ++ q)) ++ rest ≡ name ++ (32 ∷ (word ++ (32 ∷ (q ++ rest))))
spaced name word q rest =
    three-parts name (32 ∷ (word ++ (32 ∷ []))) q rest ∙ ap (λ t. name ++ (32 ∷ t)) (append_assoc word (32 ∷ []) (q ++ rest))

signed-text : (name : List ℕ) (t : Token) (op : Op) (literal rest : List ℕ) (ts : List Token) → is_exclusion op ≡ false → IsSubject name t → is_literal literal ≡ true
    → Lexes (after_all is_blank rest) ts → Lexes ((name ++ ((32 ∷ (operator_text op ++ (32 ∷ []))) ++ quoted_text literal)) ++ rest) (t ∷ Sign op ∷ Literal literal ∷ ts)
signed-text name t op literal rest ts spelled subject h more =
    subst (λ text. Lexes text (t ∷ Sign op ∷ Literal literal ∷ ts)) (sym (spaced name (operator_text op) (quoted_text literal) rest))
    (signed-lexes name t op literal rest ts spelled subject h more)

atom-lexes : (kind : AtomKind) (v : Variable) (literal : List ℕ) (holds : Bool) (rest : List ℕ) (ts : List Token) → is_literal literal ≡ true
    → begins is_word_byte rest ≡ false → Lexes (after_all is_blank rest) ts
    → Lexes (sides kind (variable_name v) (kind_sign kind holds) (quoted_text literal) ++ rest) (atom_tokens kind v literal holds ++ ts)
atom-lexes Contains v literal true rest ts h e more =
    subst (λ text. Lexes text (atom_tokens Contains v literal true ++ ts)) (sym (spaced (quoted_text literal) (codes "in") (variable_name v) rest))
    (contains-lexes v true literal rest ts h e more)
atom-lexes Contains v literal false rest ts h e more =
    subst (λ text. Lexes text (atom_tokens Contains v literal false ++ ts)) (sym (spaced (quoted_text literal) (codes "not in") (variable_name v) rest))
    (contains-lexes v false literal rest ts h e more)
atom-lexes Within v literal true rest ts h e more =
    subst (λ text. Lexes text (atom_tokens Within v literal true ++ ts)) (sym (spaced (variable_name v) (codes "in") (quoted_text literal) rest))
    (within-lexes (variable_name v) (Named v) true literal rest ts (name-front v) h more)
atom-lexes Within v literal false rest ts h e more =
    subst (λ text. Lexes text (atom_tokens Within v literal false ++ ts)) (sym (spaced (variable_name v) (codes "not in") (quoted_text literal) rest))
    (within-lexes (variable_name v) (Named v) false literal rest ts (name-front v) h more)
atom-lexes Below v literal true rest ts h e more = signed-text (variable_name v) (Named v) Less literal rest ts refl (name-front v) h more
atom-lexes Below v literal false rest ts h e more = signed-text (variable_name v) (Named v) AtLeast literal rest ts refl (name-front v) h more
atom-lexes AtMostKind v literal true rest ts h e more = signed-text (variable_name v) (Named v) AtMost literal rest ts refl (name-front v) h more
atom-lexes AtMostKind v literal false rest ts h e more = signed-text (variable_name v) (Named v) More literal rest ts refl (name-front v) h more
atom-lexes Same v literal true rest ts h e more = signed-text (variable_name v) (Named v) Equal literal rest ts refl (name-front v) h more
atom-lexes Same v literal false rest ts h e more = signed-text (variable_name v) (Named v) Unequal literal rest ts refl (name-front v) h more

comparison-lexes : (c : Comparison) → IsComparison c → (rest : List ℕ) (ts : List Token) → begins is_word_byte rest ≡ false
    → Lexes (after_all is_blank rest) ts → Lexes (comparison_text c ++ rest) (printed_tokens c ++ ts)
unfolding comparison_text atom_text
comparison-lexes (bound true major minor patch) is rest ts e more =
    signed-text (variable_name PythonFullVersion) (Named PythonFullVersion) AtLeast (interpreter_text major minor patch) rest ts refl (name-front PythonFullVersion)
    (interpreter-literal major minor patch is.0 is.1 is.2) more
comparison-lexes (bound false major minor patch) is rest ts e more =
    signed-text (variable_name PythonFullVersion) (Named PythonFullVersion) Less (interpreter_text major minor patch) rest ts refl (name-front PythonFullVersion)
    (interpreter-literal major minor patch is.0 is.1 is.2) more
comparison-lexes (extra_is literal true) is rest ts e more = signed-text (codes "extra") Extra Equal literal rest ts refl extra-front is.0 more
comparison-lexes (extra_is literal false) is rest ts e more = signed-text (codes "extra") Extra Unequal literal rest ts refl extra-front is.0 more
comparison-lexes (text_is v literal true) is rest ts e more = signed-text (variable_name v) (Named v) Equal literal rest ts refl (name-front v) is.1 more
comparison-lexes (text_is v literal false) is rest ts e more = signed-text (variable_name v) (Named v) Unequal literal rest ts refl (name-front v) is.1 more
comparison-lexes (atom_is a holds) is rest ts e more = atom-lexes a.kind a.variable a.literal holds rest ts is.literal e more

-- ---- how texts begin and end

name-white : (v : Variable) (rest : List ℕ) → begins is_white (variable_name v ++ rest) ≡ false
name-white OsName rest = refl
name-white SysPlatform rest = refl
name-white PlatformMachine rest = refl
name-white PlatformPythonImplementation rest = refl
name-white PlatformRelease rest = refl
name-white PlatformSystem rest = refl
name-white PlatformVersion rest = refl
name-white PythonVersion rest = refl
name-white PythonFullVersion rest = refl
name-white ImplementationName rest = refl
name-white ImplementationVersion rest = refl
name-white Extras rest = refl

-- a text begins with no white space, whatever stands behind it
abbrev BeginsWell : List ℕ → Type 0
BeginsWell text = (rest : List ℕ) → begins is_white (text ++ rest) ≡ false

named-begins : (v : Variable) (more : List ℕ) → BeginsWell (variable_name v ++ more)
named-begins v more rest = ap (begins is_white) (append_assoc (variable_name v) more rest) ∙ name-white v (more ++ rest)

atom-begins : (kind : AtomKind) (v : Variable) (sign literal : List ℕ) → is_literal literal ≡ true → BeginsWell (sides kind (variable_name v) sign (quoted_text literal))
atom-begins Contains v sign literal h rest = (quote-is literal h).white
atom-begins Within v sign literal h rest = named-begins v (sign ++ quoted_text literal) rest
atom-begins Below v sign literal h rest = named-begins v (sign ++ quoted_text literal) rest
atom-begins AtMostKind v sign literal h rest = named-begins v (sign ++ quoted_text literal) rest
atom-begins Same v sign literal h rest = named-begins v (sign ++ quoted_text literal) rest

comparison-begins : (c : Comparison) → IsComparison c → BeginsWell (comparison_text c)
unfolding comparison_text atom_text
comparison-begins (bound lower major minor patch) is rest = refl
comparison-begins (extra_is literal equal) is rest = refl
comparison-begins (text_is v literal equal) is rest = named-begins v (equality_sign equal ++ quoted_text literal) rest
comparison-begins (atom_is a holds) is rest = atom-begins a.kind a.variable (kind_sign a.kind holds) a.literal is.literal rest

white-blank : (text : List ℕ) → begins is_white text ≡ false → begins is_blank text ≡ false
white-blank [] e = refl
white-blank (b ∷ text) e = grind (arith, nat_tests)

-- a text ends with a byte that is no white space
abbrev EndsWell : List ℕ → Type 0
EndsWell text = (front : List ℕ) × (b : ℕ) × (text ≡ front ++ (b ∷ [])) × (is_white b ≡ false)

ends-behind : (front text : List ℕ) → EndsWell text → EndsWell (front ++ text)
ends-behind front text (before, b, e, h) = (front ++ before, b, ap (λ t. front ++ t) e ∙ sym (append_assoc front before (b ∷ [])), h)

quoted-ends : (literal : List ℕ) → is_literal literal ≡ true → EndsWell (quoted_text literal)
quoted-ends literal h = (quote_of literal ∷ literal, quote_of literal, refl, (quote-is literal h).white)

name-ends : (v : Variable) → EndsWell (variable_name v)
name-ends OsName = (codes "os_nam", 101, refl, refl)
name-ends SysPlatform = (codes "sys_platfor", 109, refl, refl)
name-ends PlatformMachine = (codes "platform_machin", 101, refl, refl)
name-ends PlatformPythonImplementation = (codes "platform_python_implementatio", 110, refl, refl)
name-ends PlatformRelease = (codes "platform_releas", 101, refl, refl)
name-ends PlatformSystem = (codes "platform_syste", 109, refl, refl)
name-ends PlatformVersion = (codes "platform_versio", 110, refl, refl)
name-ends PythonVersion = (codes "python_versio", 110, refl, refl)
name-ends PythonFullVersion = (codes "python_full_versio", 110, refl, refl)
name-ends ImplementationName = (codes "implementation_nam", 101, refl, refl)
name-ends ImplementationVersion = (codes "implementation_versio", 110, refl, refl)
name-ends Extras = (codes "extra", 115, refl, refl)

sided-ends : (name sign literal : List ℕ) → is_literal literal ≡ true → EndsWell (name ++ (sign ++ quoted_text literal))
sided-ends name sign literal h = ends-behind name (sign ++ quoted_text literal) (ends-behind sign (quoted_text literal) (quoted-ends literal h))

atom-ends : (kind : AtomKind) (v : Variable) (sign literal : List ℕ) → is_literal literal ≡ true → EndsWell (sides kind (variable_name v) sign (quoted_text literal))
atom-ends Contains v sign literal h = ends-behind (quoted_text literal) (sign ++ variable_name v) (ends-behind sign (variable_name v) (name-ends v))
atom-ends Within v sign literal h = sided-ends (variable_name v) sign literal h
atom-ends Below v sign literal h = sided-ends (variable_name v) sign literal h
atom-ends AtMostKind v sign literal h = sided-ends (variable_name v) sign literal h
atom-ends Same v sign literal h = sided-ends (variable_name v) sign literal h

comparison-ends : (c : Comparison) → IsComparison c → EndsWell (comparison_text c)
unfolding comparison_text atom_text
comparison-ends (bound lower major minor patch) is =
    sided-ends (variable_name PythonFullVersion) (bound_sign lower) (interpreter_text major minor patch) (interpreter-literal major minor patch is.0 is.1 is.2)
comparison-ends (extra_is literal equal) is = sided-ends (codes "extra") (equality_sign equal) literal is.0
comparison-ends (text_is v literal equal) is = sided-ends (variable_name v) (equality_sign equal) literal is.1
comparison-ends (atom_is a holds) is = atom-ends a.kind a.variable (kind_sign a.kind holds) a.literal is.literal

-- ---- paths

abbrev path_tokens : List Comparison → List Token
path_tokens [] = []
path_tokens (c ∷ []) = printed_tokens c
path_tokens (c ∷ d ∷ path) = printed_tokens c ++ (And ∷ path_tokens (d ∷ path))

path-begins : (c : Comparison) (path : List Comparison) → IsComparison c → BeginsWell (path_text (c ∷ path))
path-begins c [] is rest = comparison-begins c is rest
path-begins c (d ∷ path) is rest =
    ap (begins is_white) (append_assoc (comparison_text c) (codes " and " ++ path_text (d ∷ path)) rest) ∙ comparison-begins c is ((codes " and " ++ path_text (d ∷ path)) ++ rest)

path-ends : (c : Comparison) (path : List Comparison) → All IsComparison (c ∷ path) → EndsWell (path_text (c ∷ path))
path-ends c [] all = comparison-ends c (All-head IsComparison c [] all)
path-ends c (d ∷ path) all =
    ends-behind (comparison_text c) (codes " and " ++ path_text (d ∷ path))
    (ends-behind (codes " and ") (path_text (d ∷ path)) (path-ends d path (All-tail IsComparison c (d ∷ path) all)))

path-lexes : (c : Comparison) (path : List Comparison) → All IsComparison (c ∷ path) → (rest : List ℕ) (ts : List Token) → begins is_word_byte rest ≡ false
    → Lexes (after_all is_blank rest) ts → Lexes (path_text (c ∷ path) ++ rest) (path_tokens (c ∷ path) ++ ts)
path-lexes c [] all rest ts e more = comparison-lexes c (All-head IsComparison c [] all) rest ts e more
path-lexes c (d ∷ path) all rest ts e more =
    let others = All-tail IsComparison c (d ∷ path) all in
    let next : Lexes (path_text (d ∷ path) ++ rest) (path_tokens (d ∷ path) ++ ts) = path-lexes d path others rest ts e more in
    let begin : begins is_blank (path_text (d ∷ path) ++ rest) ≡ false =
    white-blank (path_text (d ∷ path) ++ rest) (path-begins d path (All-head IsComparison d path others) rest) in
    let joined_on : Lexes (codes "and" ++ (32 ∷ (path_text (d ∷ path) ++ rest))) (And ∷ (path_tokens (d ∷ path) ++ ts)) =
    lexes-next (codes "and" ++ (32 ∷ (path_text (d ∷ path) ++ rest))) And (path_text (d ∷ path) ++ rest) (path_tokens (d ∷ path) ++ ts)
    (and-front (path_text (d ∷ path) ++ rest)) begin next in
    let whole : Lexes (comparison_text c ++ (codes " and " ++ (path_text (d ∷ path) ++ rest))) (printed_tokens c ++ (And ∷ (path_tokens (d ∷ path) ++ ts))) =
    comparison-lexes c (All-head IsComparison c (d ∷ path) all) (codes " and " ++ (path_text (d ∷ path) ++ rest)) (And ∷ (path_tokens (d ∷ path) ++ ts)) refl joined_on in
    ap tokens_of (three-parts (comparison_text c) (codes " and ") (path_text (d ∷ path)) rest) ∙ whole
    ∙ ap Some (sym (append_assoc (printed_tokens c) (And ∷ path_tokens (d ∷ path)) ts))

path-joined : (Inside : List Token → Formula → Type 0) (c : Comparison) (path : List Comparison) → All IsComparison (c ∷ path)
    → AreJoined (IsAtomOf Inside) And (path_tokens (c ∷ path)) (map comparison_formula (c ∷ path))
path-joined Inside c [] all = IsAtomOf.comparison (comparison-spelled (printed_tokens c) (comparison_formula c) (says c (All-head IsComparison c [] all)))
path-joined Inside c (d ∷ path) all = (
  printed_tokens c,
  path_tokens (d ∷ path),
  IsAtomOf.comparison (comparison-spelled (printed_tokens c) (comparison_formula c) (says c (All-head IsComparison c (d ∷ path) all))),
  path-joined Inside d path (All-tail IsComparison c (d ∷ path) all),
  refl,
)

-- ---- paths joined by `or`

abbrev paths_tokens : List (List Comparison) → List Token
paths_tokens [] = []
paths_tokens (path ∷ []) = path_tokens path
paths_tokens (path ∷ next ∷ paths) = path_tokens path ++ (Or ∷ paths_tokens (next ∷ paths))

one-begins : (path : List Comparison) → IsPath path → BeginsWell (path_text path)
one-begins [] is = absurd (omega (arith, is.0))
one-begins (c ∷ path) is = path-begins c path (All-head IsComparison c path is.1)

one-ends : (path : List Comparison) → IsPath path → EndsWell (path_text path)
one-ends [] is = absurd (omega (arith, is.0))
one-ends (c ∷ path) is = path-ends c path is.1

one-lexes : (path : List Comparison) → IsPath path → (rest : List ℕ) (ts : List Token) → begins is_word_byte rest ≡ false
    → Lexes (after_all is_blank rest) ts → Lexes (path_text path ++ rest) (path_tokens path ++ ts)
one-lexes [] is = absurd (omega (arith, is.0))
one-lexes (c ∷ path) is = path-lexes c path is.1

one-joined : (Inside : List Token → Formula → Type 0) (path : List Comparison) → IsPath path → IsConjunction Inside (path_tokens path) (path_formula path)
one-joined Inside [] is = absurd (omega (arith, is.0))
one-joined Inside (c ∷ path) is = (map comparison_formula (c ∷ path), path-joined Inside c path is.1, refl)

paths-begin : (path : List Comparison) (paths : List (List Comparison)) → IsPath path → BeginsWell (paths_text (path ∷ paths))
paths-begin path [] is rest = one-begins path is rest
paths-begin path (next ∷ paths) is rest =
    ap (begins is_white) (append_assoc (path_text path) (codes " or " ++ paths_text (next ∷ paths)) rest) ∙ one-begins path is ((codes " or " ++ paths_text (next ∷ paths)) ++ rest)

paths-end : (path : List Comparison) (paths : List (List Comparison)) → All IsPath (path ∷ paths) → EndsWell (paths_text (path ∷ paths))
paths-end path [] all = one-ends path (All-head IsPath path [] all)
paths-end path (next ∷ paths) all =
    ends-behind (path_text path) (codes " or " ++ paths_text (next ∷ paths))
    (ends-behind (codes " or ") (paths_text (next ∷ paths)) (paths-end next paths (All-tail IsPath path (next ∷ paths) all)))

paths-lex : (path : List Comparison) (paths : List (List Comparison)) → All IsPath (path ∷ paths) → (rest : List ℕ) (ts : List Token) → begins is_word_byte rest ≡ false
    → Lexes (after_all is_blank rest) ts → Lexes (paths_text (path ∷ paths) ++ rest) (paths_tokens (path ∷ paths) ++ ts)
paths-lex path [] all rest ts e more = one-lexes path (All-head IsPath path [] all) rest ts e more
paths-lex path (next ∷ paths) all rest ts e more =
    let others = All-tail IsPath path (next ∷ paths) all in
    let after : Lexes (paths_text (next ∷ paths) ++ rest) (paths_tokens (next ∷ paths) ++ ts) = paths-lex next paths others rest ts e more in
    let begin : begins is_blank (paths_text (next ∷ paths) ++ rest) ≡ false =
    white-blank (paths_text (next ∷ paths) ++ rest) (paths-begin next paths (All-head IsPath next paths others) rest) in
    let joined_on : Lexes (codes "or" ++ (32 ∷ (paths_text (next ∷ paths) ++ rest))) (Or ∷ (paths_tokens (next ∷ paths) ++ ts)) =
    lexes-next (codes "or" ++ (32 ∷ (paths_text (next ∷ paths) ++ rest))) Or (paths_text (next ∷ paths) ++ rest) (paths_tokens (next ∷ paths) ++ ts)
    (or-front (paths_text (next ∷ paths) ++ rest)) begin after in
    let whole : Lexes (path_text path ++ (codes " or " ++ (paths_text (next ∷ paths) ++ rest))) (path_tokens path ++ (Or ∷ (paths_tokens (next ∷ paths) ++ ts))) =
    one-lexes path (All-head IsPath path (next ∷ paths) all) (codes " or " ++ (paths_text (next ∷ paths) ++ rest)) (Or ∷ (paths_tokens (next ∷ paths) ++ ts)) refl joined_on in
    ap tokens_of (three-parts (path_text path) (codes " or ") (paths_text (next ∷ paths)) rest) ∙ whole
    ∙ ap Some (sym (append_assoc (path_tokens path) (Or ∷ paths_tokens (next ∷ paths)) ts))

paths-joined : (Inside : List Token → Formula → Type 0) (path : List Comparison) (paths : List (List Comparison)) → All IsPath (path ∷ paths)
    → AreJoined (IsConjunction Inside) Or (paths_tokens (path ∷ paths)) (map path_formula (path ∷ paths))
paths-joined Inside path [] all = one-joined Inside path (All-head IsPath path [] all)
paths-joined Inside path (next ∷ paths) all = (
  path_tokens path,
  paths_tokens (next ∷ paths),
  one-joined Inside path (All-head IsPath path (next ∷ paths) all),
  paths-joined Inside next paths (All-tail IsPath path (next ∷ paths) all),
  refl,
)

-- ---- whole texts

-- each token has a reading in what is printed
pub all-read : (ts : List Token) → with_readings Printed (Some ts) ≡ Some ts
all-read ts = rw (none ts) refl
  where
    none : (ts : List Token) → list_any (is_unread Printed) ts ≡ false
    none [] = refl
    none (t ∷ ts) = none ts

front-kept : (text : List ℕ) → begins is_white text ≡ false → after_all is_white text ≡ text
front-kept [] e = refl
front-kept (b ∷ text) e = rw e refl

kept-whole : (text : List ℕ) → begins is_white text ≡ false → EndsWell text → trimmed_text is_white text ≡ text
kept-whole text e (front, b, ends, h) =
    ap (before_all is_white) (front-kept text e) ∙ ap (before_all is_white) ends ∙ before_all-kept is_white front b h ∙ sym ends

paths-spelled : (path : List Comparison) (paths : List (List Comparison)) → All IsPath (path ∷ paths) → Spells Printed (paths_text (path ∷ paths)) (paths_formula (path ∷ paths))
unfolding IsMarker tokens_of tokens_in
paths-spelled path paths all =
    let text = paths_text (path ∷ paths) in
    let begin : begins is_white text ≡ false = ap (begins is_white) (sym (append-nil text)) ∙ paths-begin path paths (All-head IsPath path paths all) [] in
    let whole : tokens_of text ≡ Some (paths_tokens (path ∷ paths)) =
    ap tokens_of (sym (append-nil text)) ∙ paths-lex path paths all [] [] refl refl ∙ ap Some (append-nil (paths_tokens (path ∷ paths))) in (
      paths_tokens (path ∷ paths),
      ap (dialect_tokens Printed) (kept-whole text begin (paths-end path paths all)) ∙ ap (with_readings Printed) whole ∙ all-read (paths_tokens (path ∷ paths)),
      (map path_formula (path ∷ paths), paths-joined (IsMarker 63) path paths all, refl),
    )

-- printed comparisons joined by ` and ` and by ` or ` are read as what they say
pub paths-read : PathsRead
unfolding printed_marker_of
paths-read [] some all = absurd (omega (arith, some))
paths-read (path ∷ paths) some all = (reading_is_grammar Printed (paths_text (path ∷ paths)) (paths_formula (path ∷ paths))).1 (paths-spelled path paths all)

-- a printed comparison is read as what it says
pub comparison-reads : ComparisonReads
comparison-reads c is =
    paths-read ((c ∷ []) ∷ []) (omega arith) (All-cons IsPath (c ∷ []) [] (omega arith, All-cons IsComparison c [] is (All-nil IsComparison)) (All-nil IsPath))
