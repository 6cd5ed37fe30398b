-- The tokens of a marker's text (PEP 508, "Environment Markers"): parentheses, words, literals in quotes and
-- the signs of comparisons. Words are in lower case. Space and tab may stand between tokens, and white space
-- of any kind at the ends of the text.
use Rattle.std.specs.Prelude.{ℕ, zero, suc, ◌==◌, ◌&&◌, ◌||◌, Bool, true, false, not, List, [], ◌∷◌, length, take, drop, codes, Option, Some, None, if◌then◌else◌}
use Rattle.std.specs.List.{list_any}
use Rattle.std.specs.Str.{bytes_eq}
pub use Rattle.ul_version.specs.Ascii.{run_length}
use Rattle.ul_version.specs.Reading.{◌>>=◌, is_white, or_else}
use Rattle.ul_specifier.specs.Reading.{after_all, is_blank, operator}
use Rattle.ul_comparison.specs.Atoms.{is_extras, is_literal_byte}
use Rattle.ul_comparison.specs.declared.variable.Variable.TheVariants.{OsName, SysPlatform, PlatformMachine, PlatformPythonImplementation, PlatformRelease, PlatformSystem, PlatformVersion, PythonVersion, PythonFullVersion, ImplementationName, ImplementationVersion, Extras}
use Rattle.ul_marker.specs.declared.words.Dialect.{Dialect}
use Rattle.ul_marker.specs.declared.words.Dialect.TheVariants.{Document, Lock, Printed}
use Rattle.ul_marker.specs.declared.words.Token.{Token}
use Rattle.ul_marker.specs.declared.words.Token.TheVariants.{Open, Close, And, Or, In, Not, Extra, Named, Sign, Literal}

-- ---- bytes

-- `'` or `"`
abbrev pub is_quote : ℕ → Bool
is_quote b = b == 39 || b == 34

-- one of `< > = ! ~`
abbrev pub is_sign_byte : ℕ → Bool
is_sign_byte b = b == 60 || (b == 62 || (b == 61 || (b == 33 || b == 126)))

-- a byte that stands in a word: neither white space nor a parenthesis, a quote or a byte of a sign
abbrev pub is_word_byte : ℕ → Bool
is_word_byte b = not (is_white b || (b == 40 || (b == 41 || (is_quote b || is_sign_byte b))))

-- a byte that stands in a literal with this quote
abbrev pub is_quoted : ℕ → ℕ → Bool
is_quoted quote b = is_literal_byte b && not (b == quote)

-- ---- words

-- words that aren't text variables or versions
abbrev pub keywords : List (List ℕ × Token)
keywords = (codes "and", And) ∷ (codes "or", Or) ∷ (codes "in", In) ∷ (codes "not", Not) ∷ (codes "extra", Extra) ∷ []

-- variables: those of PEP 508, and `extras` of PEP 751
abbrev pub variables : List (List ℕ × Token)
variables =
    (codes "os_name", Named OsName) ∷ (codes "sys_platform", Named SysPlatform) ∷ (codes "platform_machine", Named PlatformMachine)
    ∷ (codes "platform_python_implementation", Named PlatformPythonImplementation) ∷ (codes "platform_release", Named PlatformRelease)
    ∷ (codes "platform_system", Named PlatformSystem) ∷ (codes "platform_version", Named PlatformVersion)
    ∷ (codes "python_version", Named PythonVersion) ∷ (codes "python_full_version", Named PythonFullVersion)
    ∷ (codes "implementation_name", Named ImplementationName) ∷ (codes "implementation_version", Named ImplementationVersion)
    ∷ (codes "extras", Named Extras) ∷ []

-- older spellings of variables
abbrev pub old_variables : List (List ℕ × Token)
old_variables =
    (codes "os.name", Named OsName) ∷ (codes "sys.platform", Named SysPlatform) ∷ (codes "platform.version", Named PlatformVersion)
    ∷ (codes "platform.machine", Named PlatformMachine) ∷ (codes "platform.python_implementation", Named PlatformPythonImplementation)
    ∷ (codes "python_implementation", Named PlatformPythonImplementation) ∷ []

-- the token of a word in a table
abbrev pub table_token : List (List ℕ × Token) → List ℕ → Option Token
table_token [] word = None
table_token (entry ∷ table) word = if bytes_eq word entry.0 then Some entry.1 else table_token table word

-- the token of a word
unfoldable pub word_token : List ℕ → Option Token
word_token word = or_else (table_token keywords word) (or_else (table_token variables word) (table_token old_variables word))

-- ---- one token

-- what stands in front, and the text after it
abbrev pub Front : Type 0
Front = Option (Token × List ℕ)

-- the word in front, as long as it can be
unfoldable pub front_word : List ℕ → Front
front_word text =
    word_token (take (run_length is_word_byte text) text) >>= λ t. Some (t, drop (run_length is_word_byte text) text)

-- the sign in front, as long as it can be
unfoldable pub front_sign : List ℕ → Front
front_sign text = operator text >>= λ o. Some (Sign o.0, o.1)

-- the text after a quote in front
abbrev pub after_quote : ℕ → List ℕ → Option (List ℕ)
after_quote quote [] = None
after_quote quote (b ∷ rest) = if b == quote then Some rest else None

-- the literal in front, after its first quote, as long as it can be
unfoldable pub front_literal : ℕ → List ℕ → Front
front_literal quote text =
    after_quote quote (drop (run_length (is_quoted quote) text) text) >>= λ rest.
    Some (Literal (take (run_length (is_quoted quote) text) text), rest)

-- the token in front
unfoldable pub front_token : List ℕ → Front
front_token [] = None
front_token (b ∷ rest) =
    if b == 40 then Some (Open, rest)
    else if b == 41 then Some (Close, rest)
    else if is_quote b then front_literal b rest
    else if is_sign_byte b then front_sign (b ∷ rest)
    else front_word (b ∷ rest)

-- ---- the whole text

-- the tokens of a text without blanks in front, in at most so many turns
unfoldable pub tokens_in : ℕ → List ℕ → Option (List Token)
tokens_in turns [] = Some []
tokens_in zero (b ∷ rest) = None
tokens_in (suc turns) (b ∷ rest) =
    front_token (b ∷ rest) >>= λ t. tokens_in turns (after_all is_blank t.1) >>= λ ts. Some (t.0 ∷ ts)

-- the tokens of a text without blanks in front; it has no more tokens than bytes
unfoldable pub tokens_of : List ℕ → Option (List Token)
tokens_of text = tokens_in (length text) text

-- ---- what has a reading where

-- the variable `extras`
abbrev pub is_extras_token : Token → Bool
is_extras_token (Named variable) = is_extras variable
is_extras_token other = false

-- the variable `extra`
abbrev pub is_extra_token : Token → Bool
is_extra_token Extra = true
is_extra_token other = false

-- a token without a reading: in a document `extras`, which PEP 508 doesn't have, and in a lock `extra`, which PEP 751 has
-- `extras` for; what is printed may have both
abbrev pub is_unread : Dialect → Token → Bool
is_unread Document token = is_extras_token token
is_unread Lock token = is_extra_token token
is_unread Printed token = false

-- tokens, of which each has a reading
abbrev pub with_readings : Dialect → Option (List Token) → Option (List Token)
with_readings dialect None = None
with_readings dialect (Some tokens) = if list_any (is_unread dialect) tokens then None else Some tokens

-- the tokens of a text in a dialect
abbrev pub dialect_tokens : Dialect → List ℕ → Option (List Token)
dialect_tokens dialect text = with_readings dialect (tokens_of text)
