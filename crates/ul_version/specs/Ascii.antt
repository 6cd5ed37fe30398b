-- Bytes of ASCII, and texts that are cut by them.
use Rattle.std.specs.Prelude.{ℕ, ◌+◌, ◌-◌, ◌==◌, ◌&&◌, ◌||◌, Bool, false, nat_eq, nat_le, List, [], ◌∷◌, length, take, drop, Option, Some, None, if◌then◌else◌}
use Rattle.std.specs.List.{starts_with, ends_with}

-- ---- bytes by their names

-- horizontal tab
abbrev pub tab : ℕ
tab = 9

-- carriage return, the last of the five bytes of white space that begin with tab
abbrev pub carriage_return : ℕ
carriage_return = 13

-- the space
abbrev pub space : ℕ
space = 32

-- `!`
abbrev pub exclamation_mark : ℕ
exclamation_mark = 33

-- `"`
abbrev pub double_quote : ℕ
double_quote = 34

-- `(`
abbrev pub left_parenthesis : ℕ
left_parenthesis = 40

-- `)`
abbrev pub right_parenthesis : ℕ
right_parenthesis = 41

-- `+`
abbrev pub plus : ℕ
plus = 43

-- `,`
abbrev pub comma : ℕ
comma = 44

-- `-`
abbrev pub hyphen : ℕ
hyphen = 45

-- `.`
abbrev pub point : ℕ
point = 46

-- `;`
abbrev pub semicolon : ℕ
semicolon = 59

-- `@`
abbrev pub at_sign : ℕ
at_sign = 64

-- `[`
abbrev pub left_bracket : ℕ
left_bracket = 91

-- `\`
abbrev pub backslash : ℕ
backslash = 92

-- `]`
abbrev pub right_bracket : ℕ
right_bracket = 93

-- `_`
abbrev pub underscore : ℕ
underscore = 95

-- `v`
abbrev pub letter_v : ℕ
letter_v = 118

-- `~`
abbrev pub tilde : ℕ
tilde = 126

-- ---- classes of bytes

-- space, tab, line feed, vertical tab, form feed and carriage return
abbrev pub is_white : ℕ → Bool
is_white b = b == space || (nat_le tab b && nat_le b carriage_return)

-- space and tab
abbrev pub is_blank : ℕ → Bool
is_blank b = b == space || b == tab

-- sep: "." | "-" | "_"
abbrev pub is_separator : ℕ → Bool
is_separator b = b == point || (b == hyphen || b == underscore)

-- ---- what stands in front of a text, and at its end

-- whether a byte that passes the test stands in front
abbrev pub begins : (ℕ → Bool) → List ℕ → Bool
begins test [] = false
begins test (b ∷ rest) = test b

-- how many bytes in front pass the test
abbrev pub run_length : (ℕ → Bool) → List ℕ → ℕ
run_length test [] = 0
run_length test (b ∷ rest) = if test b then run_length test rest + 1 else 0

-- a text without the bytes in front of it that pass the test
abbrev pub after_all : (ℕ → Bool) → List ℕ → List ℕ
after_all test [] = []
after_all test (b ∷ rest) = if test b then after_all test rest else b ∷ rest

-- a byte before a text whose bytes at the end were dropped
abbrev pub unless_last : (ℕ → Bool) → ℕ → List ℕ → List ℕ
unless_last test b [] = if test b then [] else b ∷ []
unless_last test b (c ∷ rest) = b ∷ c ∷ rest

-- a text without the bytes at its end that pass the test
abbrev pub before_all : (ℕ → Bool) → List ℕ → List ℕ
before_all test [] = []
before_all test (b ∷ rest) = unless_last test b (before_all test rest)

-- a text without the bytes at both ends that pass the test
abbrev pub text_between : (ℕ → Bool) → List ℕ → List ℕ
text_between test text = before_all test (after_all test text)

-- the text after a word, where the text begins with it
abbrev pub after_front : List ℕ → List ℕ → Option (List ℕ)
after_front word text = if starts_with nat_eq text word then Some (drop (length word) text) else None

-- the text before a word, where the text ends with it
abbrev pub before_end : List ℕ → List ℕ → Option (List ℕ)
before_end word text = if ends_with nat_eq text word then Some (take (length text - length word) text) else None
