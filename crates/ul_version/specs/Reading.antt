-- The texts of versions: the grammar of PEP 440 ("Version specifiers" and "Normalization") in the forms
-- that tools read, cut from the front of a text part by part. A version is
--     ["v"] [num "!"] num *("." num) [pre] [post] [dev] ["+" local]
-- and each part takes as much of the text as it can.
use Rattle.std.specs.Prelude.{ℕ, zero, suc, ◌^◌, ◌==◌, ◌||◌, Bool, not, nat_lt, List, [], ◌∷◌, length, map, codes, Option, Some, None, if◌then◌else◌, ◌++◌}
use Rattle.std.specs.Char.{is_ascii_digit, to_ascii_lowercase}
use Rattle.std.specs.List.{list_all, slice_split}
use Rattle.std.specs.Option.{option_map_or}
pub use Rattle.ul_version.specs.Ascii.{begins, is_separator, is_white}
pub use Rattle.ul_version.specs.Grammar.{kind_words, post_words}
-- the value of a part's number, as the grammar has it
unfoldable pub use Rattle.ul_version.specs.Grammar.{value_after}
use Rattle.ul_version.specs.Ascii.{after_all, before_all, letter_v, plus}
use Rattle.ul_version.specs.Fields.{Fields, is_word_byte}
use Rattle.ul_version.specs.declared.fields.Pre.{Pre}
use Rattle.ul_version.specs.declared.fields.PreKind.{PreKind}
use Rattle.ul_version.specs.declared.fields.PreKind.TheVariants.{A, B, Rc}
use Rattle.ul_version.specs.declared.fields.Segment.{Segment}
use Rattle.ul_version.specs.declared.fields.Segment.TheVariants.{Number, Word}

-- ---- white space and case

-- a text without the white space in front of it
unfoldable pub after_white : List ℕ → List ℕ
after_white text = after_all is_white text

-- a text without the white space at its end
unfoldable pub before_white : List ℕ → List ℕ
before_white text = before_all is_white text

-- a text in which ASCII letters are lower case
abbrev pub lowercase_text : List ℕ → List ℕ
lowercase_text text = map to_ascii_lowercase text

-- ---- what stands in front of a text

infixl 10 ◌>>=◌
-- a step, and then the next on what it gives
abbrev pub ◌>>=◌ : {X Y : Type 0} → Option X → (X → Option Y) → Option Y
None >>= f = None
Some x >>= f = f x

-- the text after one byte that passes the test, where such a byte stands in front
abbrev pub after_optional : (ℕ → Bool) → List ℕ → List ℕ
after_optional test [] = []
after_optional test (b ∷ rest) = if test b then rest else b ∷ rest

-- the text after the word, where the word stands in front
unfoldable pub after_word : List ℕ → List ℕ → Option (List ℕ)
after_word [] text = Some text
after_word (w ∷ word) [] = None
after_word (w ∷ word) (b ∷ rest) = if b == w then after_word word rest else None

-- the first answer that there is
abbrev pub or_else : {X : Type 0} → Option X → Option X → Option X
or_else None y = y
or_else (Some x) y = Some x

-- the text after the first of the words that stands in front
abbrev pub after_any : List (List ℕ) → List ℕ → Option (List ℕ)
after_any [] text = None
after_any (word ∷ words) text = or_else (after_word word text) (after_any words text)

-- ---- num: 1*digit, below 2^64

-- the digits in front, as many as there are
unfoldable pub digits : List ℕ → List ℕ
digits [] = []
digits (b ∷ rest) = if is_ascii_digit b then b ∷ digits rest else []

-- the text after the digits in front
unfoldable pub after_digits : List ℕ → List ℕ
after_digits [] = []
after_digits (b ∷ rest) = if is_ascii_digit b then after_digits rest else b ∷ rest

-- what a part says, and the text after it; there is none where a number is 2^64 or more
abbrev pub Cut : Type 0 → Type 0
Cut X = Option (X × List ℕ)

-- the number in front, which is 0 where there is no digit
unfoldable pub number : List ℕ → Cut ℕ
number text = if nat_lt (value_after 0 (digits text)) (2 ^ 64) then Some (value_after 0 (digits text), after_digits text) else None

-- a number that must be there
unfoldable pub required_number : List ℕ → Cut ℕ
required_number text = if begins is_ascii_digit text then number text else None

-- the text from its digits on, where the mark and a digit stand in front
unfoldable pub marked_digits : List ℕ → List ℕ → Option (List ℕ)
marked_digits mark text = after_word mark text >>= λ rest. if begins is_ascii_digit rest then Some rest else None

-- ---- [num "!"]: the epoch, which is 0 where there is none

-- the epoch, where the number in front is followed by its mark
abbrev pub epoch_from : List ℕ → ℕ → Option (List ℕ) → Cut ℕ
epoch_from text n None = Some (0, text)
epoch_from text n (Some rest) = Some (n, rest)

-- the epoch in front, and the text after its mark
unfoldable pub epoch : List ℕ → Cut ℕ
epoch text =
    if begins is_ascii_digit text then (number text >>= λ n. epoch_from text n.0 (after_word (codes "!") n.1))
    else Some (0, text)

-- ---- num *("." num): the release

-- numbers before those that a part says
abbrev pub onto : {X : Type 0} → List X → Cut (List X) → Cut (List X)
onto xs part = part >>= λ p. Some (xs ++ p.0, p.1)

-- the numbers that follow, each after a point, at most `most`
unfoldable pub points : ℕ → List ℕ → Cut (List ℕ)
points zero text = Some ([], text)
points (suc most) text =
    option_map_or (λ rest. number rest >>= λ n. onto (n.0 ∷ []) (points most n.1)) (marked_digits (codes ".") text) (Some ([], text))

-- a text has no more numbers than bytes
unfoldable pub release : List ℕ → Cut (List ℕ)
release text = required_number text >>= λ n. onto (n.0 ∷ []) (points (length text) n.1)

-- ---- [sep] WORD [sep] [num]: a pre, post or dev part; a word that begins with another stands before it

-- the number of a part after its word
abbrev pub suffix_number : List ℕ → Cut ℕ
suffix_number text = number (after_optional is_separator text)

-- the kind whose word stands in front, and the text after the word
abbrev pub kind_in_front : PreKind → List ℕ → Cut PreKind
kind_in_front kind text = after_any (kind_words kind) text >>= λ rest. Some (kind, rest)

-- the kind, of any of the three, whose word stands in front
abbrev pub any_kind : List ℕ → Cut PreKind
any_kind text = or_else (kind_in_front A text) (or_else (kind_in_front B text) (kind_in_front Rc text))

-- the pre part from the text after its word, where there is one
abbrev pub pre_from : List ℕ → Cut PreKind → Cut (Option Pre)
pre_from text None = Some (None, text)
pre_from text (Some k) = suffix_number k.1 >>= λ n. Some (Some (record { kind = k.0; number = n.0 }), n.1)

-- the pre part in front
unfoldable pub pre : List ℕ → Cut (Option Pre)
pre text = pre_from text (any_kind (after_optional is_separator text))

-- a post or dev part from the text after its word
abbrev pub suffix_from : List ℕ → Option (List ℕ) → Cut (Option ℕ)
suffix_from text None = Some (None, text)
suffix_from text (Some rest) = suffix_number rest >>= λ n. Some (Some n.0, n.1)

-- the post part in front: "-" num, or a word with its number
unfoldable pub post : List ℕ → Cut (Option ℕ)
post text =
    option_map_or (λ rest. number rest >>= λ n. Some (Some n.0, n.1)) (marked_digits (codes "-") text)
    (suffix_from text (after_any post_words (after_optional is_separator text)))

-- the dev part in front
unfoldable pub dev : List ℕ → Cut (Option ℕ)
dev text = suffix_from text (after_word (codes "dev") (after_optional is_separator text))

-- ---- ["+" seg *(sep seg)]: the local part, which ends the text

-- seg: 1*(letter|digit), a number where it is digits alone
unfoldable pub segment : List ℕ → Option Segment
segment piece =
    if length piece == 0 || not (list_all is_word_byte piece) then None
    else if list_all is_ascii_digit piece then (number piece >>= λ n. Some (Number n.0))
    else Some (Word piece)

-- the pieces of a text between its separators
abbrev pub pieces_of : List ℕ → List (List ℕ)
pieces_of text = slice_split is_separator text

-- a segment for each piece
unfoldable pub segments : List (List ℕ) → Option (List Segment)
segments [] = Some []
segments (piece ∷ pieces) = segment piece >>= λ s. segments pieces >>= λ ss. Some (s ∷ ss)

-- the local part, which is the text's end: its mark, and segments with one separator between each two
unfoldable pub local : List ℕ → Option (List Segment)
local [] = Some []
local (b ∷ rest) = if b == plus then segments (pieces_of rest) else None

-- ---- the whole text

-- the fields that a text in lower case spells, part by part from the front
unfoldable pub fields_of : List ℕ → Option Fields
fields_of text =
    epoch (after_optional (λ b. b == letter_v) text) >>= λ e.
    release e.1 >>= λ r.
    pre r.1 >>= λ p.
    post p.1 >>= λ q.
    dev q.1 >>= λ d.
    local d.1 >>= λ l.
    Some (record { epoch = e.0; release = r.0; pre = p.0; post = q.0; dev = d.0; local = l })

-- the fields that a text says, after white space at both ends is dropped and letters are made lower case
unfoldable pub version_of : List ℕ → Option Fields
version_of text = fields_of (lowercase_text (before_white (after_white text)))
