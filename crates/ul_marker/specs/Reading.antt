-- The texts of markers (PEP 508, "Environment Markers"):
--     marker      = conjunction *("or" conjunction)
--     conjunction = atom *("and" atom)
--     atom        = "(" marker ")" | comparison
-- Parentheses nest at most 64 deep.
use Rattle.std.specs.Prelude.{ℕ, zero, suc, ◌-◌, ◌==◌, ◌&&◌, Bool, true, false, List, [], ◌∷◌, Option, Some, None, if◌then◌else◌}
use Rattle.std.specs.Option.{option_map_or}
use Rattle.ul_version.specs.Reading.{◌>>=◌, is_white}
use Rattle.ul_specifier.specs.Reading.{trimmed_text}
use Rattle.ul_marker.specs.Comparisons.{comparison_of}
use Rattle.ul_comparison.specs.Formulas.{Formula, Formulas, all, any, formulas_of}
use Rattle.ul_marker.specs.Words.{dialect_tokens}
use Rattle.ul_marker.specs.declared.reading.Chain.{Chain}
use Rattle.ul_marker.specs.declared.reading.Chain.TheVariants.{Conjunction, Disjunction}
use Rattle.ul_marker.specs.declared.words.Dialect.{Dialect}
use Rattle.ul_marker.specs.declared.words.Dialect.TheVariants.{Document, Lock, Printed}
use Rattle.ul_marker.specs.declared.words.Token.{Token}
use Rattle.ul_marker.specs.declared.words.Token.TheVariants.{Open, Close, And, Or}

-- ---- pieces between `or`s or `and`s

-- the token between two pieces
abbrev pub joiner : Chain → Token
joiner Conjunction = And
joiner Disjunction = Or

-- whether a token stands between two pieces
abbrev pub joins : Chain → Token → Bool
joins Conjunction And = true
joins Conjunction other = false
joins Disjunction Or = true
joins Disjunction other = false

-- how many parentheses are open after a token
abbrev pub open_count : Token → ℕ → ℕ
open_count Open n = suc n
open_count Close n = n - 1
open_count other n = n

-- a token before the first piece
abbrev pub onto_first : Token → List (List Token) → List (List Token)
onto_first t [] = (t ∷ []) ∷ []
onto_first t (piece ∷ pieces) = (t ∷ piece) ∷ pieces

-- whether a token stands between two pieces, where so many parentheses are open
abbrev pub cuts : Chain → ℕ → Token → Bool
cuts chain n t = n == 0 && joins chain t

-- the pieces between the joining tokens that stand in no parentheses, where so many are open
unfoldable pub pieces_from : Chain → ℕ → List Token → List (List Token)
pieces_from chain n [] = [] ∷ []
pieces_from chain n (t ∷ ts) =
    if cuts chain n t then [] ∷ pieces_from chain 0 ts else onto_first t (pieces_from chain (open_count t n) ts)

-- ---- markers

-- a formula for each piece
unfoldable pub each : (List Token → Option Formula) → List (List Token) → Option (List Formula)
each read [] = Some []
each read (piece ∷ pieces) = read piece >>= λ f. each read pieces >>= λ fs. Some (f ∷ fs)

-- formulas joined by `and` or by `or`
abbrev pub join : Chain → Formulas → Formula
join Conjunction = all
join Disjunction = any

-- one formula is itself, two or more are joined
abbrev pub chain_formula : Chain → List Formula → Formula
chain_formula chain [] = join chain (formulas_of [])
chain_formula chain (f ∷ []) = f
chain_formula chain (f ∷ g ∷ fs) = join chain (formulas_of (f ∷ g ∷ fs))

-- the formula of pieces that are read in one way
unfoldable pub chain_with : Chain → (List Token → Option Formula) → List Token → Option Formula
chain_with chain read tokens = each read (pieces_from chain 0 tokens) >>= λ fs. Some (chain_formula chain fs)

-- `(`
abbrev pub is_open : Token → Bool
is_open Open = true
is_open other = false

-- `)`
abbrev pub is_close : Token → Bool
is_close Close = true
is_close other = false

-- the tokens before the last, which is a parenthesis
unfoldable pub before_close : List Token → Option (List Token)
before_close [] = None
before_close (t ∷ []) = if is_close t then Some [] else None
before_close (t ∷ u ∷ ts) = before_close (u ∷ ts) >>= λ inner. Some (t ∷ inner)

-- the tokens between a parenthesis in front and one at the end
unfoldable pub inner_tokens : List Token → Option (List Token)
inner_tokens [] = None
inner_tokens (t ∷ ts) = if is_open t then before_close ts else None

-- an atom: a marker in parentheses, or a comparison
abbrev pub atom_with : (List Token → Option Formula) → List Token → Option Formula
atom_with inside tokens = option_map_or inside (inner_tokens tokens) (comparison_of tokens)

-- an atom whose parentheses nest so deep at most
unfoldable pub atom_at : ℕ → List Token → Option Formula
atom_at zero tokens = atom_with (λ inner. None) tokens
atom_at (suc depth) tokens = atom_with (chain_with Disjunction (chain_with Conjunction (atom_at depth))) tokens

-- an atom of a conjunction, or a conjunction of a marker, whose parentheses nest so deep at most
unfoldable pub part_at : Chain → ℕ → List Token → Option Formula
part_at Conjunction depth tokens = atom_at depth tokens
part_at Disjunction depth tokens = chain_with Conjunction (atom_at depth) tokens

-- a conjunction or a marker whose parentheses nest so deep at most
unfoldable pub chain_at : Chain → ℕ → List Token → Option Formula
chain_at chain depth tokens = chain_with chain (part_at chain depth) tokens

-- the formula that tokens spell, where there are any
abbrev pub marker_in : Option (List Token) → Option Formula
marker_in tokens = tokens >>= λ ts. chain_at Disjunction 64 ts

-- the formula that a text spells in a dialect
abbrev pub formula_of : Dialect → List ℕ → Option Formula
formula_of dialect text = marker_in (dialect_tokens dialect (trimmed_text is_white text))

-- the formula that a text spells in a document, as PEP 508 says
unfoldable pub marker_of : List ℕ → Option Formula
marker_of text = formula_of Document text

-- the formula that a text spells in a lock, where `extras` stands in place of `extra` (PEP 751)
unfoldable pub locked_marker_of : List ℕ → Option Formula
locked_marker_of text = formula_of Lock text

-- the formula that a printed text spells, which may have both
unfoldable pub printed_marker_of : List ℕ → Option Formula
printed_marker_of text = formula_of Printed text
