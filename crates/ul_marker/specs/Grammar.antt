-- The grammar of markers as a relation between tokens and the formula that they spell (PEP 508, "Environment
-- Markers"). Each definition is one rule of the grammar.
use Rattle.std.specs.Prelude.{◌≡◌, ℕ, zero, suc, true, false, List, [], ◌∷◌, ◌++◌, Some}
use Rattle.ul_version.specs.Reading.{is_white}
use Rattle.ul_specifier.specs.Reading.{trimmed_text}
use Rattle.ul_specifier.specs.declared.clause.Op.{Op}
use Rattle.ul_marker.specs.Comparisons.{containment, mirror_sign, sign_formula, within}
use Rattle.ul_comparison.specs.Formulas.{Formula}
use Rattle.ul_marker.specs.Reading.{chain_formula}
use Rattle.ul_marker.specs.Words.{dialect_tokens}
use Rattle.ul_marker.specs.declared.reading.Chain.{Chain}
use Rattle.ul_marker.specs.declared.reading.Chain.TheVariants.{Conjunction, Disjunction}
use Rattle.ul_marker.specs.declared.words.Dialect.{Dialect}
use Rattle.ul_marker.specs.declared.words.Token.{Token}
use Rattle.ul_marker.specs.declared.words.Token.TheVariants.{Open, Close, And, Or, In, Not, Sign, Literal}

-- comparison = side sign side | side "in" side | side "not" "in" side, with one variable and one literal
pub data IsComparison (tokens : List Token) (f : Formula) : Type 0 where
  variable_sign : (variable : Token) (op : Op) (literal : List ℕ) → tokens ≡ variable ∷ Sign op ∷ Literal literal ∷ []
      → sign_formula variable op literal ≡ Some f → IsComparison tokens f
  literal_sign : (literal : List ℕ) (op sign : Op) (variable : Token) → tokens ≡ Literal literal ∷ Sign op ∷ variable ∷ []
      → mirror_sign op ≡ Some sign → sign_formula variable sign literal ≡ Some f → IsComparison tokens f
  variable_in : (variable : Token) (literal : List ℕ) → tokens ≡ variable ∷ In ∷ Literal literal ∷ []
      → within true variable literal ≡ Some f → IsComparison tokens f
  literal_in : (literal : List ℕ) (variable : Token) → tokens ≡ Literal literal ∷ In ∷ variable ∷ []
      → containment true variable literal ≡ Some f → IsComparison tokens f
  variable_not_in : (variable : Token) (literal : List ℕ) → tokens ≡ variable ∷ Not ∷ In ∷ Literal literal ∷ []
      → within false variable literal ≡ Some f → IsComparison tokens f
  literal_not_in : (literal : List ℕ) (variable : Token) → tokens ≡ Literal literal ∷ Not ∷ In ∷ variable ∷ []
      → containment false variable literal ≡ Some f → IsComparison tokens f

-- atom = "(" marker ")" | comparison
pub data IsAtomOf (Inside : List Token → Formula → Type 0) (tokens : List Token) (f : Formula) : Type 0 where
  parenthesized : (inner : List Token) → tokens ≡ Open ∷ (inner ++ (Close ∷ [])) → Inside inner f → IsAtomOf Inside tokens f
  comparison : IsComparison tokens f → IsAtomOf Inside tokens f

-- part *(joiner part), with a formula for each part
abbrev pub AreJoined : (List Token → Formula → Type 0) → Token → List Token → List Formula → Type 0
AreJoined Part between tokens [] = ⊥
AreJoined Part between tokens (f ∷ []) = Part tokens f
AreJoined Part between tokens (f ∷ g ∷ fs) =
    (piece rest : List Token) × Part piece f × AreJoined Part between rest (g ∷ fs) × (tokens ≡ piece ++ (between ∷ rest))

-- the formula of the parts, which is the part's own where it is one
abbrev pub IsChain : Chain → (List Token → Formula → Type 0) → Token → List Token → Formula → Type 0
IsChain chain Part between tokens f = (fs : List Formula) × AreJoined Part between tokens fs × (f ≡ chain_formula chain fs)

-- conjunction = atom *("and" atom)
abbrev pub IsConjunction : (List Token → Formula → Type 0) → List Token → Formula → Type 0
IsConjunction Inside = IsChain Conjunction (IsAtomOf Inside) And

-- marker = conjunction *("or" conjunction)
abbrev pub IsDisjunction : (List Token → Formula → Type 0) → List Token → Formula → Type 0
IsDisjunction Inside = IsChain Disjunction (IsConjunction Inside) Or

-- a marker whose parentheses nest so deep at most
unfoldable pub IsMarker : ℕ → List Token → Formula → Type 0
IsMarker zero = IsDisjunction (λ inner f. ⊥)
IsMarker (suc depth) = IsDisjunction (IsMarker depth)

-- a text spells a formula in a dialect
abbrev pub Spells : Dialect → List ℕ → Formula → Type 0
Spells dialect text f = (tokens : List Token) × (dialect_tokens dialect (trimmed_text is_white text) ≡ Some tokens) × IsMarker 64 tokens f
