-- What holds of all texts of markers and their formulas, in each dialect.
use Rattle.std.specs.Prelude.{◌≡◌, ◌↔◌, ℕ, ◌++◌, Bool, false, not, List, [], ◌∷◌, Option, Some, None}
use Rattle.ul_version.specs.Reading.{is_white}
use Rattle.ul_specifier.specs.Reading.{trimmed_text}
use Rattle.ul_specifier.specs.declared.clause.Op.{Op}
use Rattle.ul_specifier.specs.declared.clause.Op.TheVariants.{Equal, Unequal, AtLeast, AtMost, More, Less}
use Rattle.ul_marker.specs.Comparisons.{mirror_sign}
use Rattle.ul_comparison.specs.Formulas.{Formula, IsFormula, formulas_of}
use Rattle.ul_marker.specs.Grammar.{Spells}
use Rattle.ul_marker.specs.Parts.{asks_extra, asks_extras}
use Rattle.ul_marker.specs.Reading.{formula_of, join, locked_marker_of, marker_of, printed_marker_of}
use Rattle.ul_comparison.specs.Truth.{marker_holds}
use Rattle.ul_marker.specs.Words.{dialect_tokens}
use Rattle.ul_comparison.specs.Worlds.{WorldFields}
use Rattle.ul_marker.specs.declared.reading.Chain.{Chain}
use Rattle.ul_comparison.specs.declared.variable.Variable.{Variable}
use Rattle.ul_marker.specs.declared.words.Dialect.{Dialect}
use Rattle.ul_marker.specs.declared.words.Token.{Token}
use Rattle.ul_marker.specs.declared.words.Token.TheVariants.{In, Not, Extra, Named, Sign, Literal}

-- ---- reading

-- a text is read as a formula exactly where the grammar spells it so
abbrev pub ReadingIsGrammar : Type 0
ReadingIsGrammar = (dialect : Dialect) (input : List ℕ) (f : Formula) → (formula_of dialect input ≡ Some f) ↔ Spells dialect input f

-- a text spells one formula at most
abbrev pub SpelledOnce : Type 0
SpelledOnce = (dialect : Dialect) (input : List ℕ) (f g : Formula) → Spells dialect input f → Spells dialect input g → f ≡ g

-- what is read is a formula
abbrev pub ReadIsFormula : Type 0
ReadIsFormula = (dialect : Dialect) (input : List ℕ) (f : Formula) → formula_of dialect input ≡ Some f → IsFormula f

-- of what is printed a document reads what has no comparison with `extras`, and a lock what has none with `extra`
pub record DialectsAgree : Type 0 where
  pub document : (input : List ℕ) (f : Formula) → (marker_of input ≡ Some f) ↔ ((printed_marker_of input ≡ Some f) × (asks_extras f ≡ false))
  pub lock : (input : List ℕ) (f : Formula) → (locked_marker_of input ≡ Some f) ↔ ((printed_marker_of input ≡ Some f) × (asks_extra f ≡ false))

-- ---- comparisons

-- a text that has these tokens
abbrev pub HasTokens : Dialect → List ℕ → List Token → Type 0
HasTokens dialect input tokens = dialect_tokens dialect (trimmed_text is_white input) ≡ Some tokens

-- the token of a variable, or of `extra`
abbrev pub subject : Option Variable → Token
subject None = Extra
subject (Some variable) = Named variable

-- a literal, a sign and a variable read as the variable, the mirrored sign and the literal
abbrev pub MirroredIsSame : Type 0
MirroredIsSame = (dialect : Dialect) (input other : List ℕ) (variable : Option Variable) (literal : List ℕ) (op sign : Op) → mirror_sign op ≡ Some sign
    → HasTokens dialect input (Literal literal ∷ Sign op ∷ subject variable ∷ []) → HasTokens dialect other (subject variable ∷ Sign sign ∷ Literal literal ∷ [])
    → formula_of dialect input ≡ formula_of dialect other

-- two readings, of which neither is there, or both are and the one is true exactly where the other isn't
abbrev pub AreOpposed : Option Formula → Option Formula → Type 0
AreOpposed None None = Unit {0}
AreOpposed None (Some g) = ⊥
AreOpposed (Some f) None = ⊥
AreOpposed (Some f) (Some g) = (w : WorldFields) (x : List ℕ) → marker_holds g w x ≡ not (marker_holds f w x)

-- a variable and a literal with one relation between them, and with another, have opposed readings
abbrev pub RelationsOppose : List Token → List Token → Type 0
RelationsOppose one two = (dialect : Dialect) (input other : List ℕ) (variable : Option Variable) (literal : List ℕ)
    → HasTokens dialect input (subject variable ∷ (one ++ (Literal literal ∷ []))) → HasTokens dialect other (subject variable ∷ (two ++ (Literal literal ∷ [])))
    → AreOpposed (formula_of dialect input) (formula_of dialect other)

-- the negated relations
pub record NegatedRelations : Type 0 where
  pub unequal : RelationsOppose (Sign Equal ∷ []) (Sign Unequal ∷ [])
  pub at_least : RelationsOppose (Sign Less ∷ []) (Sign AtLeast ∷ [])
  pub more : RelationsOppose (Sign AtMost ∷ []) (Sign More ∷ [])
  pub not_in : RelationsOppose (In ∷ []) (Not ∷ In ∷ [])

-- a literal `not in` a variable is the negation of the literal `in` it
abbrev pub NotInIsNegation : Type 0
NotInIsNegation = (dialect : Dialect) (input other : List ℕ) (variable : Option Variable) (literal : List ℕ)
    → HasTokens dialect input (Literal literal ∷ In ∷ subject variable ∷ []) → HasTokens dialect other (Literal literal ∷ Not ∷ In ∷ subject variable ∷ [])
    → AreOpposed (formula_of dialect input) (formula_of dialect other)

-- ---- `and` and `or`

-- the truth of formulas joined by `and` or by `or`
abbrev pub holds_joined : Chain → List Formula → WorldFields → List ℕ → Bool
holds_joined chain fs w x = marker_holds (join chain (formulas_of fs)) w x

-- joined formulas within joined formulas are as if they stood there alone
abbrev pub GroupingIsFree : Type 0
GroupingIsFree = (chain : Chain) (before inner after : List Formula) (w : WorldFields) (x : List ℕ)
    → holds_joined chain (before ++ (join chain (formulas_of inner) ∷ after)) w x ≡ holds_joined chain (before ++ (inner ++ after)) w x

-- neighbours may change places
abbrev pub OrderIsFree : Type 0
OrderIsFree = (chain : Chain) (before after : List Formula) (f g : Formula) (w : WorldFields) (x : List ℕ)
    → holds_joined chain (before ++ (f ∷ g ∷ after)) w x ≡ holds_joined chain (before ++ (g ∷ f ∷ after)) w x
