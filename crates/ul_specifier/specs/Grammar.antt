-- The grammar of version specifiers as a relation between a text and the clauses that it spells (PEP 440, "Version
-- specifiers"). Each definition is one rule of the grammar.
use Rattle.std.specs.Prelude.{◌≡◌, ℕ, Bool, true, false, List, [], ◌∷◌, ◌++◌, codes, Some, ◌⊎◌}
use Rattle.std.specs.List.{list_all}
use Rattle.ul_version.specs.Fields.{Fields}
use Rattle.ul_version.specs.Reading.{is_white, version_of}
use Rattle.ul_specifier.specs.Clauses.{ClauseFields, is_bare}
use Rattle.ul_specifier.specs.Reading.{is_blank, is_version_byte, may_stand, star_of, trimmed_text}
use Rattle.ul_specifier.specs.declared.clause.Op.{Op}
use Rattle.ul_specifier.specs.declared.clause.Op.TheVariants.{Equal, Unequal, AtLeast, AtMost, More, Less, Compatible, Distinct}

-- operator = "==" | "!=" | ">=" | "<=" | ">" | "<" | "~=". An exclusion has none, and no operand stands with it.
abbrev pub operator_text : Op → List ℕ
operator_text Equal = codes "=="
operator_text Unequal = codes "!="
operator_text AtLeast = codes ">="
operator_text AtMost = codes "<="
operator_text More = codes ">"
operator_text Less = codes "<"
operator_text Compatible = codes "~="
operator_text Distinct = []

-- the text ends in `.*`
abbrev pub EndsInStar : List ℕ → Type 0
EndsInStar text = (front : List ℕ) × (text ≡ front ++ codes ".*")

-- operand = version [".*"]: what stands after an operator. `.*` at the end is never the version's own.
pub data IsOperand (op : Op) (text : List ℕ) (c : ClauseFields) : Type 0 where
  version_alone : (V : Fields) → (EndsInStar text → ⊥) → version_of text ≡ Some V → may_stand op V ≡ true
      → c ≡ record { op = op; version = V; prefix = false } → IsOperand op text c
  version_and_star : (front : List ℕ) (V : Fields) (prefix : Bool) → text ≡ front ++ codes ".*" → version_of front ≡ Some V → is_bare V ≡ true
      → star_of op ≡ Some prefix → c ≡ record { op = op; version = V; prefix = prefix } → IsOperand op text c

-- an operand that is a run of bytes of a version's text
abbrev pub IsRunOperand : Op → List ℕ → ClauseFields → Type 0
IsRunOperand op text c = (list_all is_version_byte text ≡ true) × IsOperand op text c

-- clause = operator blanks operand
abbrev pub IsOneClause : List ℕ → ClauseFields → Type 0
IsOneClause text c =
    (blanks operand : List ℕ) × (list_all is_blank blanks ≡ true) × IsRunOperand c.op operand c × (text ≡ operator_text c.op ++ (blanks ++ operand))

-- a clause with blanks around it
abbrev pub IsPiece : List ℕ → ClauseFields → Type 0
IsPiece text c = IsOneClause (trimmed_text is_blank text) c

-- list = [clause *("," clause) [","]]
abbrev pub AreClauses : List ℕ → List ClauseFields → Type 0
AreClauses text [] = text ≡ []
AreClauses text (c ∷ []) = IsPiece text c ⊎ ((piece : List ℕ) × IsPiece piece c × (text ≡ piece ++ codes ","))
AreClauses text (c ∷ d ∷ cs) = (piece rest : List ℕ) × IsPiece piece c × AreClauses rest (d ∷ cs) × (text ≡ piece ++ (codes "," ++ rest))

-- a text spells clauses
abbrev pub Spells : List ℕ → List ClauseFields → Type 0
Spells text cs = AreClauses (trimmed_text is_white text) cs

-- a text spells a clause after an operator
abbrev pub SpellsClause : Op → List ℕ → ClauseFields → Type 0
SpellsClause op text c = IsRunOperand op (trimmed_text is_white text) c
