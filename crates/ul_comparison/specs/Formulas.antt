-- A marker as plain data: a formula of comparisons (PEP 508, "Environment Markers").
use Rattle.std.specs.Prelude.{◌≡◌, ℕ, List, [], ◌∷◌, All, Bool, true, Some}
use Rattle.ul_base.specs.Names.{name_of}
use Rattle.ul_version.specs.Fields.{Fields, IsVersion}
use Rattle.ul_specifier.specs.Clauses.{ClauseFields, IsClause}
use Rattle.ul_comparison.specs.Atoms.{AtomFields, IsAtom, is_literal, is_text}
use Rattle.ul_comparison.specs.declared.variable.Variable.{Variable}

-- a comparison of the extra, of the interpreter with a clause or a list of versions (with all three numbers,
-- or major and minor alone), of a text variable, or an opaque one; and formulas joined by `and` and by `or`
mutual
  pub data Formula : Type 0 where
    extra : List ℕ → Bool → Formula
    python : Bool → ClauseFields → Formula
    python_list : Bool → List Fields → Bool → Formula
    text : Variable → List ℕ → Bool → Formula
    opaque : AtomFields → Bool → Formula
    all : Formulas → Formula
    any : Formulas → Formula

  pub data Formulas : Type 0 where
    none : Formulas
    more : Formula → Formulas → Formulas

-- a list of formulas
abbrev pub formulas_of : List Formula → Formulas
formulas_of [] = none
formulas_of (f ∷ fs) = more f (formulas_of fs)

-- a literal beside `extra`: where it is a name, it stands in its normal form (PEP 685)
abbrev pub IsExtraLiteral : List ℕ → Type 0
IsExtraLiteral literal = (is_literal literal ≡ true) × ((name : List ℕ) → name_of literal ≡ Some name → name ≡ literal)

-- a formula that a marker's text can spell, where none of its clauses is an exclusion
abbrev mutual
  pub IsFormula : Formula → Type 0
  IsFormula (extra literal equal) = IsExtraLiteral literal
  IsFormula (python full clause) = IsClause clause
  IsFormula (python_list full versions within) = All IsVersion versions
  IsFormula (text variable literal equal) = (is_text variable ≡ true) × (is_literal literal ≡ true)
  IsFormula (opaque atom positive) = IsAtom atom
  IsFormula (all fs) = AreFormulas fs
  IsFormula (any fs) = AreFormulas fs

  pub AreFormulas : Formulas → Type 0
  AreFormulas none = Unit {0}
  AreFormulas (more f fs) = IsFormula f × AreFormulas fs
