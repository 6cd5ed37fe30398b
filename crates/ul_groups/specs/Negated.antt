-- The negation of a marker, by De Morgan's laws: it is pushed inwards until it stands at comparisons.
use Rattle.std.specs.Prelude.{◌≡◌, ℕ, List, [], ◌∷◌, codes, Bool, true, false, not}
use Rattle.ul_version.specs.Fields.{Fields, plain}
use Rattle.ul_specifier.specs.Meaning.{series}
use Rattle.ul_specifier.specs.declared.clause.Op.{Op}
use Rattle.ul_specifier.specs.declared.clause.Op.TheVariants.{Equal, Unequal, AtLeast, AtMost, More, Less, Compatible, Distinct}
use Rattle.ul_comparison.specs.Formulas.{Formula, extra, python, python_list, text, opaque, all, any, Formulas, none, more}
use Rattle.ul_comparison.specs.Truth.{marker_holds}
use Rattle.ul_comparison.specs.Worlds.{WorldFields}
use Rattle.ul_comparison.specs.declared.variable.Variable.TheVariants.{OsName}

-- an operator and a version as a comparison of the interpreter
abbrev pub compared : Bool → Op → Fields → Bool → Formula
compared full op version prefix = python full (record { op = op; version = version; prefix = prefix })

-- two formulas joined by `or`
abbrev pub either : Formula → Formula → Formula
either f g = any (more f (more g none))

-- an interpreter meets a clause exactly where it doesn't meet this. An interpreter has a release alone, so that `>=` and
-- `<` are opposites, and so are `>` and `<=`; `~=V` asks for `>=V` and for V's series; and any version but V is one that
-- isn't `==V`
abbrev pub negated_clause : Bool → Op → Fields → Bool → Formula
negated_clause full Equal V prefix = compared full Unequal V prefix
negated_clause full Unequal V prefix = compared full Equal V prefix
negated_clause full AtLeast V prefix = compared full Less V prefix
negated_clause full AtMost V prefix = compared full More V prefix
negated_clause full More V prefix = compared full AtMost V prefix
negated_clause full Less V prefix = compared full AtLeast V prefix
negated_clause full Compatible V prefix = either (compared full Less V false) (compared full Unequal (series V) true)
negated_clause full Distinct V prefix = compared full Equal V false

-- a formula that is true where another isn't
abbrev mutual
  pub negated : Formula → Formula
  negated (extra literal equal) = extra literal (not equal)
  negated (python full clause) = negated_clause full clause.op clause.version clause.prefix
  negated (python_list full versions within) = python_list full versions (not within)
  negated (text variable literal equal) = text variable literal (not equal)
  negated (opaque atom positive) = opaque atom (not positive)
  negated (all fs) = any (each_negated fs)
  negated (any fs) = all (each_negated fs)

  pub each_negated : Formulas → Formulas
  each_negated none = none
  each_negated (more f fs) = more (negated f) (each_negated fs)

-- the law of the definition: a negation is true exactly where the formula isn't
abbrev pub NegationIsNot : Type 0
NegationIsNot = (f : Formula) (w : WorldFields) (x : List ℕ) → marker_holds (negated f) w x ≡ not (marker_holds f w x)

-- os_name == 'a'
abbrev on_a : Formula
on_a = text OsName (codes "a") true

-- os_name != 'a'
abbrev off_a : Formula
off_a = text OsName (codes "a") false

-- a release of two numbers
abbrev two : ℕ → ℕ → Fields
two major minor = plain (major ∷ minor ∷ [])

-- formulas and their negations
pub record Negations : Type 0 where
  pub text : negated on_a ≡ off_a
  pub joined : negated (all (more on_a (more (any (more off_a none)) none)))
      ≡ any (more off_a (more (all (more on_a none)) none))
  pub at_least : negated (compared true AtLeast (two 3 9) false) ≡ compared true Less (two 3 9) false
  pub series : negated (compared false Equal (two 3 9) true) ≡ compared false Unequal (two 3 9) true
  pub compatible : negated (compared true Compatible (two 3 9) false)
      ≡ either (compared true Less (two 3 9) false) (compared true Unequal (plain (3 ∷ [])) true)
  pub distinct : negated (compared true Distinct (two 3 9) false) ≡ compared true Equal (two 3 9) false
