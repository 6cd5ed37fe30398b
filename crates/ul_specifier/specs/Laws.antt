-- What holds of all clauses and versions.
use Rattle.std.specs.Prelude.{◌≡◌, ◌&&◌, ◌||◌, ℕ, All, List, Bool, true, false, not, Some}
use Rattle.ul_version.specs.Fields.{Fields, is_pre_of, is_post_of, plain}
use Rattle.ul_specifier.specs.Clauses.{ClauseFields, IsClause, IsSpelled, has_local}
use Rattle.ul_specifier.specs.Meaning.{lower_list, meets_clause, meets_list, series}
use Rattle.ul_specifier.specs.Reading.{clause_with, specifiers_of}
use Rattle.ul_specifier.specs.declared.clause.Op.{Op}
use Rattle.ul_specifier.specs.declared.clause.Op.TheVariants.{Equal, Unequal, AtLeast, AtMost, More, Less, Compatible, Distinct}

-- whether c meets the clause of an operator and V, with and without `.*`
abbrev pub meets_with : Op → Fields → Bool → Fields → Bool
meets_with op V prefix c = meets_clause (record { op = op; version = V; prefix = prefix }) c

-- `!=V` is met where `==V` isn't, with and without `.*`
abbrev pub UnequalIsNegation : Type 0
UnequalIsNegation = (V c : Fields) (prefix : Bool) → meets_with Unequal V prefix c ≡ not (meets_with Equal V prefix c)

-- the exclusion of V is met by what `==V` isn't met by, and where V has no local part by each version that has one
abbrev pub DistinctIsOther : Type 0
DistinctIsOther =
    (V c : Fields) (prefix : Bool) → meets_with Distinct V prefix c ≡ (not (meets_with Equal V false c) || (has_local c && not (has_local V)))

-- `~=V` is `>=V` and `==P.*`, where P is V's epoch and V's release without its last number
abbrev pub CompatibleIsTwoParts : Type 0
CompatibleIsTwoParts = (V c : Fields) → meets_with Compatible V false c ≡ (meets_with AtLeast V false c && meets_with Equal (series V) true c)

-- of the versions that are no pre-releases and have no local part, those that don't meet `>=V` meet `<V`
abbrev pub LessIsNegation : Type 0
LessIsNegation = (V c : Fields) → is_pre_of c ≡ false → has_local c ≡ false → meets_with Less V false c ≡ not (meets_with AtLeast V false c)

-- of the versions that are no post-releases and have no local part, those that don't meet `<=V` meet `>V`
abbrev pub MoreIsNegation : Type 0
MoreIsNegation = (V c : Fields) → is_post_of c ≡ false → has_local c ≡ false → meets_with More V false c ≡ not (meets_with AtMost V false c)

-- each version with a release alone that meets the one list meets the other
abbrev pub IsWeaker : List ClauseFields → List ClauseFields → Type 0
IsWeaker clauses weaker = (release : List ℕ) → meets_list clauses (plain release) ≡ true → meets_list weaker (plain release) ≡ true

-- a list's lower bounds ask for no more than the list
abbrev pub LowerIsWeaker : Type 0
LowerIsWeaker = (clauses : List ClauseFields) → All IsClause clauses → IsWeaker clauses (lower_list clauses)

-- lower bounds are their own lower bounds
abbrev pub LowerIsSettled : Type 0
LowerIsSettled = (clauses : List ClauseFields) → lower_list (lower_list clauses) ≡ lower_list clauses

-- what is read are clauses, and no exclusions
pub record ReadsClauses : Type 0 where
  pub one : (op : Op) (text : List ℕ) (c : ClauseFields) → clause_with op text ≡ Some c → IsClause c × IsSpelled c
  pub list : (text : List ℕ) (clauses : List ClauseFields) → specifiers_of text ≡ Some clauses → All IsClause clauses × All IsSpelled clauses
