-- What holds of the texts of specifiers and the clauses that they spell.
use Rattle.std.specs.Prelude.{◌≡◌, ◌↔◌, ℕ, All, List, Some}
use Rattle.ul_specifier.specs.Clauses.{ClauseFields, IsClause, IsSpelled}
use Rattle.ul_specifier.specs.Grammar.{Spells, SpellsClause}
use Rattle.ul_specifier.specs.Reading.{clause_with, specifiers_of}
use Rattle.ul_specifier.specs.declared.clause.Op.{Op}

-- a text is read as what the grammar spells it as
pub record ReadingIsGrammar : Type 0 where
  pub list : (text : List ℕ) (cs : List ClauseFields) → (specifiers_of text ≡ Some cs) ↔ Spells text cs
  pub one : (op : Op) (text : List ℕ) (c : ClauseFields) → (clause_with op text ≡ Some c) ↔ SpellsClause op text c

-- a text spells one list, and one clause after an operator, at most
pub record SpelledOnce : Type 0 where
  pub list : (text : List ℕ) (cs ds : List ClauseFields) → Spells text cs → Spells text ds → cs ≡ ds
  pub one : (op : Op) (text : List ℕ) (c d : ClauseFields) → SpellsClause op text c → SpellsClause op text d → c ≡ d

-- every clause but an exclusion, and every list of such clauses, is read from some text
pub record EveryClauseIsRead : Type 0 where
  pub one : (c : ClauseFields) → IsClause c → IsSpelled c → (text : List ℕ) × (clause_with c.op text ≡ Some c)
  pub list : (cs : List ClauseFields) → All IsClause cs → All IsSpelled cs → (text : List ℕ) × (specifiers_of text ≡ Some cs)
