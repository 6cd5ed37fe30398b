-- The main theorem: canonical texts are right and tell markers apart.
use Rattle.std.specs.Prelude.{◌≡◌, ◌↔◌, ℕ, List, map, length, slice_get, Some, Ok}
use Rattle.ul_comparison.specs.Formulas.{Formula}
use Rattle.ul_lines.specs.Lines.{lines_of}
use Rattle.ul_canonical.specs.Answers.{IsCanonical}
use Rattle.ul_canonical.specs.Lines.{formula_of_line}
use Rattle.ul_canonical.specs.Says.{HaveOneTruth, IsLineOf}

-- lines are those of formulas: one for each, which says what it says, and two lines are equal exactly where their
-- formulas are true in the same worlds
pub record AreLinesOf (fs : List Formula) (lines : List (List ℕ)) : Type 0 where
  pub count : length lines ≡ length fs
  pub say : (k : ℕ) (f : Formula) (line : List ℕ) → slice_get fs k ≡ Some f → slice_get lines k ≡ Some line
      → IsLineOf f line
  pub equal : (i k : ℕ) (f g : Formula) (one other : List ℕ) → slice_get fs i ≡ Some f → slice_get lines i ≡ Some one
      → slice_get fs k ≡ Some g → slice_get lines k ≡ Some other → (one ≡ other) ↔ HaveOneTruth f g

-- each line of the file says something, and the printed lines are those of what they say
pub record IsCanonicalText (bytes text : List ℕ) : Type 0 where
  pub formulas : List Formula
  pub said : map formula_of_line (lines_of bytes) ≡ map (λ f. Some f) formulas
  pub printed : AreLinesOf formulas (lines_of text)

-- what is printed of a file of markers is such a text
abbrev pub CanonicalMarkers : Type 0
CanonicalMarkers = (bytes text : List ℕ) → IsCanonical bytes (Ok text) → IsCanonicalText bytes text
