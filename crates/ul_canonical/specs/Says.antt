-- What a text says, and when two formulas are true in the same worlds.
use Rattle.std.specs.Prelude.{◌≡◌, ◌≢◌, ℕ, List, ◌++◌, Bool, true, false, codes, Some}
use Rattle.ul_comparison.specs.Formulas.{Formula}
use Rattle.ul_comparison.specs.Truth.{marker_holds}
use Rattle.ul_comparison.specs.Worlds.{WorldFields, IsWorld}
use Rattle.ul_marker.specs.Reading.{printed_marker_of}
use Rattle.ul_canonical.specs.Trees.{formula_truth}

-- two formulas are true in the same worlds
abbrev pub HaveOneTruth : Formula → Formula → Type 0
HaveOneTruth f g = (w : WorldFields) → IsWorld w → formula_truth f w ≡ formula_truth g w

-- a formula is true, or false, in each world
abbrev pub IsEverywhere : Bool → Formula → Type 0
IsEverywhere b f = (w : WorldFields) → IsWorld w → formula_truth f w ≡ b

-- the text is read as a marker, which has the formula's truth in each world, whatever the extra
pub record ReadsAs (text : List ℕ) (f : Formula) : Type 0 where
  pub formula : Formula
  pub read : printed_marker_of text ≡ Some formula
  pub truth : (w : WorldFields) (x : List ℕ) → IsWorld w → marker_holds formula w x ≡ formula_truth f w

-- the text says what the formula says: `*` that it is true everywhere, `never` that it is true nowhere, and any other
-- text is read as a marker of its truth
pub record Says (f : Formula) (text : List ℕ) : Type 0 where
  pub always : text ≡ codes "*" → IsEverywhere true f
  pub never : text ≡ codes "never" → IsEverywhere false f
  pub marker : text ≢ codes "*" → text ≢ codes "never" → ReadsAs text f

-- a line is a text that says what a formula says, and LF
pub record IsLineOf (f : Formula) (line : List ℕ) : Type 0 where
  pub text : List ℕ
  pub says : Says f text
  pub ended : line ≡ text ++ codes "\n"
