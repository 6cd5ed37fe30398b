-- The joined truth of a marker's parts.
use Rattle.std.specs.Prelude.{ℕ, List, Bool, true, false}
use Rattle.ul_comparison.specs.Formulas.{Formulas}
use Rattle.ul_comparison.specs.Truth.{all_hold, any_holds}
use Rattle.ul_comparison.specs.Worlds.{WorldFields}
use Rattle.ul_nodes.specs.Apply.{both, either}

-- whether all parts hold, or some part does
abbrev pub parts_hold : Bool → Formulas → WorldFields → List ℕ → Bool
parts_hold true fs = all_hold fs
parts_hold false fs = any_holds fs

-- how the truths of two are joined, for all parts or for some
abbrev pub joining_of : Bool → Bool → Bool → Bool
joining_of true = both
joining_of false = either
