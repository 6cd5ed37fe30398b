-- The trees of formulas as diagrams.
use Rattle.std.specs.Prelude.{List, All, map}
use Rattle.ul_algebra.specs.Answers.{IsDiagram}
use Rattle.ul_algebra.specs.Spelled.{tree_of}
use Rattle.ul_comparison.specs.Formulas.{Formula}
use Rattle.ul_region.specs.Truths.{DiagramMark, PassView}
use Rattle.ul_canonical.specs.Trees.{AreTreesOf}

-- each diagram is known, and its tree is that of the formula at its place
pub record AreDiagramsOf (h : PassView) (fs : List Formula) (ms : List DiagramMark) : Type 0 where
  pub known : All (IsDiagram h) ms
  pub trees : AreTreesOf fs (map tree_of ms)
