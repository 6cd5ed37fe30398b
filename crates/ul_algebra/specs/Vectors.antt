-- Worked examples of diagrams' trees and of labels' hashes.
use Rattle.std.specs.Prelude.{◌≡◌, [], ◌∷◌, true, false}
use Rattle.ul_nodes.specs.Levels.{extra_level, python_level}
use Rattle.ul_nodes.specs.Plain.{truth, node, done, branch}
use Rattle.ul_nodes.specs.Closing.{shapeless}
use Rattle.ul_algebra.specs.declared.labels.DiagramLabel.TheVariants.{Truth, Extra, Python}
use Rattle.ul_algebra.specs.Hashes.{label_hash}
use Rattle.ul_algebra.specs.Spelled.{spelling}

-- what nodes spell, and what labels hash to
pub record DiagramVectors : Type 0 where
  -- a truth has no parts
  pub truth_alone : spelling (Truth true) [] ≡ truth true
  pub truth_with_part : spelling (Truth true) (truth false ∷ []) ≡ shapeless
  -- the part of the one point, and then the other part
  pub one_point : spelling (Extra ((100 ∷ []) ∷ [])) (truth true ∷ truth false ∷ []) ≡ node extra_level (truth false) (branch (100 ∷ []) (truth true) done)
  -- the first piece is the part without a key
  pub two_pieces : spelling (Python (0 ∷ 7 ∷ [])) (truth false ∷ truth true ∷ []) ≡ node python_level (truth false) (branch (7 ∷ []) (truth true) done)
  -- truths hash to 0 and 1
  pub hash_of_false : label_hash (Truth false) ≡ 0
  -- the empty extra and `dev`
  pub hash_of_extras : label_hash (Extra ([] ∷ (100 ∷ 101 ∷ 118 ∷ []) ∷ [])) ≡ 1751724004408627574
  -- the pieces that begin at 0 and at 3.8.0
  pub hash_of_pieces : label_hash (Python (0 ∷ 55340232255488393216 ∷ [])) ≡ 14308925030579506630
