-- Regions that are simplified.
use Rattle.ul_tree.specs.Simplify.{Simplifies}
use Rattle.ul_algebra.specs.Answers.{IsDiagram}
use Rattle.ul_algebra.specs.Spelled.{tree_of}
use Rattle.ul_lock.specs.Region.{IsRegion as IsLineRegion}
use Rattle.ul_region.specs.Truths.{PassView, DiagramMark, IsRegion}
use Rattle.ul_sound.proofs.ForCallers.{simplified_region}
use Rattle.ul_merge.specs.Unions.{MeetSomewhere}

-- a simplified diagram's tree is a region's
pub simpler_region : (h : PassView) (f s m : DiagramMark) → IsRegion h f → IsDiagram h s → Simplifies (tree_of f) (tree_of s) (tree_of m) → MeetSomewhere f s → IsLineRegion (tree_of m)
simpler_region h f s m r d k meet = simplified_region (tree_of f) (tree_of s) (tree_of m) r.truth d.reduced k meet.0 meet.1 meet.2
