-- The main theorem of diagrams. That the tree of each operation's result is the defined one stands in the operation's own contract.
use Rattle.std.specs.Prelude.{◌≡◌, ◌↔◌, ℕ}
use Rattle.ul_interner.specs.Known.{Held, Knows}
use Rattle.ul_interner.specs.Logs.{AreSeen}
use Rattle.ul_interner.specs.Marked.{Marked, id_of}
use Rattle.ul_nodes.specs.Reduced.{IsReduced}
use Rattle.ul_tree.specs.Simplify.{Simplifies}
use Rattle.ul_algebra.specs.declared.labels.DiagramLabel.{DiagramLabel}
use Rattle.ul_algebra.specs.declared.questions.Joining.{Joining}
use Rattle.ul_algebra.specs.Answers.{IsDiagram}
use Rattle.ul_algebra.specs.Hashes.{label_hash}
use Rattle.ul_algebra.specs.Joinings.{truth_of, IsJoin}
use Rattle.ul_algebra.specs.Spelled.{tree_of}
use Rattle.ul_algebra.specs.Truths.{HaveOneTruth, HoldsJoined}

-- h is what a pass of the interner knows
pub record DiagramPromises : Type 0 where
  -- of diagrams that are known to a pass, two have one identity exactly where they have one truth
  pub one_identity : (shards : ℕ) (h : Held DiagramLabel) (a b : Marked DiagramLabel) → AreSeen label_hash shards h.logs → IsDiagram h a → IsDiagram h b
      → (id_of a ≡ id_of b) ↔ HaveOneTruth a b
  -- and exactly where they have one tree
  pub one_tree : (shards : ℕ) (h : Held DiagramLabel) (a b : Marked DiagramLabel) → AreSeen label_hash shards h.logs → IsDiagram h a → IsDiagram h b
      → (id_of a ≡ id_of b) ↔ (tree_of a ≡ tree_of b)
  -- passes only learn, and a diagram stays one where more is known
  pub stays : (g h : Held DiagramLabel) (d : Marked DiagramLabel) → Knows g h → IsDiagram g d → IsDiagram h d
  -- two diagrams have one join: its tree is reduced, and has the joined truth
  pub one_join : (op : Joining) (a b d e : Marked DiagramLabel) → IsJoin op a b d → IsJoin op a b e → tree_of d ≡ tree_of e
  pub join_reduced : (op : Joining) (a b d : Marked DiagramLabel) → IsReduced (tree_of a) → IsReduced (tree_of b) → IsJoin op a b d → IsReduced (tree_of d)
  pub join_truth : (op : Joining) (a b d : Marked DiagramLabel) → IsReduced (tree_of a) → IsReduced (tree_of b) → IsJoin op a b d → HoldsJoined (truth_of op) a b d
  -- a diagram becomes one tree under a region, by the rule
  pub one_result : (f c s t : Marked DiagramLabel) → Simplifies (tree_of f) (tree_of c) (tree_of s) → Simplifies (tree_of f) (tree_of c) (tree_of t) → tree_of s ≡ tree_of t
