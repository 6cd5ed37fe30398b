-- Diagrams that an algebra knows, and the answers that it keeps.
use Rattle.ul_interner.specs.Marked.{Marked}
use Rattle.std.specs.Prelude.{◌≡◌, Bool, Option, Some}
use Rattle.ul_core.specs.declared.trees.Tree.{Tree}
use Rattle.ul_interner.specs.Known.{Held, Known, tree_at}
use Rattle.ul_nodes.specs.Plain.{Plain, truth}
use Rattle.ul_nodes.specs.Reduced.{IsReduced}
use Rattle.ul_tree.specs.Simplify.{Simplifies}
use Rattle.ul_nodes.specs.Rows.{IfSome}
use Rattle.ul_algebra.specs.declared.labels.DiagramLabel.{DiagramLabel}
use Rattle.ul_algebra.specs.declared.questions.Operation.{Operation}
use Rattle.ul_algebra.specs.declared.questions.Operation.TheVariants.{Joined, Simplified, Union}
use Rattle.ul_algebra.specs.declared.questions.Question.{Question}
use Rattle.ul_algebra.specs.Spelled.{spells, tree_of}
use Rattle.ul_algebra.specs.Joinings.{truth_of, IsJoinedBy}
use Rattle.ul_algebra.specs.Made.{union_parts}

-- a diagram: known, and it stands for a reduced tree
pub record IsDiagram (h : Held DiagramLabel) (m : Marked DiagramLabel) : Type 0 where
  pub known : Known h m
  pub reduced : IsReduced (tree_of m)

-- t is what an operation makes of a and b
abbrev pub IsAnswer : Operation → Plain → Plain → Plain → Type 0
IsAnswer (Joined joining) a b t = IsJoinedBy (truth_of joining) a b t
IsAnswer Simplified a b t = Simplifies a b t
IsAnswer Union a b t = IsReduced t × (t ≡ union_parts a)

-- the same of diagrams
abbrev pub IsAnswerTo : Operation → Marked DiagramLabel → Marked DiagramLabel → Marked DiagramLabel → Type 0
IsAnswerTo operation a b d = IsAnswer operation (tree_of a) (tree_of b) (tree_of d)

-- the answer to a question about the trees that stand at two identities
pub record Answer (h : Held DiagramLabel) (q : Question) (r : Marked DiagramLabel) : Type 0 where
  pub left : Tree DiagramLabel
  pub right : Tree DiagramLabel
  pub left_there : tree_at h q.left ≡ Some left
  pub right_there : tree_at h q.right ≡ Some right
  pub known : Known h r
  pub answer : IsAnswer q.operation (spells left) (spells right) (tree_of r)

-- a truth that is kept, if it is, is known and is the tree of that truth
abbrev pub IsKeptTruth : Held DiagramLabel → Bool → Option (Marked DiagramLabel) → Type 0
IsKeptTruth h value = IfSome (λ d. Known h d × (tree_of d ≡ truth value))
