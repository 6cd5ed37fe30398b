-- Trees that are made of paths again, node by node.
use Rattle.std.specs.Prelude.{◌≡◌, ℕ, suc, List, [], ◌∷◌, map, Bool, true, false, not, ◌&&◌, ◌==◌, Option, Some, None, if◌then◌else◌}
use Rattle.std.specs.Ordering.{is_lt}
use Rattle.ul_marker.specs.declared.printed.Comparison.{Comparison}
use Rattle.ul_nodes.specs.Apply.{same}
use Rattle.ul_tree.specs.Fans.{same_step}
use Rattle.ul_nodes.specs.Levels.{IsKey}
use Rattle.ul_tree.specs.PathList as PathList
use Rattle.ul_tree.specs.PathList.{interval, point, others}
use Rattle.ul_nodes.specs.Plain.{Plain, truth, Branches, done, branch, text_cmp, carried_part}
use Rattle.ul_nodes.specs.Reduced.{Fits}
use Rattle.ul_tree.specs.Views.{tree_view}
use Rattle.ul_tree.specs.declared.tree.Tree.{Tree}
use Rattle.ul_marker_text.specs.StepViews.{step_view, comparison_key}
use Rattle.ul_marker_text.specs.declared.steps.Step.{Step}

-- a tree that is reduced below a level, and the given one if that is so reduced
pub record Keeps (level : List ℕ) (given made : Plain) : Type 0 where
  pub reduced : Fits made level
  pub same : Fits given level → made ≡ given

-- a step with the tree behind it
abbrev pub Part : Type 0
Part = PathList.Step × Plain

-- steps with the trees behind them
abbrev pub parts_view : List (Step × Tree) → List Part
parts_view parts = map (λ p. (step_view p.0, tree_view p.1)) parts

-- the same steps, each with a tree that keeps the given one
abbrev pub KeepParts : List ℕ → List Part → List Part → Type 0
KeepParts level [] [] = Unit {0}
KeepParts level [] (m ∷ made) = ⊥
KeepParts level (g ∷ given) [] = ⊥
KeepParts level (g ∷ given) (m ∷ made) = (m.0 ≡ g.0) × Keeps level g.1 m.1 × KeepParts level given made

-- the same for the first of given parts; the other ones are left
abbrev pub KeepFirst : List ℕ → List Part → List Part → List Part → Type 0
KeepFirst level given [] left = left ≡ given
KeepFirst level [] (m ∷ made) left = ⊥
KeepFirst level (g ∷ given) (m ∷ made) left = (m.0 ≡ g.0) × Keeps level g.1 m.1 × KeepFirst level given made left

-- the trees behind steps are reduced below a level
abbrev pub PartsFit : List ℕ → List Part → Type 0
PartsFit level [] = Unit {0}
PartsFit level (p ∷ parts) = Fits p.1 level × PartsFit level parts

-- ---- paths with one first step

-- whether a path begins with a step
abbrev pub starts : PathList.Step → List PathList.Step → Bool
starts s [] = false
starts s (t ∷ path) = same_step s t

-- how many paths in front begin with a step
abbrev pub front_count : PathList.Step → List (List PathList.Step) → ℕ
front_count s [] = 0
front_count s (p ∷ paths) = if starts s p then suc (front_count s paths) else 0

-- ---- branches

-- branches of numbers
abbrev pub number_branches : List (ℕ × Tree) → Branches
number_branches [] = done
number_branches (p ∷ pieces) = branch (p.0 ∷ []) (tree_view p.1) (number_branches pieces)

-- branches of the keys of comparisons
abbrev pub key_branches : List (Comparison × Tree) → Branches
key_branches [] = done
key_branches (p ∷ points) = branch (comparison_key p.0) (tree_view p.1) (key_branches points)

-- a false piece between two numbers, unless they are equal
abbrev pub gap : ℕ → ℕ → Branches
gap next start = if next == start then done else branch (next ∷ []) (truth false) done

-- the parts of branches are reduced below a level
abbrev pub BranchesFit : List ℕ → Branches → Type 0
BranchesFit level done = Unit {0}
BranchesFit level (branch k c rest) = Fits c level × BranchesFit level rest

-- the keys of branches are keys of a level
abbrev pub AreKeys : List ℕ → Branches → Type 0
AreKeys level done = Unit {0}
AreKeys level (branch k c rest) = IsKey level k × AreKeys level rest

-- whether a key comes after another, if there is one
abbrev pub is_after : Option (List ℕ) → List ℕ → Bool
is_after None k = true
is_after (Some j) k = is_lt (text_cmp j k)

-- whether keys increase after another, and each part differs from the one that stands before it
abbrev pub are_apart : Option (List ℕ) → Bool → Plain → Branches → Bool
are_apart last m d done = true
are_apart last m d (branch k c rest) = is_after last k && (not (same c d) && are_apart (Some k) m (carried_part m c d) rest)
