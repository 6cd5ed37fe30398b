-- The branches, results and parts of a diagram that is being made.
use Rattle.std.specs.Prelude.{ℕ, suc, ◌+◌, ◌<◌, ◌≡◌, List, All, Option, option_map}
use Rattle.ul_interner.specs.Known.{Held, Known}
use Rattle.ul_interner.specs.Marked.{Marked}
use Rattle.ul_nodes.specs.Plain.{Plain, Branches, carries}
use Rattle.ul_nodes.specs.Apply.{apply, close, outs, part_at, size}
use Rattle.ul_nodes.specs.Rows.{made_view, Results, results_view, parts_view, IfSome}
use Rattle.ul_nodes.specs.Keys.{level_view, keys_view, branches_of, rest_of}
use Rattle.ul_tree.specs.Simplify.{Pieces, Piece, filled_results, settled_level, union_in}
use Rattle.ul_tree.specs.SimplifyViews.{region_view, Lowered}
use Rattle.ul_nodes.specs.declared.level.Key.{Key}
use Rattle.ul_nodes.specs.declared.level.Level.{Level}
use Rattle.ul_algebra.specs.Joinings.{truth_of}
use Rattle.ul_algebra.specs.Spelled.{tree_of}
use Rattle.ul_algebra.specs.declared.labels.DiagramLabel.{DiagramLabel}
use Rattle.ul_algebra.specs.declared.questions.Joining.{Joining}

-- what contracts see of a diagram
abbrev pub Seen : Type 0
Seen = Marked DiagramLabel

-- ---- rows, as plain data

-- branches of diagrams that were made
abbrev pub diagrams_made : List (Key × Marked DiagramLabel) → Branches
diagrams_made = made_view tree_of

-- pieces in a row, each with its key and its result
abbrev pub result_diagrams : List (Key × Option (Marked DiagramLabel)) → Results
result_diagrams = results_view tree_of

-- parts in a row, each with its key
abbrev pub part_diagrams : List (Key × Marked DiagramLabel) → List (List ℕ × Plain)
part_diagrams = parts_view tree_of

-- ---- what is known

-- diagrams are known
abbrev pub AreKnown : Held DiagramLabel → List Seen → Type 0
AreKnown h ds = All (λ d. Known h d) ds

-- a result, if there is one, is known
abbrev pub OwnKnown : Held DiagramLabel → Option Seen → Type 0
OwnKnown h = IfSome (Known h)

-- the results of pieces are known
abbrev pub ResultsKnown : Held DiagramLabel → List (Key × Option Seen) → Type 0
ResultsKnown h rs = All (λ r. OwnKnown h r.1) rs

-- parts of keys are known
abbrev pub PartsKnown : Held DiagramLabel → List (Key × Seen) → Type 0
PartsKnown h ps = All (λ p. Known h p.1) ps

-- whoever knows a diagram knows another
abbrev pub KnownWith : Seen → Seen → Type 0
KnownWith d p = (h : Held DiagramLabel) → Known h d → Known h p

-- whoever knows the results of pieces and the first part knows the parts
abbrev pub FilledKnownWith : List (Key × Option Seen) → Seen → List (Key × Seen) → Type 0
FilledKnownWith results first parts = (h : Held DiagramLabel) → ResultsKnown h results → Known h first → PartsKnown h parts

-- ---- joining

-- the branches of keys: the parts of two diagrams there, joined, without those that say what stands already
abbrev pub AreJoined : Joining → Level → Seen → Seen → List Key → Seen → List (Key × Seen) → Type 0
AreJoined op level a b keys other made = (n : ℕ) → size (tree_of a) + size (tree_of b) < suc n
    → diagrams_made made ≡ outs (λ v. apply (truth_of op) n (part_at (level_view level) v (tree_of a)) (part_at (level_view level) v (tree_of b))) (carries (level_view level)) (keys_view keys) (tree_of other)

-- the tree of a node of a level with these branches, or the other part alone where there are none
abbrev pub closed_tree : Level → Seen → List (Key × Seen) → Plain
closed_tree level other made = close (level_view level) (tree_of other) (diagrams_made made)

-- ---- simplifying

-- the parts of keys: each piece's own result, or the part before it
abbrev pub filled_parts : List (Key × Option Seen) → Seen → List (List ℕ × Plain)
filled_parts results first = filled_results (result_diagrams results) (tree_of first)

-- a level put together from the results of its pieces
abbrev pub settled_tree : Level → List (Key × Option Seen) → Option Seen → Seen → Plain
settled_tree level results rest otherwise = settled_level (level_view level) (result_diagrams results) (option_map tree_of rest) (tree_of otherwise)

-- the tree of a region that was made, or else of the one that stands
abbrev pub region_tree : Option Seen → Seen → Plain
region_tree made stands = region_view tree_of made (tree_of stands)

-- what stays of a region when its levels above another are taken away, if any is
abbrev pub IsLowered : Level → Seen → Option Seen → Type 0
IsLowered level region made = Lowered (level_view level) (tree_of region) (region_tree made region)

-- the union of all parts of a tree
abbrev pub union_parts : Plain → Plain
union_parts t = union_in (branches_of t) (rest_of t)

-- the results of pieces at keys of a level
abbrev pub PiecesAre : Level → Seen → Seen → List Key → List (Key × Option Seen) → Type 0
PiecesAre level f region keys results = Pieces (level_view level) (tree_of f) (tree_of region) (keys_view keys) (result_diagrams results)

-- what a piece becomes
abbrev pub IsPiece : Seen → Seen → Option Seen → Type 0
IsPiece f c made = Piece (tree_of f) (tree_of c) (option_map tree_of made)
