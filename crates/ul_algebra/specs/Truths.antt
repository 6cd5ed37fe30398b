-- What contracts say of the truths of diagrams, at every world and extra.
use Rattle.std.specs.Prelude.{ℕ, List, Bool, not, ◌≡◌}
use Rattle.ul_interner.specs.Marked.{Marked}
use Rattle.ul_comparison.specs.Worlds.{WorldFields, IsWorld}
use Rattle.ul_nodes.specs.Levels.{IsExtra}
use Rattle.ul_tree.specs.Values.{tree_holds}
use Rattle.ul_algebra.specs.Spelled.{tree_of}
use Rattle.ul_algebra.specs.declared.labels.DiagramLabel.{DiagramLabel}

-- two diagrams hold at the same worlds and extras
abbrev pub HaveOneTruth : Marked DiagramLabel → Marked DiagramLabel → Type 0
HaveOneTruth a b = (w : WorldFields) (x : List ℕ) → IsWorld w → IsExtra x → tree_holds (tree_of a) w x ≡ tree_holds (tree_of b) w x

-- a diagram has the joined truth of two
abbrev pub HoldsJoined : (Bool → Bool → Bool) → Marked DiagramLabel → Marked DiagramLabel → Marked DiagramLabel → Type 0
HoldsJoined op a b d = (w : WorldFields) (x : List ℕ) → tree_holds (tree_of d) w x ≡ op (tree_holds (tree_of a) w x) (tree_holds (tree_of b) w x)

-- a diagram holds where another doesn't
abbrev pub HoldsNegated : Marked DiagramLabel → Marked DiagramLabel → Type 0
HoldsNegated a d = (w : WorldFields) (x : List ℕ) → tree_holds (tree_of d) w x ≡ not (tree_holds (tree_of a) w x)

-- a diagram has, at every extra, the truth that another has at this one
abbrev pub HoldsAtExtra : List ℕ → Marked DiagramLabel → Marked DiagramLabel → Type 0
HoldsAtExtra extra a d = (w : WorldFields) (y : List ℕ) → tree_holds (tree_of d) w y ≡ tree_holds (tree_of a) w extra
