use Rattle.std.proofs.Common.{◌≡◌, ℕ, ◌<◌}
use Rattle.std.specs.Prelude.{Some}
use Rattle.std.specs.List.{slice_get}
use Rattle.ul_core.specs.declared.trees.Tree.{Tree}
use Rattle.ul_core.proofs.plants.has.Given as goal

-- none before the index is the tree
abbrev pub invariant-loop-listed : goal.invariant-loop-listed
invariant-loop-listed g l = (i : ℕ) (t : Tree _) → i < l.listed-index → slice_get l.log i ≡ Some t → t ≡ l.plant → ⊥
