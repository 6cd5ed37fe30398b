use Rattle.std.proofs.Common.{◌≡◌, ℕ, List, ◌++◌, map, drop, true}
use Rattle.std.specs.Prelude.{All}
use Rattle.ul_version.specs.Fields.{plain}
use Rattle.ul_specifier.specs.Meaning.{meets_clause}
use Rattle.ul_comparison.specs.Truth.{python_release}
use Rattle.ul_comparison.specs.Worlds.{WorldFields, IsWorld}
use Rattle.ul_tree.specs.Joining.{truths_of}
use Rattle.ul_nodes.specs.Reduced.{IsReduced}
use Rattle.ul_tree.specs.Views.{tree_view}
use Rattle.ul_tree.proofs.markers.of_python.Given as goal

abbrev pub invariant-loop-clause : goal.invariant-loop-clause
invariant-loop-clause l = record {
  reduced : All (λ t. IsReduced (tree_view t)) l.trees.items;
  truth : (w : WorldFields) (x : List ℕ) → IsWorld w → truths_of l.trees.items w x ++ map (λ s. meets_clause s (plain (python_release true w))) (drop l.clause-index l.clause-items) ≡ map (λ s. meets_clause s (plain (python_release true w))) l.clause-items;
}
