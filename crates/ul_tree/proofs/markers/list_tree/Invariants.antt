use Rattle.std.proofs.Common.{◌≡◌, ℕ, List, ◌++◌, map, drop}
use Rattle.std.specs.Prelude.{All}
use Rattle.ul_version.specs.Fields.{plain}
use Rattle.ul_specifier.specs.Meaning.{meets_clause}
use Rattle.ul_comparison.specs.Truth.{equal_to, python_release}
use Rattle.ul_comparison.specs.Worlds.{WorldFields, IsWorld}
use Rattle.ul_tree.specs.Joining.{truths_of}
use Rattle.ul_nodes.specs.Reduced.{IsReduced}
use Rattle.ul_tree.specs.Views.{tree_view}
use Rattle.ul_tree.proofs.markers.list_tree.Given as goal

abbrev pub invariant-loop-version : goal.invariant-loop-version
invariant-loop-version l = record {
  reduced : All (λ t. IsReduced (tree_view t)) l.trees.items;
  truth : (w : WorldFields) (x : List ℕ) → IsWorld w → truths_of l.trees.items w x ++ map (λ V. meets_clause (equal_to V) (plain (python_release l.full w))) (drop l.version-index l.versions) ≡ map (λ V. meets_clause (equal_to V) (plain (python_release l.full w))) l.versions;
}
