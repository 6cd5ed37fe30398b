use Rattle.ul_core.proofs.TreeParts.{hash-tree_with}
use Rattle.ul_core.proofs.laws.hash_vectors.Goals as goal

pub returns : goal.returns
returns c = record {
  label_alone = simp hash-tree_with;
  zeros = simp hash-tree_with;
  one_part = simp hash-tree_with;
  another_part = simp hash-tree_with;
  wraps = simp hash-tree_with;
  greatest = simp hash-tree_with;
  two_parts = simp hash-tree_with;
  in_order = simp hash-tree_with;
  three_parts = simp hash-tree_with;
  deep = simp hash-tree_with;
  deep_and_flat = simp hash-tree_with;
}
