use Rattle.ul_core.proofs.TreeParts.{hash-tree_with}
use Rattle.ul_core.proofs.laws.each_hash_is_of_parts.Goals as goal

pub returns : goal.returns
returns g c label parts = hash-tree_with g.L.Label.hash_of label parts
