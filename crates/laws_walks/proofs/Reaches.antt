-- Each node of a well formed lock has a tree of the worlds in which the lock gives it.
use Rattle.std.proofs.Common.{◌≡◌, ℕ, List, true}
use Rattle.ul_tree.proofs.ForCallers.{no_extra}
use Rattle.ul_lock.specs.declared.parts.Edge.{Edge}
use Rattle.ul_lock.specs.declared.parts.Lock.{Lock}
use Rattle.ul_lock.specs.Region.{IsRegion}
use Rattle.ul_lock.specs.Walk.{Pick as NodeAt, Walk, edge_holds}
use Rattle.ul_lock.specs.WellFormed.{IsWellFormed}
use Rattle.ul_lock_nodes.proofs.ForCallers.{has_edge, is_edge}
use Rattle.laws_walks.specs.Exists.{ReachTreeExists}
use Rattle.laws_trees.proofs.ForCallers.{HasTreeOf, decided_tree, trees_kept, truth_tree}
use Rattle.laws_walks.proofs.Walked.{walk_known}

-- a region's tree is that of its worlds, since it asks for no extra
edge_tree : (e : Edge) → IsRegion e.marker → HasTreeOf (λ w. edge_holds w e ≡ true)
edge_tree e region =
    truth_tree (λ w. edge_holds w e) (e.marker, no_extra.back e.marker region.reduced region.no_extra)

-- where the lock gives a node
pub walk_tree : (l : Lock) (xs : List (List ℕ)) (n : NodeAt) → IsWellFormed l → HasTreeOf (λ w. Walk l w xs n)
walk_tree l xs n ok = walk_known HasTreeOf trees_kept decided_tree l
    (λ r e c d. edge_tree e (is_edge l ok r.0 e (has_edge l r e c d)).marker) xs n

pub reach_tree_exists : ReachTreeExists
reach_tree_exists l xs n ok =
    let t = walk_tree l xs n ok in
    (t.0, record { reduced = t.1.reduced; truth = t.1.truth })
