-- Whether a package's nodes have only edges that are required is decided.
use Rattle.std.proofs.Common.{◌≡◌, true, Contains}
use Rattle.ul_base.specs.declared.node.Node.{Node}
use Rattle.ul_comparison.specs.Worlds.{WorldFields}
use Rattle.ul_requirement.specs.Fields.{RequirementFields}
use Rattle.ul_requirement.specs.Truth.{applies_at, meets, targets}
use Rattle.ul_index.specs.Catalogs.{Packages, requirements}
use Rattle.ul_project.specs.Fields.{ProjectFields}
use Rattle.ul_lock.specs.declared.parts.Edge.{Edge}
use Rattle.ul_lock.specs.declared.parts.Lock.{Lock}
use Rattle.ul_lock.specs.declared.parts.Locked.{Locked}
use Rattle.ul_lock.specs.Walk.{IsEdgeOf, edge_holds}
use Rattle.ul_verified.specs.Verified.{IsAsked, IsReachedOf, IsRequired}
use Rattle.laws_trees.specs.Decided.{Decided}
use Rattle.laws_trees.proofs.ForCallers.{HasTreeOf, both_decided, decided_as, decided_tree, each_member}
use Rattle.laws_trees.proofs.ForCallers.{member_decided, node_decided, some_known, trees_kept, truth_decided, truth_tree}
use Rattle.laws_verdicts.proofs.Truths.{asked_decided, tree_of_where}
use Rattle.laws_verdicts.proofs.Walked.{Setting, edge_among, edge_from, edge_tree, edges_at, node_tree, nodes_of}
use Rattle.laws_verdicts.proofs.Walked.{reached_among}

module _ (c : Packages) (p : ProjectFields) (l : Lock) (s : Setting c p l) (b : Locked)
    (listed : Contains l.packages b) where
  -- the requirement is true at the node in the world and asks for the edge
  abbrev AsksFor : Node → Edge → RequirementFields → WorldFields → Type 0
  AsksFor n e q w = (applies_at q n w ≡ true) × (Contains (targets q) e.target × (meets q e.version ≡ true))

  required_tree : (n : Node) (e : Edge) → HasTreeOf (λ w. IsRequired c b n w e)
  required_tree n e =
      trees_kept.same (λ w. (q : RequirementFields) × Contains (requirements c b.name b.version) q × AsksFor n e q w)
      (λ w. IsRequired c b n w e)
      (λ w. (
        (λ z. record { requirement = z.0; listed = z.1; holds = z.2.0; aimed = z.2.1.0; meets = z.2.1.1 }),
        (λ g. (g.requirement, g.listed, (g.holds, (g.aimed, g.meets)))),
      ))
      (some_known HasTreeOf trees_kept (requirements c b.name b.version) (AsksFor n e) (λ q m. trees_kept.both _ _
      (truth_tree (applies_at q n) (s.trees.applied q n (s.requirements b.name b.version q m)))
      (decided_tree _
      (both_decided (member_decided (targets q) e.target (λ t. node_decided t e.target))
      (truth_decided (meets q e.version))))))

  -- if the node is reached in the world and the edge holds there, it is required
  abbrev IsWantedAt : Node → Edge → WorldFields → Type 0
  IsWantedAt n e w = IsReachedOf p l w b n → edge_holds w e ≡ true → IsRequired c b n w e

  -- in each world that the project supports
  abbrev IsWanted : Node → Edge → Type 0
  IsWanted n e = (w : WorldFields) → IsAsked p w → IsWantedAt n e w

  wanted_decided : (n : Node) (e : Edge) → IsEdgeOf b n.extra e → Decided (IsWanted n e)
  wanted_decided n e i =
      asked_decided p s.project (IsWantedAt n e)
      (tree_of_where (node_tree c p l s b n)
      (tree_of_where (edge_tree c p l s b listed n.extra e i) (required_tree n e)))

  -- each edge of the node is
  abbrev AreWanted : Node → Type 0
  AreWanted n = (e : Edge) → Contains (edges_at b n.extra) e → IsWanted n e

  node_wanted_decided : (n : Node) → Decided (AreWanted n)
  node_wanted_decided n =
      each_member (IsWanted n) (edges_at b n.extra) (λ e m. wanted_decided n e (edge_from b n.extra e m))

  -- whether each edge of each node is required where the node is reached
  pub required_decided : Decided ((w : WorldFields) (n : Node) (e : Edge) → IsAsked p w → IsReachedOf p l w b n
      → IsEdgeOf b n.extra e → edge_holds w e ≡ true → IsRequired c b n w e)
  required_decided =
      decided_as (each_member AreWanted (nodes_of b) (λ n m. node_wanted_decided n))
      (λ h w n e asked r i holds.
      h n (reached_among c p l s b listed w n r) e (edge_among b n.extra e i) w asked r holds)
      (λ f n _ e m w asked r holds. f w n e asked r (edge_from b n.extra e m) holds)
