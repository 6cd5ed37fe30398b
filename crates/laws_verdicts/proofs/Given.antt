-- Whether a package's nodes have an edge for each requirement is decided.
use Rattle.std.proofs.Common.{◌≡◌, true, Contains}
use Rattle.ul_base.specs.declared.node.Node.{Node}
use Rattle.ul_comparison.specs.Worlds.{WorldFields}
use Rattle.ul_requirement.specs.Fields.{RequirementFields}
use Rattle.ul_requirement.specs.Truth.{applies_at, meets, targets}
use Rattle.ul_index.specs.Catalogs.{Packages, requirements}
use Rattle.ul_project.specs.Fields.{ProjectFields}
use Rattle.ul_lock.specs.declared.parts.Edge.{Edge}
use Rattle.ul_lock.specs.declared.parts.Lock.{Lock}
use Rattle.ul_lock.specs.declared.parts.Locked.{Locked}
use Rattle.ul_lock.specs.Walk.{edge_holds}
use Rattle.ul_verified.specs.Verified.{IsAsked, IsGiven, IsReachedOf}
use Rattle.laws_trees.specs.Decided.{Decided}
use Rattle.laws_trees.proofs.ForCallers.{HasTreeOf, both_decided, decided_as, decided_tree, each_member}
use Rattle.laws_trees.proofs.ForCallers.{node_decided, some_known, trees_kept, truth_decided, truth_tree}
use Rattle.laws_verdicts.proofs.Truths.{asked_decided, tree_of_where}
use Rattle.laws_verdicts.proofs.Walked.{Setting, edge_among, edge_from, edge_tree, edges_at, node_tree, nodes_of}
use Rattle.laws_verdicts.proofs.Walked.{reached_among}

module _ (c : Packages) (p : ProjectFields) (l : Lock) (s : Setting c p l) (b : Locked)
    (listed : Contains l.packages b) where
  -- the edge holds in the world and gives the target
  abbrev Gives : RequirementFields → Node → Edge → WorldFields → Type 0
  Gives q t e w = (edge_holds w e ≡ true) × ((e.target ≡ t) × (meets q e.version ≡ true))

  given_tree : (n : Node) (q : RequirementFields) (t : Node) → HasTreeOf (λ w. IsGiven b n w q t)
  given_tree n q t =
      trees_kept.same (λ w. (e : Edge) × Contains (edges_at b n.extra) e × Gives q t e w) (λ w. IsGiven b n w q t)
      (λ w. (
        (λ z. record {
          edge = z.0;
          of = edge_from b n.extra z.0 z.1;
          holds = z.2.0;
          leads = z.2.1.0;
          meets = z.2.1.1;
        }),
        (λ g. (g.edge, edge_among b n.extra g.edge g.of, (g.holds, (g.leads, g.meets)))),
      ))
      (some_known HasTreeOf trees_kept (edges_at b n.extra) (Gives q t) (λ e m. trees_kept.both _ _
      (edge_tree c p l s b listed n.extra e (edge_from b n.extra e m))
      (decided_tree _ (both_decided (node_decided e.target t) (truth_decided (meets q e.version))))))

  -- if the node is reached in the world and the requirement is true there, its target is given
  abbrev IsMetAt : Node → RequirementFields → Node → WorldFields → Type 0
  IsMetAt n q t w = IsReachedOf p l w b n → applies_at q n w ≡ true → IsGiven b n w q t

  -- in each world that the project supports
  abbrev IsMet : Node → RequirementFields → Node → Type 0
  IsMet n q t = (w : WorldFields) → IsAsked p w → IsMetAt n q t w

  met_decided : (n : Node) (q : RequirementFields) (t : Node) → Contains (requirements c b.name b.version) q
      → Decided (IsMet n q t)
  met_decided n q t m =
      let applied = s.trees.applied q n (s.requirements b.name b.version q m) in
      asked_decided p s.project (IsMetAt n q t)
      (tree_of_where (node_tree c p l s b n)
      (tree_of_where (truth_tree (applies_at q n) applied) (given_tree n q t)))

  -- each target of the requirement is met
  abbrev AreTargetsMet : Node → RequirementFields → Type 0
  AreTargetsMet n q = (t : Node) → Contains (targets q) t → IsMet n q t

  -- and so is each requirement
  abbrev AreMet : Node → Type 0
  AreMet n = (q : RequirementFields) → Contains (requirements c b.name b.version) q → AreTargetsMet n q

  node_met_decided : (n : Node) → Decided (AreMet n)
  node_met_decided n =
      each_member (AreTargetsMet n) (requirements c b.name b.version)
      (λ q m. each_member (IsMet n q) (targets q) (λ t k. met_decided n q t m))

  -- whether each requirement is given at each node where that is reached
  pub given_decided : Decided ((w : WorldFields) (n : Node) (q : RequirementFields) (t : Node) → IsAsked p w
      → IsReachedOf p l w b n → Contains (requirements c b.name b.version) q → applies_at q n w ≡ true
      → Contains (targets q) t → IsGiven b n w q t)
  given_decided =
      decided_as (each_member AreMet (nodes_of b) (λ n m. node_met_decided n))
      (λ h w n q t asked r m holds aimed. h n (reached_among c p l s b listed w n r) q m t aimed w asked r holds)
      (λ f n _ q m t aimed w asked r holds. f w n q t asked r m holds aimed)
