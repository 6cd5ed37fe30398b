-- Where an edge is true has a tree, so each node has its edges.
use Rattle.std.proofs.Common.{◌≡◌, ◌≢◌, List, true, false, ◌&&◌, Some, Contains, refl, ap, is_lt}
use Rattle.std.proofs.lemmas.Bool.{and_from, and_parts}
use Rattle.ul_comparison.specs.Worlds.{WorldFields, IsWorld}
use Rattle.ul_requirement.specs.Fields.{RequirementFields}
use Rattle.ul_requirement.specs.Truth.{applies_at, targets}
use Rattle.ul_nodes.specs.Plain.{Plain, truth}
use Rattle.ul_nodes.specs.Reduced.{IsReduced}
use Rattle.ul_tree.specs.Regions.{IsRegionTree}
use Rattle.ul_tree.specs.Simplify.{Simplifies}
use Rattle.ul_tree.proofs.ForCallers.{simplify_laws}
use Rattle.ul_index.specs.Catalogs.{Packages, requirements}
use Rattle.ul_index.specs.Eligible.{eligible}
use Rattle.ul_index.specs.Laws.{EligibleRises}
use Rattle.ul_index.specs.Serves.{choice_of}
use Rattle.ul_lock.specs.declared.parts.Edge.{Edge}
use Rattle.ul_lock.specs.Orders.{edge_less}
use Rattle.ul_lock.specs.Walk.{Pick}
use Rattle.ul_lock_nodes.specs.Order.{node_cmp}
use Rattle.ul_sound.specs.Leaves.{LeafFields, worlds_of}
use Rattle.ul_sound.specs.Merged.{AreEdgesOf, IsRightEdge, IsSimplified, IsTrueEdge, IsTrueSomewhere, edge_key}
use Rattle.laws_trees.specs.Trees.{AreRequirements, TruthTrees}
use Rattle.laws_trees.proofs.ForCallers.{HasTreeOf, both_decided, given_tree, member_decided, node_decided}
use Rattle.laws_trees.proofs.ForCallers.{same_tree, some_known, somewhere_decided, trees_kept, truth_tree}
use Rattle.laws_locks.proofs.Choices.{ChoseEligible, choice_decided, chosen_by, chosen_to}
use Rattle.laws_locks.proofs.Indexes.{index_exists}
use Rattle.laws_locks.proofs.Levels.{AllDiffer, picks_same, picks_total}

-- what has a tree has a marker under a region that isn't false
pub marker_made : (Truth : WorldFields → Type 0) (supported : Plain) → IsReduced supported → supported ≢ truth false
    → HasTreeOf Truth → (m : Plain) × IsSimplified Truth supported m
marker_made Truth supported reduced some h =
    let made : (m : Plain) × Simplifies h.0 supported m =
    simplify_laws.some_result h.0 supported h.1.reduced reduced some in
    (made.0, record { tree = h.0; reduced = h.1.reduced; truth = h.1.truth; simplifies = made.1 })

-- what is known of leaves that are merged, and the laws that are cited of them
pub record AreMergedParts (c : Packages) (leaves : List LeafFields) (supported : Plain) : Type 0 where
  pub trees : TruthTrees
  pub law : EligibleRises
  pub differ : AllDiffer c
  pub requirements_are : AreRequirements c
  pub regions : (l : LeafFields) → Contains leaves l → IsRegionTree l.region
  pub eligible_in : ChoseEligible c leaves
  pub reduced : IsReduced supported
  pub some : supported ≢ truth false

module _ (c : Packages) (leaves : List LeafFields) (supported : Plain) (h : AreMergedParts c leaves supported) where
  module _ (p q : Pick) where
    -- the leaf chose both ends
    abbrev HasBoth : LeafFields → Type 0
    HasBoth l = (choice_of l.picks p.0 ≡ Some p.1) × (choice_of l.picks q.0 ≡ Some q.1)

    -- the requirement aims at the target, and is true in the leaf's region
    abbrev Asks : LeafFields → RequirementFields → WorldFields → Type 0
    Asks l r w = Contains (targets r) q.0 × ((worlds_of l w && applies_at r p.0 w) ≡ true)

    -- some requirement asks for it
    abbrev IsAsked : LeafFields → WorldFields → Type 0
    IsAsked l w = (r : RequirementFields) × Contains (requirements c p.0.name p.1) r × Asks l r w

    -- for some leaf that chose both ends
    abbrev IsEdgeAt : WorldFields → Type 0
    IsEdgeAt w = (l : LeafFields) × Contains leaves l × (HasBoth l × IsAsked l w)

    edge_from : (w : WorldFields) → IsWorld w → IsEdgeAt w → IsTrueEdge c leaves p q w
    edge_from w is (l, m, (both, (r, listed, (aimed, e)))) =
        let within : worlds_of l w ≡ true = (and_parts (worlds_of l w) (applies_at r p.0 w) e).0 in
        let holds : applies_at r p.0 w ≡ true = (and_parts (worlds_of l w) (applies_at r p.0 w) e).1 in
        record {
          leaf = l;
          listed = m;
          within = within;
          source = both.0;
          target = both.1;
          requirement = r;
          applied = record { listed = listed; somewhere = (w, is, within, holds) };
          aimed = aimed;
          holds = holds;
        }

    edge_to : (w : WorldFields) → IsWorld w → IsTrueEdge c leaves p q w → IsEdgeAt w
    edge_to w is t =
        let both : (worlds_of t.leaf w && applies_at t.requirement p.0 w) ≡ true =
        and_from (worlds_of t.leaf w) (applies_at t.requirement p.0 w) t.within t.holds in
        (t.leaf, t.listed, ((t.source, t.target), (t.requirement, t.applied.listed, (t.aimed, both))))

    asks_tree : (l : LeafFields) → Contains leaves l → (r : RequirementFields)
        → Contains (requirements c p.0.name p.1) r → HasTreeOf (Asks l r)
    asks_tree l m r n = given_tree (Contains (targets r) q.0) (λ w. (worlds_of l w && applies_at r p.0 w) ≡ true)
        (member_decided (targets r) q.0 (λ y. node_decided y q.0))
        (λ _. truth_tree (λ w. worlds_of l w && applies_at r p.0 w)
        (h.trees.both (worlds_of l) (applies_at r p.0) (l.region, h.regions l m)
        (h.trees.applied r p.0 (h.requirements_are p.0.name p.1 r n))))

    leaf_tree : (l : LeafFields) → Contains leaves l → HasTreeOf (λ w. HasBoth l × IsAsked l w)
    leaf_tree l m = given_tree (HasBoth l) (IsAsked l)
        (both_decided (choice_decided l p.0 p.1) (choice_decided l q.0 q.1))
        (λ _. some_known HasTreeOf trees_kept (requirements c p.0.name p.1) (Asks l) (asks_tree l m))

    -- where the edge is true has a tree
    pub edge_tree : HasTreeOf (IsTrueEdge c leaves p q)
    edge_tree = same_tree IsEdgeAt (IsTrueEdge c leaves p q) edge_from edge_to
        (some_known HasTreeOf trees_kept leaves (λ l w. HasBoth l × IsAsked l w) leaf_tree)

  -- each node at a version has its edges
  pub edges_exist : (p : Pick) → (es : List Edge) × AreEdgesOf c leaves supported p es
  edges_exist p = index_exists edge_key edge_less (IsTrueSomewhere c leaves p)
      (IsRightEdge c leaves supported p) node_cmp (chosen_by leaves) (record {
        total = picks_total;
        below = λ a b e. ap is_lt e;
        same = λ i j v u e. picks_same h.law c h.differ i j (eligible_at i v) (eligible_at j u) e;
        decided = λ i m. somewhere_decided (IsTrueEdge c leaves p i) (edge_tree p i);
        listed = λ i v. chosen_to leaves i.0 i.1 (v.2.leaf, v.2.listed, v.2.target);
        made = λ i v. made i v
            (marker_made (IsTrueEdge c leaves p i) supported h.reduced h.some (edge_tree p i));
      })
    where
      eligible_at : (i : Pick) → IsTrueSomewhere c leaves p i → Contains (eligible c i.0.name) i.1
      eligible_at i v = h.eligible_in v.2.leaf v.2.listed i.0 i.1 v.2.target

      made : (i : Pick) → IsTrueSomewhere c leaves p i
          → (m : Plain) × IsSimplified (IsTrueEdge c leaves p i) supported m
          → (e : Edge) × (edge_key e ≡ i) × IsRightEdge c leaves supported p e
      made i v m = (record { target = i.0; version = i.1; marker = m.0 }, refl, m.1)
