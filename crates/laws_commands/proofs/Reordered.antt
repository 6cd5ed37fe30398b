-- A problem with other orders of preference: it is alike but for these, and well formed where each of them is an order.
use Rattle.std.proofs.Common.{◌≡◌, ◌∙◌, ◌<◌, ℕ, zero, suc, ◌+◌, List, [], ◌∷◌, ◌++◌, cond, length, map, slice_get, Option, Some, None, refl, sym, ap, subst}
use Rattle.std.specs.List.{position_from}
use Rattle.std.specs.Ordering.{is_eq}
use Rattle.std.proofs.lemmas.List.{length-map}
use Rattle.ul_base.specs.Nodes.{node_cmp}
use Rattle.ul_base.specs.declared.node.Node.{Node}
use Rattle.ul_problem.specs.Plain.{Plain, barred_in, base_in, needs_in, size_in}
use Rattle.ul_problem.specs.Problems.{AllAre, AreNeeds, AreNeedsAfter, AreOneBase, HasBase, Increases, IncreasesFrom, IsAfterBase, IsBaseIn, IsExtraOf, IsNeedAfter, IsNodeOf, IsOrderOf, IsSingle, IsWellFormed, NodeBefore}
use Rattle.ul_problem.specs.declared.problem.Need.{Need}
use Rattle.ul_problem.specs.declared.problem.NodeFacts.{NodeFacts}
use Rattle.ul_report.specs.Naming.{versions_in}
use Rattle.ul_report_judge.specs.Names.{place_of_node}
use Rattle.laws_commands.proofs.AlikeProblems.{AreAlike}

-- what all of a list are, they are where it follows
all_so : {A : Type 0} (P Q : A → Type 0) → ((x : A) → P x → Q x) → (xs : List A) → AllAre P xs → AllAre Q xs
all_so P Q so [] h = tt
all_so P Q so (x ∷ xs) h = (so x h.0, all_so P Q so xs h.1)

module _ (order : NodeFacts → List ℕ) where
  -- what is known of a node, in the other order
  abbrev pub ordered : NodeFacts → NodeFacts
  ordered f = record {
    node = f.node;
    base = f.base;
    versions = f.versions;
    order = order f;
    barred = f.barred;
    needs = f.needs;
  }

  -- the problem in the other orders
  abbrev pub reordered : Plain → Plain
  reordered p = record { roots = p.roots; nodes = map ordered p.nodes }

  -- ---- it is alike

  -- what is read of a node but for its order is the same
  read_both : {A : Type 0} (get : Option NodeFacts → A) → ((f : NodeFacts) → get (Some f) ≡ get (Some (ordered f)))
      → (fs : List NodeFacts) (n : ℕ) → get (slice_get fs n) ≡ get (slice_get (map ordered fs) n)
  read_both get same [] n = refl
  read_both get same (f ∷ fs) zero = same f
  read_both get same (f ∷ fs) (suc n) = read_both get same fs n

  -- a node's place is the same, where the first of the nodes has this number
  places_from : (node : Node) (k : ℕ) (fs : List NodeFacts)
      → position_from (λ (f : NodeFacts). is_eq (node_cmp f.node node)) k fs
      ≡ position_from (λ (f : NodeFacts). is_eq (node_cmp f.node node)) k (map ordered fs)
  places_from node k [] = refl
  places_from node k (f ∷ fs) = ap (λ o. cond (is_eq (node_cmp f.node node)) (Some k) o) (places_from node (k + 1) fs)

  -- and so its place in the problem
  places_both : (p : Plain) (node : Node) → place_of_node p node ≡ place_of_node (reordered p) node
  unfolding place_of_node
  places_both p node = places_from node 0 p.nodes

  -- the two problems are alike
  pub alike_reordered : (p : Plain) → AreAlike p (reordered p)
  alike_reordered p = record {
    roots = refl;
    count = sym (length-map p.nodes ordered);
    sizes = read_both size_in (λ f. refl) p.nodes;
    bases = read_both base_in (λ f. refl) p.nodes;
    barred = read_both barred_in (λ f. refl) p.nodes;
    needs = λ n v. read_both (λ o. needs_in o v) (λ f. refl) p.nodes n;
    versions = read_both versions_in (λ f. refl) p.nodes;
    places = places_both p;
  }

  -- ---- it is well formed

  -- the nodes increase as before
  rises_from : (f : NodeFacts) (fs : List NodeFacts) → IncreasesFrom NodeBefore f fs
      → IncreasesFrom NodeBefore (ordered f) (map ordered fs)
  rises_from f [] h = tt
  rises_from f (g ∷ fs) h = (h.0, rises_from g fs h.1)

  rises : (fs : List NodeFacts) → Increases NodeBefore fs → Increases NodeBefore (map ordered fs)
  rises [] h = tt
  rises (f ∷ fs) h = rises_from f fs h

  -- what is known of a base is still that of a node's base
  base_there : (all : List NodeFacts) (b : ℕ) (f : NodeFacts) → IsBaseIn (slice_get all b) f
      → IsBaseIn (slice_get (map ordered all) b) (ordered f)
  base_there [] b f h = absurd h
  base_there (g ∷ all) zero f h = (h.0, h.1, h.2)
  base_there (g ∷ all) (suc b) f h = base_there all b f h

  -- each node has its base as before
  base_stays : (all : List NodeFacts) (f : NodeFacts) (extra : Option (List ℕ)) (o : Option ℕ) → HasBase all f extra o
      → HasBase (map ordered all) (ordered f) extra o
  base_stays all f None None h = tt
  base_stays all f None (Some b) h = absurd h
  base_stays all f (Some x) None h = absurd h
  base_stays all f (Some x) (Some b) h = base_there all b f h

  -- a need is right as before
  need_right : (all : List NodeFacts) (earlier : List Need) (need : Need) → IsNeedAfter all earlier need
      → IsNeedAfter (map ordered all) earlier need
  need_right all earlier need h = (
    subst (λ k. need.node < k) (sym (length-map all ordered)) h.0,
    h.1 ∙ read_both size_in (λ f. refl) all need.node,
    subst (IsAfterBase earlier) (read_both base_in (λ f. refl) all need.node) h.2,
  )

  -- so are the needs of a version
  needs_right : (all : List NodeFacts) (earlier needs : List Need) → AreNeedsAfter all earlier needs
      → AreNeedsAfter (map ordered all) earlier needs
  needs_right all earlier [] h = tt
  needs_right all earlier (x ∷ xs) h = (need_right all earlier x h.0, needs_right all (earlier ++ x ∷ []) xs h.1)

  -- a node is right as before, with its other order
  node_right : (all : List NodeFacts) (f : NodeFacts) → IsOrderOf (length f.versions) (order f) → IsNodeOf all f
      → IsNodeOf (map ordered all) (ordered f)
  node_right all f is h = record {
    increasing = h.increasing;
    has_base = base_stays all f f.node.extra f.base h.has_base;
    is_order = is;
    barred_size = h.barred_size;
    rows = h.rows;
    needs = all_so (AreNeeds all) (AreNeeds (map ordered all)) (λ needs. needs_right all [] needs) f.needs h.needs;
  }

  -- so are the nodes
  nodes_right : (all fs : List NodeFacts) → ((f : NodeFacts) → IsOrderOf (length f.versions) (order f))
      → AllAre (IsNodeOf all) fs → AllAre (IsNodeOf (map ordered all)) (map ordered fs)
  nodes_right all [] are h = tt
  nodes_right all (f ∷ fs) are h = (node_right all f (are f) h.0, nodes_right all fs are h.1)

  -- no base at a place, or a base there
  base_at : (all : List NodeFacts) (o : Option ℕ) (n : ℕ) → base_in (slice_get all n) ≡ o
      → base_in (slice_get (map ordered all) n) ≡ o
  base_at all o n h = sym (read_both base_in (λ f. refl) all n) ∙ h

  -- the roots are a base and extras of it as before
  one_base : (all : List NodeFacts) (rs : List ℕ) → AreOneBase all rs → AreOneBase (map ordered all) rs
  one_base all [] h = absurd h
  one_base all (r ∷ rs) h = (
    base_at all None r h.0,
    all_so (IsExtraOf all r) (IsExtraOf (map ordered all) r) (λ n. base_at all (Some r) n) rs h.1,
  )

  -- a node has one version as before
  single_at : (all : List NodeFacts) (n : ℕ) → IsSingle all n → IsSingle (map ordered all) n
  single_at all n h = sym (read_both size_in (λ f. refl) all n) ∙ h

  -- with orders for orders the problem stays well formed
  pub well_reordered : (p : Plain) → ((f : NodeFacts) → IsOrderOf (length f.versions) (order f)) → IsWellFormed p
      → IsWellFormed (reordered p)
  well_reordered p are h = record {
    increasing = rises p.nodes h.increasing;
    nodes = nodes_right p.nodes p.nodes are h.nodes;
    roots_increase = h.roots_increase;
    roots = one_base p.nodes p.roots h.roots;
    single = all_so (IsSingle p.nodes) (IsSingle (map ordered p.nodes)) (single_at p.nodes) p.roots h.single;
  }
