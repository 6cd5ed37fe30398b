-- The nodes of a region's problem are listed: which node leads to which is decided, and each that is led to is a target
-- of a requirement of the catalog.
use Rattle.std.proofs.Common.{◌≡◌, ℕ, List, flat_map, find, Option, Some, None, bytes_eq, refl}
use Rattle.std.specs.Prelude.{Contains}
use Rattle.std.specs.Ordering.{is_eq}
use Rattle.ul_base.specs.Nodes.{node_cmp, node_cmp-total}
use Rattle.ul_base.specs.Reached.{Reached}
use Rattle.ul_base.specs.declared.node.Node.{Node}
use Rattle.ul_base.proofs.ForCallers.{contains_flat, found_in, node_cmp_same, none_in}
use Rattle.ul_version.specs.Fields.{Fields}
use Rattle.ul_version.specs.Order.{version_cmp}
use Rattle.ul_problem.specs.Problems.{Increases}
use Rattle.ul_requirement.specs.Fields.{PackageFields, ReleaseFields, RequirementFields}
use Rattle.ul_requirement.specs.Truth.{targets}
use Rattle.ul_index.specs.Applied.{IsFirm}
use Rattle.ul_index.specs.Catalogs.{Packages, release_of, releases_in, releases_of, requirements, requirements_in}
use Rattle.ul_index.specs.Eligible.{eligible}
use Rattle.ul_index.specs.Regions.{Region}
use Rattle.ul_region.specs.Problem.{Leads}
use Rattle.laws_trees.specs.Trees.{AreRequirements, HasTree}
use Rattle.laws_trees.specs.Decided.{Decided, RegionsDecide}
use Rattle.laws_trees.proofs.ForCallers.{both_decided, decided_as, member_decided, node_decided, some_member}
use Rattle.ul_placing.proofs.Rising.{IsNodeLess}
use Rattle.laws_problems.proofs.Deciding.{HasSome}
use Rattle.laws_problems.proofs.Closure.{closure}
use Rattle.laws_problems.proofs.Sorted.{sorted_exists}

-- ---- what a catalog requires

-- the nodes that a release's requirements aim at
abbrev release_targets : ReleaseFields → List Node
release_targets r = flat_map targets r.requirements

-- the nodes that a package's do
abbrev package_targets : PackageFields → List Node
package_targets p = flat_map release_targets p.releases

required_of : (o : Option ReleaseFields) (q : RequirementFields) → Contains (requirements_in o) q
    → (r : ReleaseFields) × (o ≡ Some r) × Contains r.requirements q
required_of None q m = absurd (none_in q m)
required_of (Some r) q m = (r, refl, m)

released_of : (o : Option PackageFields) (r : ReleaseFields) → Contains (releases_in o) r
    → (p : PackageFields) × (o ≡ Some p) × Contains p.releases r
released_of None r m = absurd (none_in r m)
released_of (Some p) r m = (p, refl, m)

release_from : (c : Packages) (n : List ℕ) (r : ReleaseFields) → Contains (releases_of c n) r
    → (p : PackageFields) × Contains c p × Contains p.releases r
unfolding releases_of
release_from c n r m =
    let f = released_of (find (λ (p : PackageFields). bytes_eq p.name n) c) r m in
    (f.0, found_in (λ (p : PackageFields). bytes_eq p.name n) c f.0 f.1, f.2)

requirement_from : (c : Packages) (n : List ℕ) (v : Fields) (q : RequirementFields) → Contains (requirements c n v) q
    → (r : ReleaseFields) × Contains (releases_of c n) r × Contains r.requirements q
unfolding requirements release_of
requirement_from c n v q m =
    let f = required_of (find (λ (r : ReleaseFields). is_eq (version_cmp r.version v)) (releases_of c n)) q m in
    (f.0, found_in (λ (r : ReleaseFields). is_eq (version_cmp r.version v)) (releases_of c n) f.0 f.1, f.2)

-- what a node leads to is a target of the catalog
leads_bound : (c : Packages) (R : Region) (n m : Node) → Leads c R n m → Contains (flat_map package_targets c) m
leads_bound c R n m l =
    let r = requirement_from c n.name l.version l.requirement l.firm.applied.listed in
    let p = release_from c n.name r.0 r.1 in
    contains_flat package_targets c p.0 m p.1 (contains_flat release_targets p.0.releases r.0 m p.2
    (contains_flat targets r.0.requirements l.requirement m r.2 l.aimed))

-- ---- which node leads to which

module _ (c : Packages) (R : Region) (decide : RegionsDecide) (spelled : AreRequirements c) (tree : HasTree R) where
  -- whether a requirement of a release is firm at a node
  pub firm_decided : (n : Node) (v : Fields) (q : RequirementFields) → Contains (requirements c n.name v) q
      → Decided (IsFirm (requirements c n.name v) R n q)
  firm_decided n v q m = decide.firm (requirements c n.name v) R n q tree (λ r k. spelled n.name v r k) m

  -- the requirement is firm and aims at the other node
  abbrev IsAimed : Node → Node → Fields → RequirementFields → Type 0
  IsAimed n m v q = IsFirm (requirements c n.name v) R n q × Contains (targets q) m

  -- some requirement of the version is such
  abbrev IsAimedBy : Node → Node → Fields → Type 0
  IsAimedBy n m v = HasSome (IsAimed n m v) (requirements c n.name v)

  leads_decided : (n m : Node) → Decided (Leads c R n m)
  leads_decided n m =
      decided_as
      (some_member (IsAimedBy n m) (eligible c n.name)
      (λ v h. some_member (IsAimed n m v) (requirements c n.name v)
      (λ q k. both_decided (firm_decided n v q k) (member_decided (targets q) m (λ t. node_decided t m)))))
      (λ h. record { version = h.0; is_eligible = h.1; requirement = h.2.0; firm = h.2.2.0; aimed = h.2.2.1 })
      (λ l. (l.version, l.is_eligible, (l.requirement, l.firm.applied.listed, (l.firm, l.aimed))))

-- the nodes that are reached, in order, each once
pub record AreNodes (c : Packages) (starts : List Node) (R : Region) (nodes : List Node) : Type 0 where
  pub increasing : Increases IsNodeLess nodes
  pub reached : (n : Node) → Contains nodes n → Reached (Contains starts) (Leads c R) n
  pub listed : (n : Node) → Reached (Contains starts) (Leads c R) n → Contains nodes n

-- there is a list of them
pub nodes_exist : (c : Packages) (starts : List Node) (R : Region) → RegionsDecide → AreRequirements c → HasTree R
    → (nodes : List Node) × AreNodes c starts R nodes
nodes_exist c starts R decide spelled tree =
    let all = closure starts (flat_map package_targets c) (Leads c R) (leads_decided c R decide spelled tree)
    (leads_bound c R) (λ n. member_decided starts n (λ m. node_decided m n)) in
    let nodes = sorted_exists node_cmp node_cmp-total node_cmp_same all.0 in (
      nodes.0,
      record {
        increasing = nodes.1.increasing;
        reached = λ n m. all.1.reached n (nodes.1.only n m);
        listed = λ n r. nodes.1.has n (all.1.listed n r);
      },
    )
