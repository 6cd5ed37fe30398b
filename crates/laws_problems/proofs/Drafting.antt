-- What is known of each node of a region's problem, by the places of the nodes alone.
use Rattle.std.proofs.Common.{◌≡◌, ℕ, List, flat_map, map, Option, Some, None, refl, sym, ap, subst}
use Rattle.std.specs.Prelude.{Contains, slice_get}
use Rattle.std.specs.List.{AllZip}
use Rattle.ul_base.specs.Kept.{Kept}
use Rattle.ul_base.specs.Reached.{led}
use Rattle.ul_base.specs.declared.node.Node.{Node}
use Rattle.ul_base.proofs.ForCallers.{contains_from_flat, contains_from_map, kept_from}
use Rattle.ul_version.specs.Fields.{Fields}
use Rattle.ul_specifier.specs.Meaning.{meets_list}
use Rattle.ul_problem.specs.declared.problem.Need.{Need as PlaceNeed}
use Rattle.ul_problem.specs.declared.problem.NodeFacts.{NodeFacts}
use Rattle.ul_requirement.specs.Fields.{RequirementFields, WishFields}
use Rattle.ul_requirement.specs.Truth.{base_of, targets}
use Rattle.ul_index.specs.Applied.{IsFirm}
use Rattle.ul_index.specs.Catalogs.{Packages, is_fit, requirements}
use Rattle.ul_index.specs.Eligible.{eligible}
use Rattle.ul_index.specs.Laws.{EligibleRises, PreferenceSame}
use Rattle.ul_index.specs.Regions.{Region}
use Rattle.ul_index.specs.Serves.{Suits}
use Rattle.ul_region.specs.Best.{Need, needs_of}
use Rattle.ul_region.specs.Problem.{Leads}
use Rattle.laws_problems.specs.Exists.{IsAskedOf}
use Rattle.laws_trees.specs.Trees.{HasTree, TruthTrees}
use Rattle.laws_trees.specs.Decided.{RegionsDecide}
use Rattle.ul_placing.proofs.Completing.{base_reached}
use Rattle.ul_placing.proofs.Lists.{place_of}
use Rattle.laws_problems.proofs.Deciding.{AreFlagsOf, flags_exist, kept_exists}
use Rattle.laws_problems.proofs.Leading.{AreNodes, firm_decided}
use Rattle.laws_problems.proofs.Preferring.{IsOrder, order_exists}
use Rattle.laws_problems.proofs.Zips.{zip_exists}

-- a need by places: its target's place in the list of nodes, and at which of its versions the specifiers are met
pub record IsNeedIn (c : Packages) (nodes : List Node) (t : Need) (k : PlaceNeed) : Type 0 where
  pub at : slice_get nodes k.node ≡ Some t.node
  pub permitted : k.permitted ≡ map (meets_list t.specifiers) (eligible c t.node.name)

-- the needs of a version by places
pub record AreNeedsIn (c : Packages) (R : Region) (nodes : List Node) (n : Node) (x : Fields)
    (ks : List PlaceNeed) : Type 0 where
  pub firm : List RequirementFields
  pub kept : Kept (IsFirm (requirements c n.name x) R n) (requirements c n.name x) firm
  pub are : AllZip (IsNeedIn c nodes) (flat_map needs_of firm) ks

-- the place of a node's base where it has an extra, and none elsewhere
abbrev pub IsBasePlace : List Node → Node → Option (List ℕ) → Option ℕ → Type 0
IsBasePlace nodes n None None = Unit {0}
IsBasePlace nodes n None (Some b) = ⊥
IsBasePlace nodes n (Some x) None = ⊥
IsBasePlace nodes n (Some x) (Some b) = slice_get nodes b ≡ Some (base_of n)

-- what is known of a node
pub record IsDraft (c : Packages) (wish : WishFields) (R : Region) (nodes : List Node) (n : Node)
    (f : NodeFacts) : Type 0 where
  pub node : f.node ≡ n
  pub base : IsBasePlace nodes n n.extra f.base
  pub versions : f.versions ≡ eligible c n.name
  pub order : IsOrder c wish n.name f.order
  pub barred : AreFlagsOf (λ (x : Fields). Suits wish.strategy R (is_fit c n.name x)) (eligible c n.name) f.barred
  pub needs : AllZip (AreNeedsIn c R nodes n) (eligible c n.name) f.needs

-- a need of a listed node has its place
need_exists : (c : Packages) (nodes : List Node) (t : Need) → Contains nodes t.node
    → (k : PlaceNeed) × IsNeedIn c nodes t k
need_exists c nodes t m = let p = place_of nodes t.node m in (
  record { node = p.0; permitted = map (meets_list t.specifiers) (eligible c t.node.name) },
  record { at = p.1; permitted = refl },
)

-- a need of a requirement is one of its targets
need_target : (q : RequirementFields) (t : Need) → Contains (needs_of q) t → Contains (targets q) t.node
need_target q t h =
    let f = contains_from_map (λ (m : Node). record { node = m; specifiers = q.specifiers }) (targets q) t h in
    subst (Contains (targets q)) (sym (ap (λ (z : Need). z.node) f.2)) f.1

-- where its base is listed, a node has its place
base_place : (nodes : List Node) (n : Node) → Contains nodes (base_of n)
    → (b : Option ℕ) × IsBasePlace nodes n n.extra b
base_place nodes n m = step n.extra
  where
    step : (x : Option (List ℕ)) → (b : Option ℕ) × IsBasePlace nodes n x b
    step None = (None, tt)
    step (Some x) = let p = place_of nodes (base_of n) m in (Some p.0, p.1)

module _ (c : Packages) (starts : List Node) (wish : WishFields) (R : Region) (asked : IsAskedOf c starts)
    (tree : HasTree R) (trees : TruthTrees) (decide : RegionsDecide) (increase : EligibleRises) (same : PreferenceSame)
    (nodes : List Node) (are : AreNodes c starts R nodes) where
  -- a version has needs: what its firm requirements aim at is reached
  needs_exist : (n : Node) (x : Fields) → Contains nodes n → Contains (eligible c n.name) x
      → (ks : List PlaceNeed) × AreNeedsIn c R nodes n x ks
  needs_exist n x m e =
      let qs : List RequirementFields = requirements c n.name x in
      let firm = kept_exists (IsFirm qs R n) qs (firm_decided c R decide asked.requirements tree n x) in
      let ks = zip_exists (IsNeedIn c nodes) (flat_map needs_of firm.0) (λ t h.
      let q = contains_from_flat needs_of firm.0 t h in
      let leads : Leads c R n t.node = record {
        version = x;
        is_eligible = e;
        requirement = q.0;
        firm = kept_from (IsFirm qs R n) qs firm.0 q.0 firm.1 q.1;
        aimed = need_target q.0 t q.2;
      } in
      need_exists c nodes t (are.listed t.node (led n t.node (are.reached n m) leads))) in
      (ks.0, record { firm = firm.0; kept = firm.1; are = ks.1 })

  -- what is known of a listed node
  draft_exists : (n : Node) → Contains nodes n → (f : NodeFacts) × IsDraft c wish R nodes n f
  draft_exists n m =
      let vs : List Fields = eligible c n.name in
      let suits : Fields → Type 0 = (λ x. Suits wish.strategy R (is_fit c n.name x)) in
      let first = base_reached c starts R n asked.project (are.reached n m) in
      let base = base_place nodes n (are.listed (base_of n) first) in
      let order = order_exists increase same c wish n.name asked.packages in
      let barred = flags_exist suits vs
      (λ x e. decide.suits wish.strategy R (is_fit c n.name x) tree (trees.fit c n.name x)) in
      let needs = zip_exists (AreNeedsIn c R nodes n) vs (λ x e. needs_exist n x m e) in
      let facts : NodeFacts = record {
        node = n;
        base = base.0;
        versions = vs;
        order = order.0;
        barred = barred.0;
        needs = needs.0;
      } in (
        facts,
        record {
          node = refl;
          base = base.1;
          versions = refl;
          order = order.1;
          barred = barred.1;
          needs = needs.1;
        },
      )

  -- what is known of each node
  pub drafts_exist : (fs : List NodeFacts) × AllZip (IsDraft c wish R nodes) nodes fs
  drafts_exist = zip_exists (IsDraft c wish R nodes) nodes draft_exists
