-- The edges of a node at a version are those that were made.
use Rattle.std.proofs.Common.{◌≡◌, ℕ, List, [], map, length, Bool, true, false, ◌&&◌, Option, Some, None, Contains, refl, sym, ap, ap₂, ◌∙◌, subst, is_lt}
use Rattle.std.specs.List.{slice_get}
use Rattle.std.specs.Option.{option_cmp}
use Rattle.std.specs.Ordering.{ordering_then}
use Rattle.std.specs.declared.cmp.Ordering.TheVariants.{Equal}
use Rattle.ul_base.specs.Names.{name_cmp}
use Rattle.ul_base.specs.declared.node.Node.{Node}
use Rattle.ul_base.proofs.ForCallers.{contains_from_map, contains_map, some_is}
use Rattle.ul_version.specs.Fields.{Fields}
use Rattle.ul_version.specs.Order.{version_cmp}
use Rattle.ul_comparison.specs.Worlds.{WorldFields, IsWorld}
use Rattle.ul_requirement.specs.Fields.{RequirementFields, VersionsDiffer}
use Rattle.ul_requirement.specs.Laws.{UnnamedNeverApplies}
use Rattle.ul_requirement.specs.Truth.{applies_at, targets}
use Rattle.ul_nodes.specs.Plain.{Plain}
use Rattle.ul_tree.specs.Regions.{region_of}
use Rattle.ul_algebra.specs.Spelled.{tree_of}
use Rattle.ul_index.specs.Catalogs.{Packages, releases_of, requirements}
use Rattle.ul_index.specs.Eligible.{eligible}
use Rattle.ul_index.specs.Laws.{EligibleRises}
use Rattle.ul_index.specs.Serves.{Selection, choice_of}
use Rattle.ul_lock.specs.declared.parts.Edge.{Edge}
use Rattle.ul_lock.specs.Orders.{edge_less}
use Rattle.ul_lock.specs.Walk.{Pick}
use Rattle.ul_region.specs.Truths.{PassView, DiagramMark, IsTruth, region_at}
use Rattle.ul_sound.specs.Merged.{AreEdgesOf, IsRightEdge, IsSimplified, IsTrueEdge, IsTrueSomewhere, edge_key}
use Rattle.ul_merge.specs.Blocks.{AreUsers, leaves_by}
use Rattle.ul_merge.specs.Edges.{AreTruths, IsMadeEdge, MakesEdge, group_truth, leaves_in, picked, requirements_in}
use Rattle.ul_merge.specs.Gathered.{AreGroups, IsGathered}
use Rattle.ul_merge.specs.Keys.{pick_cmp, pick_of}
use Rattle.ul_merge.specs.Made.{AreMade}
use Rattle.ul_merge.specs.Rows.{aim_rows, all_uses, use_row}
use Rattle.ul_region.specs.Rows.{asked_at}
use Rattle.ul_region.specs.Unions.{some_holds}
use Rattle.ul_merge.specs.declared.gathering.Entry.{Entry}
use Rattle.ul_merge.specs.declared.gathering.Group.{Group}
use Rattle.ul_merge.specs.declared.keys.PickKey.{PickKey}
use Rattle.ul_merge.specs.declared.targets.Use.{Use}
use Rattle.ul_merge.proofs.Exact.{groups_through, level_picks, picks_same, picks_total, same_group}
use Rattle.ul_merge.proofs.LeafFacts.{HoldsThere, IsPlaced, choice_here, choice_there, holds_from, holds_to, leaf_in, leaf_place, place_in, place_of, truth_of}
use Rattle.ul_merge.proofs.Makes.{made_index}
use Rattle.ul_merge.proofs.RowFacts.{IsUse, aims_from, aims_to, asked_in, asked_where, uses_from, uses_to}

and_left : (a b : Bool) → (a && b) ≡ true → a ≡ true
and_left true b e = refl
and_left false b e = cc

and_right : (a b : Bool) → (a && b) ≡ true → b ≡ true
and_right true b e = e
and_right false b e = cc

and_both : (a b : Bool) → a ≡ true → b ≡ true → (a && b) ≡ true
and_both a b e f = ap₂ ◌&&◌ e f

not_both : (b : Bool) → b ≡ true → b ≡ false → ⊥
not_both true e f = cc
not_both false e f = cc

-- what edges of a node are made of
pub record AreEdgeParts (h : PassView) (c : Packages) (ms : List DiagramMark) (ss : List Selection) (p : Pick) (users : List ℕ) (rs : List RequirementFields) (ts : List DiagramMark)
    (es : List (Entry PickKey Use)) (gs : List (Group PickKey Use)) : Type 0 where
  pub law : EligibleRises
  pub differ : (n : List ℕ) → VersionsDiffer (releases_of c n)
  pub eligible_in : (s : Selection) (n : Node) (v : Fields) → Contains ss s → choice_of s n ≡ Some v → Contains (eligible c n.name) v
  pub as_many : length ms ≡ length ss
  pub users_are : AreUsers ss p users
  pub unnamed : UnnamedNeverApplies
  pub asked : rs ≡ asked_at p.0 (requirements c p.0.name p.1)
  pub truths : AreTruths h p.0 rs ts
  pub rows : map use_row es ≡ all_uses ss users (aim_rows 0 rs)
  pub groups : AreGroups pick_cmp es gs

module _ (h : PassView) (c : Packages) (ms : List DiagramMark) (ss : List Selection) (p : Pick) (users : List ℕ) (rs : List RequirementFields) (ts : List DiagramMark)
    (es : List (Entry PickKey Use)) (gs : List (Group PickKey Use)) (parts : AreEdgeParts h c ms ss p users rs ts es gs) (supported : Plain) where
  -- an entry is of a leaf and a target
  entry_use : (e : Entry PickKey Use) → Contains es e → IsUse ss users (aim_rows 0 rs) (use_row e)
  entry_use e m = uses_from ss users (aim_rows 0 rs) (use_row e) (subst (λ (xs : List (Pick × Use)). Contains xs (use_row e)) parts.rows (contains_map use_row es e m))

  entry_eligible : (e : Entry PickKey Use) → Contains es e → Contains (eligible c e.key.node.now.name) e.key.version.now
  entry_eligible e m =
      let there : (s : Selection) × (slice_get ss e.value.leaf ≡ Some s) × (choice_of s e.key.node.now ≡ Some e.key.version.now) =
      choice_there ss e.value.leaf e.key.node.now e.key.version.now (entry_use e m).chosen in
      parts.eligible_in there.0 e.key.node.now e.key.version.now (place_in ss e.value.leaf there.0 there.1) there.2

  group_eligible : (g : Group PickKey Use) → Contains gs g → Contains (eligible c g.key.node.now.name) g.key.version.now
  group_eligible g m =
      let own : (e : Entry PickKey Use) × Contains es e × (e.key ≡ g.key) = parts.groups.own g m in
      subst (λ (k : PickKey). Contains (eligible c k.node.now.name) k.version.now) own.2 (entry_eligible own.0 own.1)

  -- the entry of a group's value
  value_use : (g : Group PickKey Use) (u : Use) → Contains gs g → Contains g.values.items u → IsUse ss users (aim_rows 0 rs) (pick_of g.key, u)
  value_use g u m n =
      let from : (e : Entry PickKey Use) × Contains es e × (pick_cmp g.key e.key ≡ Equal) × (e.value ≡ u) = parts.groups.from g u m n in
      let same : pick_of g.key ≡ pick_of from.0.key = picks_same parts.law c parts.differ g.key from.0.key (group_eligible g m) (entry_eligible from.0 from.1) from.2 in
      subst (λ (x : Pick × Use). IsUse ss users (aim_rows 0 rs) x) (ap₂ (λ (a : Pick) (b : Use). (a, b)) (sym same) from.3) (entry_use from.0 from.1)

  -- where the edge was made true it is true
  edge_from : (g : Group PickKey Use) (w : WorldFields) → Contains gs g → IsWorld w → group_truth ms ts g w ≡ true → IsTrueEdge c (leaves_by ms ss) p (pick_of g.key) w
  edge_from g w m is e =
      let one : HoldsThere ms (leaves_in g) w = holds_from ms (leaves_in g) w (and_left (some_holds (picked ms (leaves_in g)) w) (some_holds (picked ts (requirements_in g)) w) e) in
      let two : HoldsThere ts (requirements_in g) w = holds_from ts (requirements_in g) w (and_right (some_holds (picked ms (leaves_in g)) w) (some_holds (picked ts (requirements_in g)) w) e) in
      let u : (u : Use) × Contains g.values.items u × (one.place ≡ u.leaf) = contains_from_map (λ (x : Use). x.leaf) g.values.items one.place one.listed in
      let v : (v : Use) × Contains g.values.items v × (two.place ≡ v.requirement) = contains_from_map (λ (x : Use). x.requirement) g.values.items two.place two.listed in
      let a : IsUse ss users (aim_rows 0 rs) (pick_of g.key, u.0) = value_use g u.0 m u.1 in
      let b : IsUse ss users (aim_rows 0 rs) (pick_of g.key, v.0) = value_use g v.0 m v.1 in
      let there : (s : Selection) × (slice_get ss u.0.leaf ≡ Some s) × (choice_of s g.key.node.now ≡ Some g.key.version.now) =
      choice_there ss u.0.leaf g.key.node.now g.key.version.now a.chosen in
      let r : (r : RequirementFields) × (slice_get rs v.0.requirement ≡ Some r) × Contains (targets r) g.key.node.now = aims_from rs (g.key.node.now, v.0.requirement) b.aim in
      let t : (t : DiagramMark) × (slice_get ts v.0.requirement ≡ Some t) × IsTruth h t (applies_at r.0 p.0) = truth_of h p.0 rs ts v.0.requirement r.0 parts.truths r.1 in
      let marks : two.mark ≡ t.0 = some_is {o = slice_get ts two.place} two.at (ap (slice_get ts) v.2 ∙ t.1) in
      let holds : applies_at r.0 p.0 w ≡ true = sym (t.2.truth.truth w [] is) ∙ (ap (λ (d : DiagramMark). region_at d w) (sym marks) ∙ two.holds) in
      let listed : Contains (requirements c p.0.name p.1) r.0 = asked_in p.0 (requirements c p.0.name p.1) r.0
      (subst (λ (qs : List RequirementFields). Contains qs r.0) parts.asked (place_in rs v.0.requirement r.0 r.1)) in
      record {
        leaf = record { region = tree_of one.mark; picks = there.0 };
        listed = leaf_in ms ss u.0.leaf one.mark there.0 (ap (slice_get ms) (sym u.2) ∙ one.at) there.1;
        within = one.holds;
        source = sym (choice_here ss u.0.leaf there.0 p.0 there.1) ∙ parts.users_are.each u.0.leaf a.leaf;
        target = there.2;
        requirement = r.0;
        applied = record { listed = listed; somewhere = (w, is, one.holds, holds) };
        aimed = r.2;
        holds = holds;
      }

  -- where the edge is true it was made true, for its group
  pub record HasGroup (q : Pick) (w : WorldFields) : Type 0 where
    pub group : Group PickKey Use
    pub listed : Contains gs group
    pub key : pick_of group.key ≡ q
    pub holds : group_truth ms ts group w ≡ true

  edge_to : (q : Pick) (w : WorldFields) → IsWorld w → IsTrueEdge c (leaves_by ms ss) p q w → HasGroup q w
  edge_to q w is t =
      let l : IsPlaced ms ss t.leaf = leaf_place ms ss t.leaf t.listed in
      let user : Contains users l.place = parts.users_are.all l.place (choice_here ss l.place t.leaf.picks p.0 l.picks ∙ t.source) in
      let r : (j : ℕ) × (slice_get rs j ≡ Some t.requirement) = place_of rs t.requirement (subst (λ (qs : List RequirementFields). Contains qs t.requirement) (sym parts.asked)
      (asked_where parts.unnamed p.0 (requirements c p.0.name p.1) t.requirement w t.applied.listed t.holds)) in
      let u : Use = record { leaf = l.place; requirement = r.0 } in
      let row : Contains (map use_row es) (q, u) = subst (λ (xs : List (Pick × Use)). Contains xs (q, u)) (sym parts.rows)
      (uses_to ss users (aim_rows 0 rs) q.0 r.0 l.place q.1 (aims_to rs r.0 t.requirement q.0 r.1 t.aimed) user (choice_here ss l.place t.leaf.picks q.0 l.picks ∙ t.target)) in
      let e : (e : Entry PickKey Use) × Contains es e × ((q, u) ≡ use_row e) = contains_from_map use_row es (q, u) row in
      let g : IsGathered pick_cmp gs e.0 = parts.groups.all e.0 e.1 in
      let same : pick_of g.0.key ≡ pick_of e.0.key = picks_same parts.law c parts.differ g.0.key e.0.key (group_eligible g.0 g.1) (entry_eligible e.0 e.1) g.2 in
      let mine : Contains g.0.values.items u = subst (Contains g.0.values.items) (ap (λ (x : Pick × Use). x.1) (sym e.2)) g.3 in
      let d : (d : DiagramMark) × (slice_get ts r.0 ≡ Some d) × IsTruth h d (applies_at t.requirement p.0) = truth_of h p.0 rs ts r.0 t.requirement parts.truths r.1 in
      record {
        group = g.0;
        listed = g.1;
        key = same ∙ ap (λ (x : Pick × Use). x.0) (sym e.2);
        holds = and_both (some_holds (picked ms (leaves_in g.0)) w) (some_holds (picked ts (requirements_in g.0)) w)
            (holds_to ms (leaves_in g.0) w (record {
              place = l.place;
              mark = l.mark;
              listed = contains_map (λ (x : Use). x.leaf) g.0.values.items u mine;
              at = l.region;
              holds = ap (λ (k : Plain). region_tree_at k w) l.is ∙ t.within;
            }))
            (holds_to ts (requirements_in g.0) w (record {
              place = r.0;
              mark = d.0;
              listed = contains_map (λ (x : Use). x.requirement) g.0.values.items u mine;
              at = d.1;
              holds = d.2.truth.truth w [] is ∙ t.holds;
            }));
      }
    where
      region_tree_at : Plain → WorldFields → Bool
      region_tree_at k = region_of k

  -- both ways, for a group
  edge_is : (g : Group PickKey Use) (w : WorldFields) → Contains gs g → IsWorld w → IsTrueEdge c (leaves_by ms ss) p (pick_of g.key) w → group_truth ms ts g w ≡ true
  edge_is g w m is t =
      let f : HasGroup (pick_of g.key) w = edge_to (pick_of g.key) w is t in
      let same : f.group ≡ g = same_group pick_cmp picks_total gs f.group g parts.groups.rises f.listed m (level_picks f.group.key g.key f.key) in
      subst (λ (x : Group PickKey Use). group_truth ms ts x w ≡ true) same f.holds

  right_edge : (g : Group PickKey Use) (e : Edge) → Contains gs g → IsMadeEdge g.key.node.now g.key.version.now (group_truth ms ts g) supported e
      → IsTrueSomewhere c (leaves_by ms ss) p (edge_key e) × IsRightEdge c (leaves_by ms ss) supported p e
  right_edge g e m made =
      let key : pick_of g.key ≡ edge_key e = ap₂ (λ (a : Node) (b : Fields). (a, b)) (sym made.target) (sym made.version) in
      subst (λ (q : Pick). IsTrueSomewhere c (leaves_by ms ss) p q × IsSimplified (IsTrueEdge c (leaves_by ms ss) p q) supported e.marker) key (
        (made.somewhere.0, made.somewhere.1, edge_from g made.somewhere.0 m made.somewhere.1 made.somewhere.2),
        record {
          tree = made.marker.tree;
          reduced = made.marker.reduced;
          truth = λ w x is. (
            (λ b. edge_from g w m is ((made.marker.truth w x is).0 b)),
            (λ t. (made.marker.truth w x is).1 (edge_is g w m is t)),
          );
          simplifies = made.marker.simplifies;
        },
      )

  keeps : (a b : Group PickKey Use) (x y : Edge) → MakesEdge ms ts supported a (Some x) → MakesEdge ms ts supported b (Some y) → is_lt (pick_cmp a.key b.key) ≡ true → edge_less x y ≡ true
  keeps a b x y m n lt =
      let first : pick_of a.key ≡ edge_key x = ap₂ (λ (k : Node) (v : Fields). (k, v)) (sym m.target) (sym m.version) in
      let second : pick_of b.key ≡ edge_key y = ap₂ (λ (k : Node) (v : Fields). (k, v)) (sym n.target) (sym n.version) in
      ap₂ (λ (q r : Pick). is_lt (ordering_then (name_cmp q.0.name r.0.name) (ordering_then (version_cmp q.1 r.1) (option_cmp name_cmp q.0.extra r.0.extra)))) (sym first) (sym second) ∙ lt

  wanted_edge : (q : Pick) → IsTrueSomewhere c (leaves_by ms ss) p q
      → (g : Group PickKey Use) × Contains gs g × ((o : Option Edge) → MakesEdge ms ts supported g o → (e : Edge) × (o ≡ Some e) × (edge_key e ≡ q))
  wanted_edge q t =
      let f : HasGroup q t.0 = edge_to q t.0 t.1 t.2 in
      (f.group, f.listed, λ o m. made_one f o m)
    where
      made_one : (f : HasGroup q t.0) (o : Option Edge) → MakesEdge ms ts supported f.group o → (e : Edge) × (o ≡ Some e) × (edge_key e ≡ q)
      made_one f None m = absurd (not_both (group_truth ms ts f.group t.0) f.holds (m t.0 t.1))
      made_one f (Some e) m = (e, refl, ap₂ (λ (a : Node) (b : Fields). (a, b)) m.target m.version ∙ f.key)

  -- the edges
  pub edges_index : (eds : List Edge) → AreMade (MakesEdge ms ts supported) gs eds → AreEdgesOf c (leaves_by ms ss) supported p eds
  edges_index eds made = made_index (MakesEdge ms ts supported) (λ (a b : Group PickKey Use). is_lt (pick_cmp a.key b.key)) edge_less (groups_through pick_cmp picks_total) keeps
      edge_key (IsTrueSomewhere c (leaves_by ms ss) p) (IsRightEdge c (leaves_by ms ss) supported p) gs eds parts.groups.rises made
      (λ g e m k. right_edge g e m k) wanted_edge
