-- The packages of a lock, and their extras, are those that were made.
use Rattle.std.proofs.Common.{◌≡◌, ◌⊎◌, ℕ, List, [], ◌∷◌, map, length, Bool, true, false, Option, Some, None, Contains, refl, sym, ap, ap₂, ◌∙◌, subst, inl, inr, ⊎_elim, is_lt}
use Rattle.std.specs.Prelude.{All}
use Rattle.std.specs.List.{slice_get}
use Rattle.std.specs.Ordering.{ordering_then}
use Rattle.std.specs.declared.cmp.Ordering.TheVariants.{Equal}
use Rattle.ul_base.specs.Names.{name_cmp}
use Rattle.ul_base.specs.declared.node.Node.{Node}
use Rattle.ul_base.proofs.ForCallers.{contains_from_map, contains_map}
use Rattle.ul_version.specs.Fields.{Fields}
use Rattle.ul_version.specs.Order.{version_cmp}
use Rattle.ul_requirement.specs.Fields.{VersionsDiffer}
use Rattle.ul_requirement.specs.Truth.{base, with_extra}
use Rattle.ul_nodes.specs.Plain.{Plain}
use Rattle.ul_index.specs.Catalogs.{Packages, releases_of}
use Rattle.ul_index.specs.Eligible.{eligible}
use Rattle.ul_index.specs.Laws.{EligibleRises}
use Rattle.ul_index.specs.Serves.{Selection, choice_of}
use Rattle.ul_lock.specs.declared.parts.Extra.{Extra}
use Rattle.ul_lock.specs.declared.parts.Locked.{Locked}
use Rattle.ul_lock.specs.Orders.{block_less, extra_less}
use Rattle.ul_region.specs.Truths.{DiagramMark}
use Rattle.ul_sound.specs.Indexes.{IsIndex}
use Rattle.ul_sound.specs.Leaves.{HasPair, IsChosen, LeafFields}
use Rattle.ul_sound.specs.Merged.{AreEdgesOf, Pair, block_key, extra_key}
use Rattle.ul_merge.specs.Blocks.{AreMadeExtras, ArePairMembers, AreUsers, IsMadeBlock, IsMadeExtra, IsPairGroup, MakesBlock, MakesExtra, leaves_by}
use Rattle.ul_merge.specs.Chosen.{choice_at}
use Rattle.ul_merge.specs.Gathered.{AreGroups, IsGathered}
use Rattle.ul_merge.specs.Keys.{extra_cmp, pair_cmp, pair_of}
use Rattle.ul_merge.specs.Made.{AreMade}
use Rattle.ul_merge.specs.Rows.{MemberFields, all_members, base_rows, extra_entry, extra_rows, member_of, member_row}
use Rattle.ul_merge.specs.declared.gathering.Entry.{Entry}
use Rattle.ul_merge.specs.declared.gathering.Group.{Group}
use Rattle.ul_merge.specs.declared.keys.ExtraKey.{ExtraKey}
use Rattle.ul_merge.specs.declared.keys.PairKey.{PairKey}
use Rattle.ul_merge.specs.declared.members.Member.{Member}
use Rattle.ul_merge.proofs.Exact.{extras_total, groups_through, level_extras, level_pairs, names_same, pairs_same, pairs_total, same_group}
use Rattle.ul_merge.proofs.LeafFacts.{chosen_at, chosen_there, choice_there, place_in}
use Rattle.ul_merge.proofs.Makes.{made_index}
use Rattle.ul_merge.proofs.RowFacts.{base_from, base_to, extra_from, extra_to, members_from, members_to}

-- a node is its name and its extra
node_is : (n : Node) (name : List ℕ) (o : Option (List ℕ)) → n.name ≡ name → n.extra ≡ o → n ≡ record { name = name; extra = o }
node_is n name o e f = λ i. record { name = e i; extra = f i }

-- ---- the members of a package

-- the leaves that chose its base
pub base_users_are : (ss : List Selection) (i : Pair) (ms : List MemberFields) → ArePairMembers ss i ms → AreUsers ss (base i.0, i.1) (base_rows ms)
base_users_are ss i ms h = record {
  each = λ j m. let f : (n : Node) × Contains ms (n, j) × (n.extra ≡ None) = base_from ms j m in
      let g : (f.0.name ≡ i.0) × (choice_at ss j f.0 ≡ Some i.1) = h.each (f.0, j) f.1 in
      subst (λ (n : Node). choice_at ss j n ≡ Some i.1) (node_is f.0 i.0 None g.0 f.2) g.1;
  all = λ j e. base_to ms (base i.0) j (h.all (base i.0, j) refl e) refl;
}

module _ (ss : List Selection) (i : Pair) (ms : List MemberFields) (members : ArePairMembers ss i ms) (es : List (Entry ExtraKey ℕ)) (gs : List (Group ExtraKey ℕ))
    (rows : map extra_entry es ≡ extra_rows ms) (groups : AreGroups extra_cmp es gs) where
  extra_there : (e : Entry ExtraKey ℕ) → Contains es e → choice_at ss e.value (with_extra i.0 e.key.name.now) ≡ Some i.1
  extra_there e m =
      let f : (n : Node) × Contains ms (n, e.value) × (n.extra ≡ Some e.key.name.now) =
      extra_from ms (extra_entry e) (subst (λ (xs : List (List ℕ × ℕ)). Contains xs (extra_entry e)) rows (contains_map extra_entry es e m)) in
      let g : (f.0.name ≡ i.0) × (choice_at ss e.value f.0 ≡ Some i.1) = members.each (f.0, e.value) f.1 in
      subst (λ (n : Node). choice_at ss e.value n ≡ Some i.1) (node_is f.0 i.0 (Some e.key.name.now) g.0 f.2) g.1

  extra_gathered : (x : List ℕ) (j : ℕ) → choice_at ss j (with_extra i.0 x) ≡ Some i.1 → (g : Group ExtraKey ℕ) × Contains gs g × (g.key.name.now ≡ x) × Contains g.values.items j
  extra_gathered x j e =
      let row : Contains (map extra_entry es) (x, j) = subst (λ (xs : List (List ℕ × ℕ)). Contains xs (x, j)) (sym rows)
      (extra_to ms (with_extra i.0 x) x j (members.all (with_extra i.0 x, j) refl e) refl) in
      let f : (y : Entry ExtraKey ℕ) × Contains es y × ((x, j) ≡ extra_entry y) = contains_from_map extra_entry es (x, j) row in
      let g : IsGathered extra_cmp gs f.0 = groups.all f.0 f.1 in (
        g.0,
        g.1,
        names_same g.0.key.name.now f.0.key.name.now g.2 ∙ ap (λ (y : List ℕ × ℕ). y.0) (sym f.2),
        subst (Contains g.0.values.items) (ap (λ (y : List ℕ × ℕ). y.1) (sym f.2)) g.3,
      )

  -- the leaves that chose an extra
  pub extra_users_are : (g : Group ExtraKey ℕ) → Contains gs g → AreUsers ss (with_extra i.0 g.key.name.now, i.1) g.values.items
  extra_users_are g m = record {
    each = λ j n.
        let f : (e : Entry ExtraKey ℕ) × Contains es e × (extra_cmp g.key e.key ≡ Equal) × (e.value ≡ j) = groups.from g j m n in
        ap (λ (k : ℕ). choice_at ss k (with_extra i.0 g.key.name.now)) (sym f.3)
        ∙ (ap (λ (x : List ℕ). choice_at ss f.0.value (with_extra i.0 x)) (names_same g.key.name.now f.0.key.name.now f.2) ∙ extra_there f.0 f.1);
    all = λ j e.
        let f : (h : Group ExtraKey ℕ) × Contains gs h × (h.key.name.now ≡ g.key.name.now) × Contains h.values.items j = extra_gathered g.key.name.now j e in
        subst (λ (h : Group ExtraKey ℕ). Contains h.values.items j) (same_group extra_cmp extras_total gs f.0 g groups.rises f.1 m (level_extras f.0.key g.key f.2)) f.3;
  }

  module _ (c : Packages) (marks : List DiagramMark) (long : length marks ≡ length ss) (supported : Plain) where
    extra_right : (g : Group ExtraKey ℕ) (x : Extra) → Contains gs g → IsMadeExtra c (leaves_by marks ss) supported i g.key.name.now x
        → IsChosen (leaves_by marks ss) (with_extra i.0 x.name) i.1 × AreEdgesOf c (leaves_by marks ss) supported (with_extra i.0 x.name, i.1) x.edges
    extra_right g x m h =
        let own : (e : Entry ExtraKey ℕ) × Contains es e × (e.key ≡ g.key) = groups.own g m in
        subst (λ (y : List ℕ). IsChosen (leaves_by marks ss) (with_extra i.0 y) i.1 × AreEdgesOf c (leaves_by marks ss) supported (with_extra i.0 y, i.1) x.edges) (sym h.named) (
          subst (λ (k : ExtraKey). IsChosen (leaves_by marks ss) (with_extra i.0 k.name.now) i.1) own.2
              (chosen_there marks ss own.0.value (with_extra i.0 own.0.key.name.now) i.1 long (extra_there own.0 own.1)),
          h.edges,
        )

    extra_keeps : (a b : Group ExtraKey ℕ) (x y : Extra) → MakesExtra c (leaves_by marks ss) supported i a (Some x) → MakesExtra c (leaves_by marks ss) supported i b (Some y)
        → is_lt (extra_cmp a.key b.key) ≡ true → extra_less x y ≡ true
    extra_keeps a b x y m n lt = ap₂ (λ (k j : List ℕ). is_lt (name_cmp k j)) m.named n.named ∙ lt

    extra_wanted : (x : List ℕ) → IsChosen (leaves_by marks ss) (with_extra i.0 x) i.1
        → (g : Group ExtraKey ℕ) × Contains gs g × ((o : Option Extra) → MakesExtra c (leaves_by marks ss) supported i g o → (y : Extra) × (o ≡ Some y) × (extra_key y ≡ x))
    extra_wanted x h =
        let j : (j : ℕ) × (choice_at ss j (with_extra i.0 x) ≡ Some i.1) = chosen_at marks ss (with_extra i.0 x) i.1 h in
        let f : (g : Group ExtraKey ℕ) × Contains gs g × (g.key.name.now ≡ x) × Contains g.values.items j.0 = extra_gathered x j.0 j.1 in
        (f.0, f.1, λ o m. one_extra f.0 x f.2 o m)
      where
        one_extra : (g : Group ExtraKey ℕ) (x : List ℕ) → g.key.name.now ≡ x → (o : Option Extra) → MakesExtra c (leaves_by marks ss) supported i g o → (y : Extra) × (o ≡ Some y) × (extra_key y ≡ x)
        one_extra g x e None m = absurd m
        one_extra g x e (Some y) m = (y, refl, m.named ∙ e)

    -- the extras
    pub extras_index : (xs : List Extra) → AreMade (MakesExtra c (leaves_by marks ss) supported i) gs xs → AreMadeExtras c (leaves_by marks ss) supported i xs
    extras_index xs made = made_index (MakesExtra c (leaves_by marks ss) supported i) (λ (a b : Group ExtraKey ℕ). is_lt (extra_cmp a.key b.key)) extra_less
        (groups_through extra_cmp extras_total) extra_keeps extra_key (λ x. IsChosen (leaves_by marks ss) (with_extra i.0 x) i.1)
        (λ x. AreEdgesOf c (leaves_by marks ss) supported (with_extra i.0 x.name, i.1) x.edges) gs xs groups.rises made (λ g x m k. extra_right g x m k) extra_wanted

-- ---- packages

module _ (law : EligibleRises) (c : Packages) (differ : (n : List ℕ) → VersionsDiffer (releases_of c n)) (ss : List Selection)
    (eligible_in : (s : Selection) (n : Node) (v : Fields) → Contains ss s → choice_of s n ≡ Some v → Contains (eligible c n.name) v)
    (es : List (Entry PairKey Member)) (gs : List (Group PairKey Member)) (rows : map member_row es ≡ all_members 0 ss) (groups : AreGroups pair_cmp es gs) where
  -- an entry is of a leaf and a node
  member_there : (e : Entry PairKey Member) → Contains es e → (choice_at ss e.value.leaf e.value.node.now ≡ Some e.key.version.now) × (e.key.name.now ≡ e.value.node.now.name)
  member_there e m = members_from ss (member_row e) (subst (λ (xs : List (Pair × MemberFields)). Contains xs (member_row e)) rows (contains_map member_row es e m))

  member_eligible : (e : Entry PairKey Member) → Contains es e → Contains (eligible c e.key.name.now) e.key.version.now
  member_eligible e m =
      let h : (choice_at ss e.value.leaf e.value.node.now ≡ Some e.key.version.now) × (e.key.name.now ≡ e.value.node.now.name) = member_there e m in
      let s : (s : Selection) × (slice_get ss e.value.leaf ≡ Some s) × (choice_of s e.value.node.now ≡ Some e.key.version.now) =
      choice_there ss e.value.leaf e.value.node.now e.key.version.now h.0 in
      subst (λ (x : List ℕ). Contains (eligible c x) e.key.version.now) (sym h.1) (eligible_in s.0 e.value.node.now e.key.version.now (place_in ss e.value.leaf s.0 s.1) s.2)

  pair_eligible : (g : Group PairKey Member) → Contains gs g → Contains (eligible c g.key.name.now) g.key.version.now
  pair_eligible g m =
      let own : (e : Entry PairKey Member) × Contains es e × (e.key ≡ g.key) = groups.own g m in
      subst (λ (k : PairKey). Contains (eligible c k.name.now) k.version.now) own.2 (member_eligible own.0 own.1)

  -- the group of a chosen node
  gathered_pair : (n : Node) (v : Fields) (i : ℕ) → choice_at ss i n ≡ Some v → (g : Group PairKey Member) × Contains gs g × (pair_of g.key ≡ (n.name, v)) × Contains (map member_of g.values.items) (n, i)
  gathered_pair n v i e =
      let row : Contains (map member_row es) ((n.name, v), (n, i)) = subst (λ (xs : List (Pair × MemberFields)). Contains xs ((n.name, v), (n, i))) (sym rows) (members_to ss i n v e) in
      let f : (x : Entry PairKey Member) × Contains es x × (((n.name, v), (n, i)) ≡ member_row x) = contains_from_map member_row es ((n.name, v), (n, i)) row in
      let g : IsGathered pair_cmp gs f.0 = groups.all f.0 f.1 in
      let same : pair_of g.0.key ≡ pair_of f.0.key = pairs_same law c differ g.0.key f.0.key (pair_eligible g.0 g.1) (member_eligible f.0 f.1) g.2 in (
        g.0,
        g.1,
        same ∙ ap (λ (x : Pair × MemberFields). x.0) (sym f.2),
        subst (Contains (map member_of g.0.values.items)) (ap (λ (x : Pair × MemberFields). x.1) (sym f.2)) (contains_map member_of g.0.values.items f.0.value g.3),
      )

  -- the members of a package's group
  pub pair_group : (g : Group PairKey Member) → Contains gs g → IsPairGroup ss g
  pair_group g m = record {
    each = λ x n. each_member x (contains_from_map member_of g.values.items x n);
    all = λ x e f.
        let k : (h : Group PairKey Member) × Contains gs h × (pair_of h.key ≡ (x.0.name, g.key.version.now)) × Contains (map member_of h.values.items) (x.0, x.1) =
        gathered_pair x.0 g.key.version.now x.1 f in
        let level : pair_of k.0.key ≡ pair_of g.key = k.2 ∙ ap (λ (y : List ℕ). (y, g.key.version.now)) e in
        subst (λ (h : Group PairKey Member). Contains (map member_of h.values.items) x) (same_group pair_cmp pairs_total gs k.0 g groups.rises k.1 m (level_pairs k.0.key g.key level)) k.3;
  }
    where
      each_member : (x : MemberFields) → ((y : Member) × Contains g.values.items y × (x ≡ member_of y)) → (x.0.name ≡ g.key.name.now) × (choice_at ss x.1 x.0 ≡ Some g.key.version.now)
      each_member x f =
          let k : (e : Entry PairKey Member) × Contains es e × (pair_cmp g.key e.key ≡ Equal) × (e.value ≡ f.0) = groups.from g f.0 m f.1 in
          let same : pair_of g.key ≡ pair_of k.0.key = pairs_same law c differ g.key k.0.key (pair_eligible g m) (member_eligible k.0 k.1) k.2 in
          let there : (choice_at ss k.0.value.leaf k.0.value.node.now ≡ Some k.0.key.version.now) × (k.0.key.name.now ≡ k.0.value.node.now.name) = member_there k.0 k.1 in
          subst (λ (y : MemberFields). (y.0.name ≡ g.key.name.now) × (choice_at ss y.1 y.0 ≡ Some g.key.version.now)) (sym (f.2 ∙ ap member_of (sym k.3))) (
            sym (ap (λ (p : Pair). p.0) same ∙ there.1),
            there.0 ∙ ap (λ (p : Pair). Some p.1) (sym same),
          )

  module _ (marks : List DiagramMark) (long : length marks ≡ length ss) (supported : Plain) (Right : Locked → Type 0)
      (right : (i : Pair) (b : Locked) → IsMadeBlock c (leaves_by marks ss) supported i b → HasPair (leaves_by marks ss) i.0 i.1 → Right b) where
    has_pair : (g : Group PairKey Member) → Contains gs g → HasPair (leaves_by marks ss) g.key.name.now g.key.version.now
    has_pair g m =
        let own : (e : Entry PairKey Member) × Contains es e × (e.key ≡ g.key) = groups.own g m in
        let there : (choice_at ss own.0.value.leaf own.0.value.node.now ≡ Some own.0.key.version.now) × (own.0.key.name.now ≡ own.0.value.node.now.name) = member_there own.0 own.1 in
        subst (λ (k : PairKey). HasPair (leaves_by marks ss) k.name.now k.version.now) own.2
        (own.0.value.node.now, sym there.1, chosen_there marks ss own.0.value.leaf own.0.value.node.now own.0.key.version.now long there.0)

    block_right : (g : Group PairKey Member) (b : Locked) → Contains gs g → IsMadeBlock c (leaves_by marks ss) supported (pair_of g.key) b → HasPair (leaves_by marks ss) b.name b.version × Right b
    block_right g b m h = (
      subst (λ (n : List ℕ). HasPair (leaves_by marks ss) n b.version) (sym h.named) (subst (HasPair (leaves_by marks ss) g.key.name.now) (sym h.at) (has_pair g m)),
      right (pair_of g.key) b h (has_pair g m),
    )

    block_keeps : (a b : Group PairKey Member) (x y : Locked) → MakesBlock c (leaves_by marks ss) supported a (Some x) → MakesBlock c (leaves_by marks ss) supported b (Some y)
        → is_lt (pair_cmp a.key b.key) ≡ true → block_less x y ≡ true
    block_keeps a b x y m n lt =
        let first : block_key x ≡ pair_of a.key = ap₂ (λ (k : List ℕ) (v : Fields). (k, v)) m.named m.at in
        let second : block_key y ≡ pair_of b.key = ap₂ (λ (k : List ℕ) (v : Fields). (k, v)) n.named n.at in
        ap₂ (λ (p q : Pair). is_lt (ordering_then (name_cmp p.0 q.0) (version_cmp p.1 q.1))) first second ∙ lt

    block_wanted : (i : Pair) → HasPair (leaves_by marks ss) i.0 i.1
        → (g : Group PairKey Member) × Contains gs g × ((o : Option Locked) → MakesBlock c (leaves_by marks ss) supported g o → (b : Locked) × (o ≡ Some b) × (block_key b ≡ i))
    block_wanted i h =
        let j : (j : ℕ) × (choice_at ss j h.0 ≡ Some i.1) = chosen_at marks ss h.0 i.1 h.2 in
        let f : (g : Group PairKey Member) × Contains gs g × (pair_of g.key ≡ (h.0.name, i.1)) × Contains (map member_of g.values.items) (h.0, j.0) = gathered_pair h.0 i.1 j.0 j.1 in
        (f.0, f.1, λ o m. one_block f.0 i (f.2 ∙ ap (λ (n : List ℕ). (n, i.1)) h.1) o m)
      where
        one_block : (g : Group PairKey Member) (i : Pair) → pair_of g.key ≡ i → (o : Option Locked) → MakesBlock c (leaves_by marks ss) supported g o → (b : Locked) × (o ≡ Some b) × (block_key b ≡ i)
        one_block g i e None m = absurd m
        one_block g i e (Some b) m = (b, refl, ap₂ (λ (k : List ℕ) (v : Fields). (k, v)) m.named m.at ∙ e)

    -- the packages
    pub blocks_index : (bs : List Locked) → AreMade (MakesBlock c (leaves_by marks ss) supported) gs bs
        → IsIndex block_key block_less (λ (i : Pair). HasPair (leaves_by marks ss) i.0 i.1) Right bs
    blocks_index bs made = made_index (MakesBlock c (leaves_by marks ss) supported) (λ (a b : Group PairKey Member). is_lt (pair_cmp a.key b.key)) block_less
        (groups_through pair_cmp pairs_total) block_keeps block_key (λ (i : Pair). HasPair (leaves_by marks ss) i.0 i.1) Right gs bs groups.rises made
        (λ g b m k. block_right g b m k) block_wanted
