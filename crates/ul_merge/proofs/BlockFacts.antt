-- What blocks are made of, read through slices.
use Rattle.std.proofs.Common.{◌≡◌, ℕ, List, map, Option, Contains, sym, ap, ◌∙◌, subst}
use Rattle.std.specs.Prelude.{All}
use Rattle.std.proofs.lemmas.List.Elements.{All-contains_itself, All-weaker}
use Rattle.ul_base.specs.declared.node.Node.{Node}
use Rattle.ul_interner.specs.Known.{Knows}
use Rattle.ul_version.specs.Fields.{Fields}
use Rattle.ul_requirement.specs.Fields.{ReleaseFields, RequirementFields}
use Rattle.ul_requirement.specs.Laws.{UnnamedNeverApplies}
use Rattle.ul_requirement.specs.Truth.{base, with_extra}
use Rattle.ul_index.specs.Catalogs.{Packages, release_of, requirements, requirements_in}
use Rattle.ul_index.specs.Laws.{EligibleRises}
use Rattle.ul_index.specs.Serves.{Selection}
use Rattle.ul_lock.specs.declared.parts.Edge.{Edge}
use Rattle.ul_lock.specs.declared.parts.Extra.{Extra}
use Rattle.ul_lock.specs.Walk.{Pick}
use Rattle.ul_region.specs.Truths.{PassView, DiagramMark}
use Rattle.ul_region.proofs.ForCallers.{still}
use Rattle.ul_sound.specs.Merged.{AreEdgesOf}
use Rattle.ul_merge.specs.Blocks.{AreMadeExtras, AreSources, AreUsers, IsPairGroup, MakesExtra, catalog_in, leaves_in, supported_in}
use Rattle.ul_merge.specs.Edges.{AreTruths, MakesEdge}
use Rattle.ul_merge.specs.Gathered.{AreGroups}
use Rattle.ul_merge.specs.Keys.{extra_cmp, pair_of, pick_of}
use Rattle.ul_merge.specs.Made.{AreMade}
use Rattle.ul_merge.specs.Members.{AreUses}
use Rattle.ul_merge.specs.Rows.{aim_of, aim_rows, all_uses, base_rows, extra_entry, extra_rows, member_of}
use Rattle.ul_region.specs.Rows.{asked_at}
use Rattle.ul_merge.specs.declared.gathering.Entry.{Entry}
use Rattle.ul_merge.specs.declared.gathering.Group.{Group}
use Rattle.ul_merge.specs.declared.keys.ExtraKey.{ExtraKey}
use Rattle.ul_merge.specs.declared.keys.PairKey.{PairKey}
use Rattle.ul_merge.specs.declared.keys.PickKey.{PickKey}
use Rattle.ul_merge.specs.declared.members.Member.{Member}
use Rattle.ul_merge.specs.declared.sources.Sources.{Sources}
use Rattle.ul_merge.specs.declared.targets.Aim.{Aim}
use Rattle.ul_merge.specs.declared.targets.Use.{Use}
use Rattle.ul_merge.proofs.BlockIndex.{base_users_are, extra_users_are, extras_index}
use Rattle.ul_merge.proofs.EdgeFacts.{regions_still}
use Rattle.ul_merge.proofs.EdgeIndex.{edges_index}

-- what a lock is merged of, where more is known
pub sources_still : (g h : PassView) (s : Sources) → Knows g h → AreSources g s → AreSources h s
sources_still g h s k a = record {
  supported = still g h s.supported.now k a.supported;
  regions = regions_still g h s.regions.now k a.regions;
  within = a.within;
  as_many = a.as_many;
  eligible = a.eligible;
  differ = a.differ;
}

-- the edges of a node
pub edges_are : (s : Sources) (k : PickKey) (h : PassView) (h0 : PassView) (users : List ℕ) (rs : List RequirementFields) (ts slice : List DiagramMark) (aims lent : List Aim) (gs groups : List (Group PickKey Use)) (eds edges : List Edge)
    → EligibleRises → UnnamedNeverApplies → AreSources h0 s → AreUsers s.choices.now (pick_of k) users → rs ≡ asked_at k.node.now (requirements (catalog_in s) k.node.now.name k.version.now) → AreTruths h k.node.now rs ts
    → map aim_of aims ≡ aim_rows 0 rs → lent ≡ aims → AreUses s.choices.now users (map aim_of lent) gs → slice ≡ ts → groups ≡ gs
    → AreMade (MakesEdge s.regions.now slice (supported_in s)) groups eds → edges ≡ eds → AreEdgesOf (catalog_in s) (leaves_in s) (supported_in s) (pick_of k) edges
edges_are s k h h0 users rs ts slice aims lent gs groups eds edges law unnamed a u asked truths rows lend uses e f made is =
    subst (AreEdgesOf (catalog_in s) (leaves_in s) (supported_in s) (pick_of k)) (sym is)
    (edges_index h s.catalog.now s.regions.now s.choices.now (pick_of k) users rs ts uses.0 gs (record {
      law = law;
      differ = a.differ;
      eligible_in = a.eligible;
      as_many = a.as_many;
      users_are = u;
      unnamed = unnamed;
      asked = asked;
      truths = truths;
      rows = uses.1 ∙ ap (λ (xs : List (Node × ℕ)). all_uses s.choices.now users xs) (ap (map aim_of) lend ∙ rows);
      groups = uses.2;
    }) (supported_in s) eds
    (subst (λ (ms : List DiagramMark). AreMade (MakesEdge s.regions.now ms (supported_in s)) gs eds) e
    (subst (λ (xs : List (Group PickKey Use)). AreMade (MakesEdge s.regions.now slice (supported_in s)) xs eds) f made)))

-- what a release that was found requires
pub required_are : (c : Packages) (n : List ℕ) (v : Fields) (rs : List RequirementFields) (o : Option ReleaseFields) → rs ≡ requirements_in o → o ≡ release_of c n v → rs ≡ requirements c n v
unfolding requirements
required_are c n v rs o e f = e ∙ ap requirements_in f

-- the leaves that chose a package's base
pub base_users_in : (ss : List Selection) (g : Group PairKey Member) (ms : List Member) (users slice : List ℕ) (p : Pick) → IsPairGroup ss g → ms ≡ g.values.items → users ≡ base_rows (map member_of ms) → slice ≡ users
    → p ≡ (base g.key.name.now, g.key.version.now) → AreUsers ss p slice
base_users_in ss g ms users slice p h e is s at =
    subst (AreUsers ss p) (sym (s ∙ (is ∙ ap (λ (xs : List Member). base_rows (map member_of xs)) e)))
    (subst (λ (q : Pick). AreUsers ss q (base_rows (map member_of g.values.items))) (sym at) (base_users_are ss (pair_of g.key) (map member_of g.values.items) h))

-- the extras of a package
pub extra_groups : (ss : List Selection) (g : Group PairKey Member) (ms : List Member) (es : List (Entry ExtraKey ℕ)) (gs slice : List (Group ExtraKey ℕ)) → IsPairGroup ss g → ms ≡ g.values.items
    → map extra_entry es ≡ extra_rows (map member_of ms) → AreGroups extra_cmp es gs → slice ≡ gs
    → All (λ (x : Group ExtraKey ℕ). AreUsers ss (with_extra g.key.name.now x.key.name.now, g.key.version.now) x.values.items) slice
extra_groups ss g ms es gs slice h e rows groups f =
    subst (All (λ (x : Group ExtraKey ℕ). AreUsers ss (with_extra g.key.name.now x.key.name.now, g.key.version.now) x.values.items)) (sym f) (All-weaker (Contains gs) (λ (x : Group ExtraKey ℕ). AreUsers ss (with_extra g.key.name.now x.key.name.now, g.key.version.now) x.values.items)
    (λ x m. extra_users_are ss (pair_of g.key) (map member_of g.values.items) h es gs (rows ∙ ap (λ (xs : List Member). extra_rows (map member_of xs)) e) groups x m) gs (All-contains_itself gs))

pub extras_are : (s : Sources) (h : PassView) (g : Group PairKey Member) (ms : List Member) (es : List (Entry ExtraKey ℕ)) (gs slice : List (Group ExtraKey ℕ)) (xs extras : List Extra) → AreSources h s
    → IsPairGroup s.choices.now g → ms ≡ g.values.items → map extra_entry es ≡ extra_rows (map member_of ms) → AreGroups extra_cmp es gs → slice ≡ gs
    → AreMade (MakesExtra (catalog_in s) (leaves_in s) (supported_in s) (pair_of g.key)) slice xs → extras ≡ xs → AreMadeExtras (catalog_in s) (leaves_in s) (supported_in s) (pair_of g.key) extras
extras_are s h g ms es gs slice xs extras a m e rows groups f made is =
    subst (AreMadeExtras (catalog_in s) (leaves_in s) (supported_in s) (pair_of g.key)) (sym is)
    (extras_index s.choices.now (pair_of g.key) (map member_of g.values.items) m es gs (rows ∙ ap (λ (ys : List Member). extra_rows (map member_of ys)) e) groups
    s.catalog.now s.regions.now a.as_many (supported_in s) xs
    (subst (λ (ys : List (Group ExtraKey ℕ)). AreMade (MakesExtra (catalog_in s) (leaves_in s) (supported_in s) (pair_of g.key)) ys xs) f made))
