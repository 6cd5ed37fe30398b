-- The merged lock is well formed.
use Rattle.std.proofs.Common.{◌≡◌, ◌==◌, ℕ, List, [], ◌∷◌, Bool, true, Option, Some, None, Contains, refl, sym, ap, ◌∙◌, subst, inl, inr, ⊎_elim, is_lt, bytes_eq}
use Rattle.std.proofs.lemmas.Slice.Eq.{bytes_eq-Decides}
use Rattle.std.specs.Bool.{one_answer}
use Rattle.std.specs.Ordering.{ordering_then}
use Rattle.std.specs.List.{list_all}
use Rattle.ul_base.specs.Names.{IsNormalName, name_cmp}
use Rattle.ul_base.specs.declared.node.Node.{Node}
use Rattle.ul_base.proofs.ForCallers.{contains_first, contains_later, contains_cases, none_in, bytes_eq-same}
use Rattle.ul_version.specs.Fields.{Fields, IsVersion}
use Rattle.ul_version.specs.Order.{version_cmp}
use Rattle.ul_version.specs.Texts.{version_text}
use Rattle.ul_comparison.specs.Worlds.{WorldFields, IsWorld}
use Rattle.ul_requirement.specs.Fields.{ReleaseFields, FileFields, IsFile}
use Rattle.ul_requirement.specs.Truth.{base, with_extra}
use Rattle.ul_nodes.specs.Plain.{Plain}
use Rattle.ul_nodes.specs.Reduced.{IsReduced}
use Rattle.ul_tree.specs.Regions.{IsRegionTree}
use Rattle.ul_tree.specs.Simplify.{Simplifies}
use Rattle.ul_tree.specs.Values.{tree_holds}
use Rattle.ul_tree.proofs.ForCallers.{holds_somewhere, no_extra}
use Rattle.ul_lines.specs.Reader.{Each}
use Rattle.ul_index.specs.Catalogs.{Packages, release_of}
use Rattle.ul_index.specs.Eligible.{eligible}
use Rattle.ul_index.specs.Laws.{EligibleSame}
use Rattle.ul_index.specs.Serves.{choice_of}
use Rattle.ul_project.specs.Fields.{ProjectFields}
use Rattle.ul_lock.specs.Region.{IsRegion}
use Rattle.ul_lock.specs.WellFormed.{IsEdge, AreEdges, IsListed, IsPackage, IsWellFormed}
use Rattle.ul_lock.specs.declared.parts.Edge.{Edge}
use Rattle.ul_lock.specs.declared.parts.Extra.{Extra}
use Rattle.ul_lock.specs.declared.parts.Locked.{Locked}
use Rattle.ul_lock.specs.declared.parts.Lock.{Lock}
use Rattle.ul_lock.specs.Increasing.{Rising, NoneOrSeveral}
use Rattle.ul_lock.specs.Orders.{block_less, file_less}
use Rattle.ul_lock.specs.Targets.{count_named, lists_option, is_named, is_target, has_target, have_targets, package_leads_on}
use Rattle.ul_lock.specs.Walk.{Pick}
use Rattle.ul_sound.specs.Leaves.{LeafFields, IsChosen, HasPair}
use Rattle.ul_sound.specs.Merged.{Pair, IsTrueSomewhere, edge_key, block_key, files_in, IsRightEdge, AreEdgesOf, IsWantedExtra, IsBlock, AreSimplified, AreForks, IsMergedLock}
use Rattle.ul_sound.specs.Headline.{IsPick, IsLeafOf, AreMergeable}
use Rattle.ul_sound.proofs.Strict.{blocks_strict}
use Rattle.ul_sound.proofs.RootVersion.{only_version}
use Rattle.ul_sound.proofs.NoExtra.{simplified_region}
use Rattle.ul_sound.proofs.Members.{both_true, each_of, all_pass, one_passes, count_one}

-- ---- forks

several_forks : (s : Plain) (ls : List LeafFields) (ts : List Plain) → AreForks s ls ts → NoneOrSeveral ts
several_forks s [] ts h = subst NoneOrSeveral (sym h) tt
several_forks s (l ∷ []) ts h = subst NoneOrSeveral (sym h) tt
several_forks s (l ∷ m ∷ ls) [] h = absurd h
several_forks s (l ∷ m ∷ ls) (t ∷ []) h = absurd h.1
several_forks s (l ∷ m ∷ ls) (t ∷ u ∷ ts) h = tt

simplified_from : (s : Plain) (ls : List LeafFields) (ts : List Plain) (t : Plain) → AreSimplified s ls ts → Contains ts t → (l : LeafFields) × Contains ls l × Simplifies l.region s t
simplified_from s [] ts t h m = absurd (none_in t (subst (λ xs. Contains xs t) h m))
simplified_from s (l ∷ ls) [] t h m = absurd h
simplified_from s (l ∷ ls) (u ∷ ts) t h m = ⊎_elim
    (λ e. (l, contains_first l ls, subst (Simplifies l.region s) (sym e) h.0))
    (λ r. let found : (k : LeafFields) × Contains ls k × Simplifies k.region s t = simplified_from s ls ts t h.1 r in (found.0, contains_later l ls found.0 found.1, found.2))
    (contains_cases u ts t m)

fork_from : (s : Plain) (ls : List LeafFields) (ts : List Plain) (t : Plain) → AreForks s ls ts → Contains ts t → (l : LeafFields) × Contains ls l × Simplifies l.region s t
fork_from s [] ts t h m = absurd (none_in t (subst (λ xs. Contains xs t) h m))
fork_from s (l ∷ []) ts t h m = absurd (none_in t (subst (λ xs. Contains xs t) h m))
fork_from s (l ∷ k ∷ ls) ts t h m = simplified_from s (l ∷ k ∷ ls) ts t h m

-- ---- files

files_right : (c : Packages) (n : List ℕ) (v : Fields) (o : Option ReleaseFields) → release_of c n v ≡ o
    → ((r : ReleaseFields) → release_of c n v ≡ Some r → Each IsFile r.files × Rising file_less r.files) → Each IsFile (files_in o) × Rising file_less (files_in o)
files_right c n v None e h = (tt, tt)
files_right c n v (Some r) e h = h r e

-- ---- one root

abbrev key_less : Pair → Pair → Bool
key_less i j = is_lt (ordering_then (name_cmp i.0 j.0) (version_cmp i.1 j.1))

-- packages of one name and version aren't one above the other
level_blocks : (a b : Locked) → block_key a ≡ block_key b → block_less a b ≡ true → ⊥
level_blocks a b e h = blocks_strict.never b (subst (λ (i : Pair). key_less i (block_key b) ≡ true) e h)

same_name : (a b : List ℕ) → bytes_eq a b ≡ true → a ≡ b
same_name a b e = (bytes_eq-Decides a b).0 e

one_is : (n : ℕ) → n ≡ 1 → (n == 1) ≡ true
one_is n e = ap (λ (k : ℕ). k == 1) e

module _ (law : EligibleSame) (c : Packages) (p : ProjectFields) (leaves : List LeafFields) (l : Lock) (h : AreMergeable c p leaves) (merged : IsMergedLock c p leaves l) where
  reduced : IsReduced p.region
  reduced = h.project.region.reduced

  pick_of : (n : Node) (v : Fields) → IsChosen leaves n v → IsPick n v
  pick_of n v k = (h.each k.0 k.1).picks n v k.2

  eligible_of : (n : List ℕ) (v : Fields) → HasPair leaves n v → Contains (eligible c n) v
  eligible_of n v k = subst (λ (m : List ℕ). Contains (eligible c m) v) k.1 ((h.each k.2.0 k.2.1).eligible_in k.0 v k.2.2)

  name_of_pair : (n : List ℕ) (v : Fields) → HasPair leaves n v → IsNormalName n
  name_of_pair n v k = subst IsNormalName k.1 (pick_of k.0 v k.2).name

  version_of_pair : (n : List ℕ) (v : Fields) → HasPair leaves n v → IsVersion v
  version_of_pair n v k = (pick_of k.0 v k.2).version

  root_pair : (v : Fields) × HasPair leaves p.package.name v
  root_pair =
      let mine : (v : Fields) × (choice_of h.some.0.picks (base p.package.name) ≡ Some v) = (h.each h.some.0 h.some.1).starts_in (base p.package.name) (contains_first _ _) in
      (mine.0, (base p.package.name, refl, (h.some.0, h.some.1, mine.1)))

  supported_region : IsRegion p.region
  supported_region = record { reduced = reduced; not_false = h.project.some; no_extra = no_extra.region p.region h.project.region }

  fork_region : (t : Plain) → Contains l.forks t → IsRegion t
  fork_region t m =
      let k : (k : LeafFields) × Contains leaves k × Simplifies k.region p.region t = fork_from p.region leaves l.forks t merged.forks m in
      let leaf : IsLeafOf c p k.0 = h.each k.0 k.1 in
      let at : (w : WorldFields) × IsWorld w × ((x : List ℕ) → tree_holds k.0.region w x ≡ true) =
      holds_somewhere.without_extra k.0.region leaf.region.reduced leaf.not_false (no_extra.region k.0.region leaf.region) in
      simplified_region k.0.region p.region t leaf.region reduced k.2 at.0 (at.2 []) (leaf.inside at.0 at.1 (at.2 []))

  -- ---- edges

  marker_region : (n : Pick) (e : Edge) → IsTrueSomewhere c leaves n (edge_key e) → IsRightEdge c leaves p.region n e → IsRegion e.marker
  marker_region n e at r =
      let own : IsRegionTree r.tree = record {
        reduced = r.reduced;
        truth = λ w x is. one_answer (tree_holds r.tree w x) (tree_holds r.tree w []) (r.truth w x is) (r.truth w [] is);
      } in
      simplified_region r.tree p.region e.marker own reduced r.simplifies at.0 ((r.truth at.0 [] at.1).1 at.2) ((h.each at.2.leaf at.2.listed).inside at.0 at.1 at.2.within)

  edge_right : (n : Pick) (e : Edge) → IsTrueSomewhere c leaves n (edge_key e) → IsRightEdge c leaves p.region n e → IsEdge e
  edge_right n e at r =
      let pick : IsPick e.target e.version = pick_of e.target e.version (at.2.leaf, at.2.listed, at.2.target) in
      record { name = pick.name; version = pick.version; extra = pick.extra; marker = marker_region n e at r }

  edges_right : (n : Pick) (es : List Edge) → AreEdgesOf c leaves p.region n es → AreEdges es
  edges_right n es k = record { rise = k.rises; each = each_of IsEdge es (λ e m. edge_right n e (k.wanted e m) (k.right e m)) }

  extra_name : (n : List ℕ) (v : Fields) (x : List ℕ) → IsWantedExtra p leaves n v x → IsNormalName x
  extra_name n v x (inl k) = (pick_of (with_extra n x) v k).extra
  extra_name n v x (inr k) = h.extras x k.1

  extra_right : (n : List ℕ) (v : Fields) (x : Extra) → IsWantedExtra p leaves n v x.name → AreEdgesOf c leaves p.region (with_extra n x.name, v) x.edges → IsListed x
  extra_right n v x k r = record { name = extra_name n v x.name k; edges = edges_right (with_extra n x.name, v) x.edges r }

  package_right : (b : Locked) → HasPair leaves b.name b.version → IsBlock c p leaves b → IsPackage b
  package_right b k r =
      let files : Each IsFile b.files × Rising file_less b.files = subst (λ (fs : List FileFields). Each IsFile fs × Rising file_less fs) (sym r.files)
      (files_right c b.name b.version (release_of c b.name b.version) refl (λ x e. h.files b.name b.version x e)) in
      record {
        name = name_of_pair b.name b.version k;
        version = version_of_pair b.name b.version k;
        files = files.0;
        files_rise = files.1;
        edges = edges_right (base b.name, b.version) b.edges r.edges;
        extras = each_of IsListed b.extras (λ x m. extra_right b.name b.version x (r.extras.wanted x m) (r.extras.right x m));
        extras_rise = r.extras.rises;
      }

  -- ---- one root

  pair_in : (b : Locked) → Contains l.packages b → HasPair leaves b.name b.version
  pair_in b m = merged.packages.wanted b m

  -- ---- targets

  block_of : (n : List ℕ) (v : Fields) → HasPair leaves n v → (b : Locked) × Contains l.packages b × (block_key b ≡ (n, v))
  block_of n v k = merged.packages.each (n, v) k

  extra_there : (b : Locked) (x : Option (List ℕ)) → IsBlock c p leaves b → IsChosen leaves (record { name = b.name; extra = x }) b.version → lists_option b.extras x ≡ true
  extra_there b None r k = refl
  extra_there b (Some x) r k =
      let y : (y : Extra) × Contains b.extras y × (y.name ≡ x) = r.extras.each x (inl k) in
      one_passes (λ (z : Extra). bytes_eq z.name x) b.extras y.0 y.1 (ap (λ (a : List ℕ). bytes_eq a x) y.2 ∙ bytes_eq-same x)

  target_there : (e : Edge) → IsChosen leaves e.target e.version → has_target l.packages e ≡ true
  unfolding has_target
  target_there e k =
      let b : (b : Locked) × Contains l.packages b × (block_key b ≡ (e.target.name, e.version)) = block_of e.target.name e.version (e.target, refl, k) in
      let name : bytes_eq b.0.name e.target.name ≡ true = ap (λ (i : Pair). bytes_eq i.0 e.target.name) b.2 ∙ bytes_eq-same e.target.name in
      let version : bytes_eq (version_text b.0.version) (version_text e.version) ≡ true = ap (λ (i : Pair). bytes_eq (version_text i.1) (version_text e.version)) b.2 ∙ bytes_eq-same (version_text e.version) in
      let moved : IsChosen leaves (record { name = b.0.name; extra = e.target.extra }) b.0.version = subst (λ (i : Pair). IsChosen leaves (record { name = i.0; extra = e.target.extra }) i.1) (sym b.2) k in
      one_passes (is_target e) l.packages b.0 b.1 (both_true (is_named e b.0) (lists_option b.0.extras e.target.extra)
      (both_true (bytes_eq b.0.name e.target.name) (bytes_eq (version_text b.0.version) (version_text e.version)) name version)
      (extra_there b.0 e.target.extra (merged.packages.right b.0 b.1) moved))

  edges_lead : (n : Pick) (es : List Edge) → AreEdgesOf c leaves p.region n es → have_targets l.packages es ≡ true
  edges_lead n es k = all_pass (has_target l.packages) es (λ e m. let at : IsTrueSomewhere c leaves n (edge_key e) = k.wanted e m in target_there e (at.2.leaf, at.2.listed, at.2.target))

  package_leads : (b : Locked) → IsBlock c p leaves b → package_leads_on l.packages b ≡ true
  package_leads b r = both_true (have_targets l.packages b.edges) (list_all (λ (x : Extra). have_targets l.packages x.edges) b.extras)
      (edges_lead (base b.name, b.version) b.edges r.edges)
      (all_pass (λ (x : Extra). have_targets l.packages x.edges) b.extras (λ x m. edges_lead (with_extra b.name x.name, b.version) x.edges (r.extras.right x m)))

  root_level : (a b : Locked) → Contains l.packages a → Contains l.packages b → bytes_eq a.name l.root ≡ true → bytes_eq b.name l.root ≡ true → block_less a b ≡ true → ⊥
  root_level a b m n s t k =
      let first : a.name ≡ p.package.name = same_name a.name l.root s ∙ merged.root in
      let second : b.name ≡ p.package.name = same_name b.name l.root t ∙ merged.root in
      let versions : a.version ≡ b.version = only_version law c p.package.name h.begins a.version b.version
      (eligible_of p.package.name a.version (subst (λ (x : List ℕ). HasPair leaves x a.version) first (pair_in a m)))
      (eligible_of p.package.name b.version (subst (λ (x : List ℕ). HasPair leaves x b.version) second (pair_in b n))) in
      level_blocks a b (λ i. ((first ∙ sym second) i, versions i)) k

  root_counted : count_named l.root l.packages ≡ 1
  root_counted =
      let b : (b : Locked) × Contains l.packages b × (block_key b ≡ (p.package.name, root_pair.0)) = block_of p.package.name root_pair.0 root_pair.1 in
      let name : bytes_eq b.0.name l.root ≡ true = ap (λ (i : Pair). bytes_eq i.0 l.root) b.2 ∙ ap (λ (x : List ℕ). bytes_eq p.package.name x) merged.root ∙ bytes_eq-same p.package.name in
      count_one block_less blocks_strict (λ (x : Locked). bytes_eq x.name l.root) l.packages b.0 merged.packages.rises root_level b.1 name

  right : IsWellFormed l
  right = record {
    root = subst IsNormalName (sym merged.root) (name_of_pair p.package.name root_pair.0 root_pair.1);
    supported = subst IsRegion (sym merged.supported) supported_region;
    forks = each_of IsRegion l.forks fork_region;
    several = several_forks p.region leaves l.forks merged.forks;
    packages = each_of IsPackage l.packages (λ b m. package_right b (pair_in b m) (merged.packages.right b m));
    packages_rise = merged.packages.rises;
    one_root = one_is (count_named l.root l.packages) root_counted;
    targets = all_pass (package_leads_on l.packages) l.packages (λ b m. package_leads b (merged.packages.right b m));
  }

pub merged_well_formed : EligibleSame → (c : Packages) (p : ProjectFields) (leaves : List LeafFields) (l : Lock) → AreMergeable c p leaves → IsMergedLock c p leaves l → IsWellFormed l
merged_well_formed law c p leaves l h merged = right law c p leaves l h merged
