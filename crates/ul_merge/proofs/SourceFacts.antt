-- From leaves to what a lock is merged of, and to its packages.
use Rattle.std.proofs.Common.{◌≡◌, ◌⊎◌, ℕ, suc, List, [], ◌∷◌, map, length, Bool, true, Option, Some, Contains, refl, sym, ap, ap₂, ◌∙◌, subst, inl, inr, ⊎_elim}
use Rattle.std.specs.Prelude.{All}
use Rattle.std.proofs.lemmas.List.Elements.{All-cons, All-contains, All-nil, All-weaker}
use Rattle.ul_base.specs.declared.node.Node.{Node}
use Rattle.ul_base.proofs.ForCallers.{contains_first, contains_from_map, contains_later, contains_map}
use Rattle.ul_version.specs.Fields.{Fields}
use Rattle.ul_interner.specs.Known.{Knows}
use Rattle.ul_comparison.specs.Worlds.{WorldFields, IsWorld}
use Rattle.ul_requirement.specs.Fields.{VersionsDiffer}
use Rattle.ul_requirement.specs.Truth.{base, with_extra}
use Rattle.ul_nodes.specs.Plain.{Plain}
use Rattle.ul_tree.specs.Regions.{region_of}
use Rattle.ul_algebra.specs.Answers.{IsDiagram}
use Rattle.ul_algebra.specs.Spelled.{tree_of}
use Rattle.ul_index.specs.Catalogs.{Packages, release_of, releases_of}
use Rattle.ul_index.specs.Eligible.{eligible}
use Rattle.ul_index.specs.Laws.{EligibleSame}
use Rattle.ul_index.specs.Serves.{Selection, choice_of}
use Rattle.ul_lock.specs.declared.parts.Extra.{Extra}
use Rattle.ul_lock.specs.declared.parts.Locked.{Locked}
use Rattle.ul_lock.specs.Orders.{extra_less}
use Rattle.ul_project.specs.Fields.{ProjectFields}
use Rattle.ul_region.specs.Truths.{PassView, DiagramMark, IsRegion, region_at}
use Rattle.ul_region.proofs.ForCallers.{still, truth_still}
use Rattle.ul_sound.specs.Indexes.{IsIndex}
use Rattle.ul_sound.specs.Leaves.{HasPair, IsChosen, LeafFields, project_nodes, supported_by}
use Rattle.ul_sound.specs.Merged.{AreEdgesOf, AreExtrasOf, IsBlock, IsWantedExtra, extra_key, files_in}
use Rattle.ul_sound.proofs.ForCallers.{only_version}
use Rattle.ul_merge.specs.Blocks.{AreMadeExtras, AreSources, IsMadeBlock, leaves_by}
use Rattle.ul_merge.specs.Edges.{LiesWithin}
use Rattle.ul_merge.specs.Merging.{AreLeaves, IsLeaf}
use Rattle.ul_merge.specs.Unions.{IsForkIn}
use Rattle.ul_merge.specs.Views.{ForkLeaf, leaf_of, picks_of}
use Rattle.ul_merge.specs.declared.sources.Sources.{Sources}
use Rattle.ul_merge.proofs.MadeEdges.{has_world}

-- the region of a leaf
abbrev pub region_in : ForkLeaf → DiagramMark
region_in l = l.region

-- leaves by their regions and selections are the leaves
pub leaves_same : (ls : List ForkLeaf) → leaves_by (map region_in ls) (map picks_of ls) ≡ map leaf_of ls
leaves_same [] = refl
leaves_same (l ∷ ls) = ap (λ (xs : List LeafFields). leaf_of l ∷ xs) (leaves_same ls)

leaf_region : (h : PassView) (c : Packages) (p : ProjectFields) (l : ForkLeaf) → IsLeaf h c p l → IsRegion h l.region
leaf_region h c p l i = record { diagram = i.known; truth = i.region }

-- a leaf where more is known
pub leaf_still : (g h : PassView) (c : Packages) (p : ProjectFields) (l : ForkLeaf) → Knows g h → IsLeaf g c p l → IsLeaf h c p l
leaf_still g h c p l k i = record { known = still g h l.region k i.known; region = i.region; not_false = i.not_false; inside = i.inside; starts_in = i.starts_in; eligible_in = i.eligible_in }

pub leaves_still : (g h : PassView) (c : Packages) (p : ProjectFields) (ls : List ForkLeaf) → Knows g h → AreLeaves g c p ls → AreLeaves h c p ls
leaves_still g h c p ls k a = record { begins = a.begins; each = All-weaker (IsLeaf g c p) (IsLeaf h c p) (λ l i. leaf_still g h c p l k i) ls a.each }

leaf_within : (h : PassView) (c : Packages) (p : ProjectFields) (s : DiagramMark) (l : ForkLeaf) → tree_of s ≡ p.region → IsLeaf h c p l → LiesWithin l.region s
leaf_within h c p s l e i w is r = ap (λ (t : Plain). region_of t w) e ∙ i.inside w is r

leaf_fork : (h : PassView) (c : Packages) (p : ProjectFields) (s : DiagramMark) (l : ForkLeaf) → tree_of s ≡ p.region → IsLeaf h c p l → IsForkIn h s l
leaf_fork h c p s l e i =
    let at : (w : WorldFields) × IsWorld w × (region_at l.region w ≡ true) = has_world h l.region (leaf_region h c p l i) i.not_false in
    (leaf_region h c p l i, (at.0, at.2, leaf_within h c p s l e i at.0 at.1 at.2))

-- each leaf is a fork of the supported region
pub leaves_forks : (g h : PassView) (c : Packages) (p : ProjectFields) (s : DiagramMark) (ls : List ForkLeaf) → Knows g h → tree_of s ≡ p.region → AreLeaves g c p ls → All (IsForkIn h s) ls
leaves_forks g h c p s ls k e a = All-weaker (IsLeaf g c p) (IsForkIn h s) (λ l i. leaf_fork h c p s l e (leaf_still g h c p l k i)) ls a.each

-- what a lock is merged of
pub sources_are : (h : PassView) (p : ProjectFields) (s : Sources) (ls : List ForkLeaf) → AreLeaves h s.catalog.now p ls → IsDiagram h s.supported.now → tree_of s.supported.now ≡ p.region
    → s.regions.now ≡ map region_in ls → s.choices.now ≡ map picks_of ls → ((n : List ℕ) → VersionsDiffer (releases_of s.catalog.now n)) → AreSources h s
sources_are h p s ls a d e regions choices differ = record {
  supported = d;
  regions = subst (All (IsRegion h)) (sym regions) (all_mapped (IsRegion h) ls (λ l m. leaf_region h s.catalog.now p l (All-contains (IsLeaf h s.catalog.now p) ls l a.each m)));
  within = subst (All (λ m. LiesWithin m s.supported.now)) (sym regions)
      (all_mapped (λ m. LiesWithin m s.supported.now) ls (λ l m. leaf_within h s.catalog.now p s.supported.now l e (All-contains (IsLeaf h s.catalog.now p) ls l a.each m)));
  as_many = ap length regions ∙ (long_both ls ∙ sym (ap length choices));
  eligible = λ x n v m c. chosen_eligible x n v (contains_from_map picks_of ls x (subst (λ (xs : List Selection). Contains xs x) choices m)) c;
  differ = differ;
}
  where
    all_mapped : (P : DiagramMark → Type 0) (xs : List ForkLeaf) → ((l : ForkLeaf) → Contains xs l → P l.region) → All P (map region_in xs)
    all_mapped P [] h = All-nil P
    all_mapped P (x ∷ xs) h = All-cons P x.region (map region_in xs) (h x (contains_first x xs)) (all_mapped P xs (λ l m. h l (contains_later x xs l m)))

    long_both : (xs : List ForkLeaf) → length (map region_in xs) ≡ length (map picks_of xs)
    long_both [] = refl
    long_both (x ∷ xs) = ap suc (long_both xs)

    chosen_eligible : (x : Selection) (n : Node) (v : Fields) → ((l : ForkLeaf) × Contains ls l × (x ≡ picks_of l)) → choice_of x n ≡ Some v → Contains (eligible s.catalog.now n.name) v
    chosen_eligible x n v f c = (All-contains (IsLeaf h s.catalog.now p) ls f.0 a.each f.1).eligible_in n v (ap (λ (y : Selection). choice_of y n) (sym f.2) ∙ c)

-- an index of other wanted keys
index_wanted : {A K : Type 0} (key : A → K) (less : A → A → Bool) (Wanted Other : K → Type 0) (Right : A → Type 0) (xs : List A) → ((i : K) → Wanted i → Other i) → ((i : K) → Other i → Wanted i)
    → IsIndex key less Wanted Right xs → IsIndex key less Other Right xs
index_wanted key less Wanted Other Right xs to from h = record { rises = h.rises; wanted = λ x m. to (key x) (h.wanted x m); right = h.right; each = λ i w. h.each i (from i w) }

module _ (law : EligibleSame) (h : PassView) (c : Packages) (p : ProjectFields) (ls : List ForkLeaf) (a : AreLeaves h c p ls) where
  -- a leaf's facts
  leaf_facts : (l : LeafFields) → Contains (map leaf_of ls) l → (k : ForkLeaf) × IsLeaf h c p k × (l ≡ leaf_of k)
  leaf_facts l m = let f : (k : ForkLeaf) × Contains ls k × (l ≡ leaf_of k) = contains_from_map leaf_of ls l m in (f.0, All-contains (IsLeaf h c p) ls f.0 a.each f.1, f.2)

  -- each of the project's extras is chosen where its name is
  root_extra : (name : List ℕ) (v : Fields) (x : List ℕ) → HasPair (map leaf_of ls) name v → name ≡ p.package.name → Contains p.extras x → IsChosen (map leaf_of ls) (with_extra name x) v
  root_extra name v x pair e m =
      let f : (k : ForkLeaf) × IsLeaf h c p k × (pair.2.0 ≡ leaf_of k) = leaf_facts pair.2.0 pair.2.1 in
      let there : Contains (eligible c p.package.name) v = subst (λ (n : List ℕ). Contains (eligible c n) v) (pair.1 ∙ e)
      (f.1.eligible_in pair.0 v (ap (λ (l : LeafFields). choice_of l.picks pair.0) (sym f.2) ∙ pair.2.2)) in
      let mine : (u : Fields) × (choice_of f.0.done.items (with_extra p.package.name x) ≡ Some u) =
      f.1.starts_in (with_extra p.package.name x) (contains_later (base p.package.name) (map (with_extra p.package.name) p.extras) (with_extra p.package.name x) (contains_map (with_extra p.package.name) p.extras x m)) in
      let same : mine.0 ≡ v = only_version law c p.package.name a.begins mine.0 v (f.1.eligible_in (with_extra p.package.name x) mine.0 mine.1) there in (
        pair.2.0,
        pair.2.1,
        ap (λ (l : LeafFields). choice_of l.picks (with_extra name x)) f.2 ∙ (ap (λ (n : List ℕ). choice_of f.0.done.items (with_extra n x)) e ∙ (mine.1 ∙ ap Some same)),
      )

  -- a package as it was made is one of the lock
  pub block_is : (supported : Plain) (i : List ℕ × Fields) (b : Locked) → supported ≡ p.region → IsMadeBlock c (map leaf_of ls) supported i b → HasPair (map leaf_of ls) i.0 i.1 → IsBlock c p (map leaf_of ls) b
  block_is supported i b e made pair =
      let key : (b.name, b.version) ≡ i = ap₂ (λ (n : List ℕ) (v : Fields). (n, v)) made.named made.at in
      subst (λ (s : Plain). AreEdgesOf c (map leaf_of ls) s (base b.name, b.version) b.edges → AreMadeExtras c (map leaf_of ls) s (b.name, b.version) b.extras → IsBlock c p (map leaf_of ls) b) (sym e)
      (λ edges extras. record {
        files = made.files ∙ ap (λ (k : List ℕ × Fields). files_in (release_of c k.0 k.1)) (sym key);
        edges = edges;
        extras = index_wanted extra_key extra_less (λ x. IsChosen (map leaf_of ls) (with_extra b.name x) b.version) (IsWantedExtra p (map leaf_of ls) b.name b.version)
            (λ x. AreEdgesOf c (map leaf_of ls) p.region (with_extra b.name x.name, b.version) x.edges) b.extras
            (λ x w. inl w) (λ x w. ⊎_elim (λ r. r) (λ r. root_extra b.name b.version x (subst (λ (k : List ℕ × Fields). HasPair (map leaf_of ls) k.0 k.1) (sym key) pair) r.0 r.1) w) extras;
      })
      (subst (λ (k : List ℕ × Fields). AreEdgesOf c (map leaf_of ls) supported (base k.0, k.1) b.edges) (sym key) made.edges)
      (subst (λ (k : List ℕ × Fields). AreMadeExtras c (map leaf_of ls) supported k b.extras) (sym key) made.extras)
