-- The packages of the lock are those that were made.
use Rattle.std.proofs.Common.{◌≡◌, ◌≢◌, ℕ, List, map, length, false, Contains, refl, sym, ap, ap₂, ◌∙◌, subst}
use Rattle.std.specs.Prelude.{All}
use Rattle.std.proofs.lemmas.List.Elements.{All-contains_itself, All-weaker}
use Rattle.ul_version.specs.Fields.{Fields}
use Rattle.ul_requirement.specs.Fields.{VersionsDiffer}
use Rattle.ul_nodes.specs.Plain.{Plain, truth}
use Rattle.ul_tree.specs.Regions.{IsRegionTree}
use Rattle.ul_tree.proofs.ForCallers.{no_extra}
use Rattle.ul_algebra.specs.Spelled.{tree_of}
use Rattle.ul_index.specs.Laws.{EligibleRises, EligibleSame}
use Rattle.ul_index.specs.Serves.{Selection}
use Rattle.ul_lock.specs.Region.{IsRegion as IsLineRegion}
use Rattle.ul_lock.specs.declared.parts.Locked.{Locked}
use Rattle.ul_project.specs.Fields.{ProjectFields}
use Rattle.ul_region.specs.Truths.{PassView}
use Rattle.ul_sound.specs.Leaves.{HasPair, LeafFields}
use Rattle.ul_sound.specs.Merged.{AreBlocks, IsBlock}
use Rattle.ul_merge.specs.Blocks.{AreSources, IsMadeBlock, IsPairGroup, MakesBlock, catalog_in, leaves_by, leaves_in, supported_in}
use Rattle.ul_merge.specs.Made.{AreMade}
use Rattle.ul_merge.specs.Members.{AreMembers}
use Rattle.ul_merge.specs.Merging.{AreLeaves}
use Rattle.ul_merge.specs.Views.{ForkLeaf, leaf_of, picks_of}
use Rattle.ul_merge.specs.declared.gathering.Group.{Group}
use Rattle.ul_merge.specs.declared.keys.PairKey.{PairKey}
use Rattle.ul_merge.specs.declared.members.Member.{Member}
use Rattle.ul_merge.specs.declared.sources.Sources.{Sources}
use Rattle.ul_merge.proofs.BlockIndex.{blocks_index, pair_group}
use Rattle.ul_merge.proofs.SourceFacts.{block_is, leaves_same, region_in}

-- the region of a project is one of a lock's
pub region_is : (t u : Plain) → t ≡ u → IsRegionTree u → (u ≡ truth false → ⊥) → IsLineRegion t
region_is t u e r n = subst IsLineRegion (sym e) (record { reduced = r.reduced; not_false = n; no_extra = no_extra.region u r })

-- each group has the members of its package
pub pair_groups : EligibleRises → (h : PassView) (s : Sources) (ss : List Selection) (gs slice : List (Group PairKey Member)) → AreSources h s → ss ≡ s.choices.now → AreMembers ss gs → slice ≡ gs → All (IsPairGroup s.choices.now) slice
pair_groups law h s ss gs slice a e m f = subst (All (IsPairGroup s.choices.now)) (sym f)
    (All-weaker (Contains gs) (IsPairGroup s.choices.now)
    (λ g n. members_pair (subst (λ (xs : List Selection). AreMembers xs gs) e m) g n) gs (All-contains_itself gs))
  where
    members_pair : AreMembers s.choices.now gs → (g : Group PairKey Member) → Contains gs g → IsPairGroup s.choices.now g
    members_pair k g n = pair_group law s.catalog.now a.differ s.choices.now a.eligible k.0 gs k.1 k.2 g n

-- the packages
pub packages_are : EligibleRises → EligibleSame → (h : PassView) (p : ProjectFields) (s : Sources) (ls : List ForkLeaf) (ss : List Selection) (gs slice : List (Group PairKey Member)) (bs items : List Locked)
    → AreLeaves h s.catalog.now p ls → AreSources h s → supported_in s ≡ p.region → s.regions.now ≡ map region_in ls → s.choices.now ≡ map picks_of ls → ss ≡ s.choices.now → AreMembers ss gs → slice ≡ gs
    → AreMade (MakesBlock (catalog_in s) (leaves_in s) (supported_in s)) slice bs → items ≡ bs → AreBlocks s.catalog.now p (map leaf_of ls) items
packages_are rises law h p s ls ss gs slice bs items leaves a region regions choices e m f made is =
    subst (λ (xs : List Locked). AreBlocks s.catalog.now p (map leaf_of ls) xs) (sym is)
    (subst (λ (L : List LeafFields). AreBlocks s.catalog.now p L bs) all
    (blocks_index rises s.catalog.now a.differ s.choices.now a.eligible k.0 gs k.1 k.2 s.regions.now a.as_many (supported_in s) (IsBlock s.catalog.now p (leaves_in s))
    (λ i b one pair. subst (λ (L : List LeafFields). IsBlock s.catalog.now p L b) (sym all)
    (block_is law h s.catalog.now p ls leaves (supported_in s) i b region (subst (λ (L : List LeafFields). IsMadeBlock s.catalog.now L (supported_in s) i b) all one)
    (subst (λ (L : List LeafFields). HasPair L i.0 i.1) all pair)))
    bs (subst (λ (xs : List (Group PairKey Member)). AreMade (MakesBlock (catalog_in s) (leaves_in s) (supported_in s)) xs bs) f made)))
  where
    all : leaves_in s ≡ map leaf_of ls
    all = ap₂ leaves_by regions choices ∙ leaves_same ls

    k : AreMembers s.choices.now gs
    k = subst (λ (xs : List Selection). AreMembers xs gs) e m
