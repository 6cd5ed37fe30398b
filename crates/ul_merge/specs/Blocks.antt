-- Packages of a lock, made of what leaves chose.
use Rattle.std.specs.Prelude.{◌≡◌, ◌↔◌, ℕ, List, [], ◌∷◌, All, Contains, length, map, Option, Some, None}
use Rattle.ul_base.specs.declared.node.Node.{Node}
use Rattle.ul_version.specs.Fields.{Fields}
use Rattle.ul_requirement.specs.Fields.{VersionsDiffer}
use Rattle.ul_requirement.specs.Truth.{base, with_extra}
use Rattle.ul_nodes.specs.Plain.{Plain}
use Rattle.ul_algebra.specs.Answers.{IsDiagram}
use Rattle.ul_algebra.specs.Spelled.{tree_of}
use Rattle.ul_index.specs.Catalogs.{Packages, release_of, releases_of}
use Rattle.ul_index.specs.Eligible.{eligible}
use Rattle.ul_index.specs.Serves.{Selection, choice_of}
use Rattle.ul_lock.specs.declared.parts.Extra.{Extra}
use Rattle.ul_lock.specs.declared.parts.Locked.{Locked}
use Rattle.ul_lock.specs.Orders.{extra_less}
use Rattle.ul_lock.specs.Walk.{Pick}
use Rattle.ul_region.specs.Truths.{PassView, DiagramMark, IsRegion}
use Rattle.ul_sound.specs.Indexes.{IsIndex}
use Rattle.ul_sound.specs.Leaves.{LeafFields, IsChosen}
use Rattle.ul_sound.specs.Merged.{AreEdgesOf, Pair, block_key, extra_key, files_in}
use Rattle.ul_merge.specs.Chosen.{choice_at}
use Rattle.ul_merge.specs.Edges.{LiesWithin}
use Rattle.ul_merge.specs.Keys.{pair_of}
use Rattle.ul_merge.specs.Rows.{MemberFields, member_of}
use Rattle.ul_merge.specs.declared.gathering.Group.{Group}
use Rattle.ul_merge.specs.declared.keys.ExtraKey.{ExtraKey}
use Rattle.ul_merge.specs.declared.keys.PairKey.{PairKey}
use Rattle.ul_merge.specs.declared.members.Member.{Member}
use Rattle.ul_merge.specs.declared.sources.Sources.{Sources}

-- leaves by their regions and selections
abbrev pub leaves_by : List DiagramMark → List Selection → List LeafFields
leaves_by [] ss = []
leaves_by (m ∷ ms) [] = []
leaves_by (m ∷ ms) (s ∷ ss) = record { region = tree_of m; picks = s } ∷ leaves_by ms ss

-- the leaves, the supported region and the catalog of a merge
abbrev pub leaves_in : Sources → List LeafFields
leaves_in s = leaves_by s.regions.now s.choices.now

-- the tree of the supported region
abbrev pub supported_in : Sources → Plain
supported_in s = tree_of s.supported.now

-- the packages of the catalog
abbrev pub catalog_in : Sources → Packages
catalog_in s = s.catalog.now

-- regions of leaves that lie in the supported one, as many selections, each with eligible versions, and a catalog in which
-- the versions of each name differ
pub record AreSources (h : PassView) (s : Sources) : Type 0 where
  pub supported : IsDiagram h s.supported.now
  pub regions : All (IsRegion h) s.regions.now
  pub within : All (λ m. LiesWithin m s.supported.now) s.regions.now
  pub as_many : length s.regions.now ≡ length s.choices.now
  pub eligible : (x : Selection) (n : Node) (v : Fields) → Contains s.choices.now x → choice_of x n ≡ Some v → Contains (eligible s.catalog.now n.name) v
  pub differ : (n : List ℕ) → VersionsDiffer (releases_of s.catalog.now n)

-- the places of the leaves that chose the node at the version
pub record AreUsers (ss : List Selection) (p : Pick) (users : List ℕ) : Type 0 where
  pub each : (i : ℕ) → Contains users i → choice_at ss i p.0 ≡ Some p.1
  pub all : (i : ℕ) → choice_at ss i p.0 ≡ Some p.1 → Contains users i

-- the nodes of a name that leaves chose at the version, with the leaves' places
pub record ArePairMembers (ss : List Selection) (i : Pair) (ms : List MemberFields) : Type 0 where
  pub each : (m : MemberFields) → Contains ms m → (m.0.name ≡ i.0) × (choice_at ss m.1 m.0 ≡ Some i.1)
  pub all : (m : MemberFields) → m.0.name ≡ i.0 → choice_at ss m.1 m.0 ≡ Some i.1 → Contains ms m

-- the members of a package's group are such
abbrev pub IsPairGroup : List Selection → Group PairKey Member → Type 0
IsPairGroup ss g = ArePairMembers ss (pair_of g.key) (map member_of g.values.items)

-- an extra of a package: its name, and the edges that go out from it
pub record IsMadeExtra (c : Packages) (leaves : List LeafFields) (supported : Plain) (i : Pair) (y : List ℕ) (x : Extra) : Type 0 where
  pub named : x.name ≡ y
  pub edges : AreEdgesOf c leaves supported (with_extra i.0 y, i.1) x.edges

-- the extra that a group of leaves makes
abbrev pub MakesExtra : Packages → List LeafFields → Plain → Pair → Group ExtraKey ℕ → Option Extra → Type 0
MakesExtra c leaves supported i g None = ⊥
MakesExtra c leaves supported i g (Some x) = IsMadeExtra c leaves supported i g.key.name.now x

-- the extras of a package: those that some leaf chose at the version
abbrev pub AreMadeExtras : Packages → List LeafFields → Plain → Pair → List Extra → Type 0
AreMadeExtras c leaves supported i xs = IsIndex extra_key extra_less (λ x. IsChosen leaves (with_extra i.0 x) i.1)
    (λ x. AreEdgesOf c leaves supported (with_extra i.0 x.name, i.1) x.edges) xs

-- a package: the files of its release, the edges of its base, and its extras
pub record IsMadeBlock (c : Packages) (leaves : List LeafFields) (supported : Plain) (i : Pair) (b : Locked) : Type 0 where
  pub named : b.name ≡ i.0
  pub at : b.version ≡ i.1
  pub files : b.files ≡ files_in (release_of c i.0 i.1)
  pub edges : AreEdgesOf c leaves supported (base i.0, i.1) b.edges
  pub extras : AreMadeExtras c leaves supported i b.extras

-- the package that a group of members makes
abbrev pub MakesBlock : Packages → List LeafFields → Plain → Group PairKey Member → Option Locked → Type 0
MakesBlock c leaves supported g None = ⊥
MakesBlock c leaves supported g (Some b) = IsMadeBlock c leaves supported (pair_of g.key) b
