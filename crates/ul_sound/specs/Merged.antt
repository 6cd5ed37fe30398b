-- The lock that leaves merge into.
use Rattle.std.specs.Prelude.{◌≡◌, ◌⊎◌, ℕ, List, [], ◌∷◌, Contains, Decides, Option, Some, None, true}
use Rattle.ul_version.specs.Fields.{Fields}
use Rattle.ul_comparison.specs.Worlds.{WorldFields, IsWorld}
use Rattle.ul_requirement.specs.Fields.{RequirementFields, ReleaseFields, FileFields}
use Rattle.ul_requirement.specs.Truth.{applies_at, base, targets, with_extra}
use Rattle.ul_nodes.specs.Plain.{Plain}
use Rattle.ul_nodes.specs.Reduced.{IsReduced}
use Rattle.ul_tree.specs.Simplify.{Simplifies}
use Rattle.ul_tree.specs.Values.{tree_holds}
use Rattle.ul_index.specs.Applied.{IsApplied}
use Rattle.ul_index.specs.Catalogs.{Packages, release_of, requirements}
use Rattle.ul_index.specs.Serves.{choice_of}
use Rattle.ul_project.specs.Fields.{ProjectFields}
use Rattle.ul_lock.specs.declared.parts.Edge.{Edge}
use Rattle.ul_lock.specs.declared.parts.Extra.{Extra}
use Rattle.ul_lock.specs.declared.parts.Locked.{Locked}
use Rattle.ul_lock.specs.declared.parts.Lock.{Lock}
use Rattle.ul_lock.specs.Orders.{edge_less, extra_less, block_less}
use Rattle.ul_lock.specs.Walk.{Pick}
use Rattle.ul_sound.specs.Leaves.{LeafFields, worlds_of, IsChosen, HasPair}
use Rattle.ul_sound.specs.Indexes.{IsIndex}

-- some leaf chose both ends, the world is in its region, and some applied requirement with that target is true there
pub record IsTrueEdge (c : Packages) (leaves : List LeafFields) (p q : Pick) (w : WorldFields) : Type 0 where
  pub leaf : LeafFields
  pub listed : Contains leaves leaf
  pub within : worlds_of leaf w ≡ true
  pub source : choice_of leaf.picks p.0 ≡ Some p.1
  pub target : choice_of leaf.picks q.0 ≡ Some q.1
  pub requirement : RequirementFields
  pub applied : IsApplied (requirements c p.0.name p.1) (worlds_of leaf) p.0 requirement
  pub aimed : Contains (targets requirement) q.0
  pub holds : applies_at requirement p.0 w ≡ true

-- an edge is true at some world
abbrev pub IsTrueSomewhere : Packages → List LeafFields → Pick → Pick → Type 0
IsTrueSomewhere c leaves p q = (w : WorldFields) × IsWorld w × IsTrueEdge c leaves p q w

-- the marker is what the tree of the truth becomes under the supported region
pub record IsSimplified (Truth : WorldFields → Type 0) (supported marker : Plain) : Type 0 where
  pub tree : Plain
  pub reduced : IsReduced tree
  pub truth : (w : WorldFields) (x : List ℕ) → IsWorld w → Decides (tree_holds tree w x) (Truth w)
  pub simplifies : Simplifies tree supported marker

-- what an edge leads to
abbrev pub edge_key : Edge → Pick
edge_key e = (e.target, e.version)

-- the edge's marker says where it is true
abbrev pub IsRightEdge : Packages → List LeafFields → Plain → Pick → Edge → Type 0
IsRightEdge c leaves supported p e = IsSimplified (IsTrueEdge c leaves p (edge_key e)) supported e.marker

-- the edges of a node at its version
abbrev pub AreEdgesOf : Packages → List LeafFields → Plain → Pick → List Edge → Type 0
AreEdgesOf c leaves supported p es =
    IsIndex edge_key edge_less (IsTrueSomewhere c leaves p) (IsRightEdge c leaves supported p) es

-- an extra of a package: some leaf chose it at this version, or it is one of the project's
abbrev pub IsWantedExtra : ProjectFields → List LeafFields → List ℕ → Fields → List ℕ → Type 0
IsWantedExtra p leaves name v x =
    IsChosen leaves (with_extra name x) v ⊎ ((name ≡ p.package.name) × Contains p.extras x)

-- the name of an extra
abbrev pub extra_key : Extra → List ℕ
extra_key x = x.name

-- the extras of a package
abbrev pub AreExtrasOf : Packages → ProjectFields → List LeafFields → List ℕ → Fields → List Extra → Type 0
AreExtrasOf c p leaves name v xs = IsIndex extra_key extra_less (IsWantedExtra p leaves name v)
    (λ x. AreEdgesOf c leaves p.region (with_extra name x.name, v) x.edges) xs

-- the files of a release, and none where there is no release
abbrev pub files_in : Option ReleaseFields → List FileFields
files_in None = []
files_in (Some r) = r.files

-- a name at a version
abbrev pub Pair : Type 0
Pair = List ℕ × Fields

-- a package's name and version
abbrev pub block_key : Locked → Pair
block_key b = (b.name, b.version)

-- a package: the files of its release, the edges of its base, and its extras
pub record IsBlock (c : Packages) (p : ProjectFields) (leaves : List LeafFields) (b : Locked) : Type 0 where
  pub files : b.files ≡ files_in (release_of c b.name b.version)
  pub edges : AreEdgesOf c leaves p.region (base b.name, b.version) b.edges
  pub extras : AreExtrasOf c p leaves b.name b.version b.extras

-- the packages: a block for each name and version that some leaf chose
abbrev pub AreBlocks : Packages → ProjectFields → List LeafFields → List Locked → Type 0
AreBlocks c p leaves bs = IsIndex block_key block_less (λ (i : Pair). HasPair leaves i.0 i.1) (IsBlock c p leaves) bs

-- what each leaf's region becomes under the supported one, in order
abbrev pub AreSimplified : Plain → List LeafFields → List Plain → Type 0
AreSimplified supported [] ts = ts ≡ []
AreSimplified supported (l ∷ ls) [] = ⊥
AreSimplified supported (l ∷ ls) (t ∷ ts) = Simplifies l.region supported t × AreSimplified supported ls ts

-- the forks: none for one leaf
abbrev pub AreForks : Plain → List LeafFields → List Plain → Type 0
AreForks supported [] ts = ts ≡ []
AreForks supported (l ∷ []) ts = ts ≡ []
AreForks supported (l ∷ m ∷ ls) ts = AreSimplified supported (l ∷ m ∷ ls) ts

-- the lock that leaves merge into
pub record IsMergedLock (c : Packages) (p : ProjectFields) (leaves : List LeafFields) (lock : Lock) : Type 0 where
  pub root : lock.root ≡ p.package.name
  pub supported : lock.supported ≡ p.region
  pub forks : AreForks p.region leaves lock.forks
  pub packages : AreBlocks c p leaves lock.packages
