-- Names with their releases, and nodes with the rows of their names' releases.
use Rattle.std.specs.Prelude.{◌≡◌, ◌-◌, ℕ, List, All, Contains, Option, Some, bytes_eq, length, map, slice_get, true}
use Rattle.std.specs.HashMap.{HashMap, get}
use Rattle.std.specs.HashSet.{contains}
use Rattle.std.specs.List.{AllZip}
use Rattle.std.specs.declared.cmp.Ordering.TheVariants.{Less}
use Rattle.ul_base.specs.declared.node.Node.{Node}
use Rattle.ul_base.specs.Nodes.{node_cmp, node_eq}
use Rattle.ul_requirement.specs.Fields.{ReleaseFields, WishFields}
use Rattle.ul_requirement.specs.Truth.{base}
use Rattle.ul_problem.specs.declared.problem.Need.{Need as PlaceNeed}
use Rattle.ul_index.specs.Catalogs.{Packages}
use Rattle.ul_region.specs.Rows.{IsRow}
use Rattle.ul_region.specs.declared.rows.Row.{Row}
use Rattle.ul_region.specs.Truths.{DiagramMark, PassView}
use Rattle.ul_prepared.specs.Lists.{AreListed, releases_in}
use Rattle.ul_prepared.specs.Prepared.{AreRowAims, AreSharedLists, HasBaseAt, IsName}
use Rattle.ul_prepared.specs.Releases.{AreReleasesOf}
use Rattle.ul_prepared.specs.Targets.{ListsTargets}
use Rattle.ul_prepared.specs.declared.releases.Releases.{Releases}
use Rattle.ul_prepared.specs.declared.gathering.Gathered.{Gathered}
use Rattle.ul_prepared.specs.declared.prepared.NameFacts.{NameFacts}
use Rattle.ul_prepared.specs.declared.prepared.Planned.{Planned}

-- a name with the releases of its eligible versions
pub record IsKnown (c : Packages) (wish : WishFields) (f : NameFacts) (r : Releases) : Type 0 where
  pub name : IsName c wish f
  pub releases : AreReleasesOf c f.name f.versions (releases_in r)
  pub listed : AreListed r

-- names, each with the releases of its eligible versions
abbrev pub AreKnown : Packages → WishFields → List NameFacts → List Releases → Type 0
AreKnown c wish fs rs = AllZip (IsKnown c wish) fs rs

-- the name stands at the place
abbrev pub HasName : List NameFacts → List ℕ → ℕ → Type 0
HasName names name k = (f : NameFacts) × (slice_get names k ≡ Some f) × (f.name ≡ name)

-- the places that a map has of names are theirs
abbrev pub ArePlaces : {S : Type 0} → List NameFacts → HashMap (List ℕ) ℕ S → Type 0
ArePlaces names places = (n : List ℕ) (k : ℕ) → get bytes_eq places n ≡ Some k → HasName names n k

-- the map has a place of the name
abbrev pub HasPlace : {S : Type 0} → HashMap (List ℕ) ℕ S → List ℕ → Type 0
HasPlace places n = (k : ℕ) × (get bytes_eq places n ≡ Some k)

-- the map has a place of the node's name
abbrev pub IsPlacedNode : {S : Type 0} → HashMap (List ℕ) ℕ S → Node → Type 0
IsPlacedNode places n = HasPlace places n.name

-- What was taken in: names that are known, their places and bases, and nodes of these names.
pub record IsGathered (c : Packages) (wish : WishFields) (g : Gathered) : Type 0 where
  pub known : AreKnown c wish g.names.items g.releases.items
  pub places : ArePlaces g.names.items g.places
  pub placed : All (IsPlacedNode g.places) g.nodes.items
  pub based : (n : List ℕ) → HasPlace g.places n → Contains g.nodes.items (base n)
  pub seen : (n : Node) → contains node_eq g.seen n ≡ true → Contains g.nodes.items n

-- more was taken in: what was there is there
pub record TakesMore (before after : Gathered) : Type 0 where
  pub nodes : (n : Node) → Contains before.nodes.items n → Contains after.nodes.items n
  pub releases : (k : ℕ) (r : Releases) → slice_get before.releases.items k ≡ Some r → slice_get after.releases.items k ≡ Some r

-- All was taken in that is reached from the nodes that a region starts from.
pub record IsWhole (from : List Node) (g : Gathered) : Type 0 where
  pub starts : All (Contains g.nodes.items) from
  pub targets : All (ListsTargets (Contains g.nodes.items)) g.releases.items

-- the map has the place of the node's name
abbrev pub IsNamedBy : {S : Type 0} → HashMap (List ℕ) ℕ S → Planned → Type 0
IsNamedBy places p = get bytes_eq places p.node.name ≡ Some p.name

-- the name of a node stands at its place among the names
abbrev pub IsNamed : List NameFacts → Planned → Type 0
IsNamed names p = HasName names p.node.name p.name

-- the node comes after the last one
abbrev pub ComesAfter : List Planned → Node → Type 0
ComesAfter nodes n = (p : Planned) → slice_get nodes (length nodes - 1) ≡ Some p → node_cmp p.node n ≡ Less

-- the release that a row is of
abbrev pub release_in : Row → ReleaseFields
release_in row = row.release.now

-- the place of a node's base, for what is known of its name
abbrev pub HasBaseFor : List NameFacts → List Planned → Planned → Option ℕ → Type 0
HasBaseFor names nodes p b = (f : NameFacts) × (slice_get names p.name ≡ Some f) × HasBaseAt names nodes p.node b f

-- the needs of a row's requirements
abbrev pub AreAimsOf : List NameFacts → List Planned → List (List PlaceNeed) → Row → Type 0
AreAimsOf names nodes kss row = AreRowAims names nodes kss row.asked

-- a node with the rows of these releases, and their needs
pub record HasRows (h : PassView) (names : List NameFacts) (nodes : List Planned) (truths : List DiagramMark) (rs : List ReleaseFields) (p : Planned) : Type 0 where
  pub named : IsNamed names p
  pub base : HasBaseFor names nodes p p.base
  pub rows : All (IsRow h p.node truths) p.rows.items
  pub releases : map release_in p.rows.items ≡ rs
  pub aims : AllZip (AreAimsOf names nodes) p.aims.items p.rows.items
  pub shared : AreSharedLists p

-- a node with the rows of its name's releases
abbrev pub HasOwnRows : PassView → List NameFacts → List Planned → List DiagramMark → List (List ReleaseFields) → Planned → Type 0
HasOwnRows h names nodes truths own p = (rs : List ReleaseFields) × (slice_get own p.name ≡ Some rs) × HasRows h names nodes truths rs p

-- a node, and the place of its name
abbrev pub node_in : Planned → Node × ℕ
node_in p = (p.node, p.name)

-- the nodes and their names are those of the other list
abbrev pub AreSameNodes : List Planned → List Planned → Type 0
AreSameNodes ps qs = map node_in ps ≡ map node_in qs
