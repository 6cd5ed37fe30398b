-- What all regions of a project share: names with their eligible versions and orders, nodes with what their releases ask, and
-- requirements as needs by the places of nodes.
use Rattle.std.specs.Prelude.{◌≡◌, ◌<◌, ◌^◌, ℕ, List, [], ◌∷◌, All, Option, Some, None, length, map, slice_get}
use Rattle.ul_base.specs.declared.node.Node.{Node}
use Rattle.ul_base.specs.Nodes.{node_cmp}
use Rattle.std.specs.declared.cmp.Ordering.TheVariants.{Less}
use Rattle.ul_version.specs.Fields.{Fields}
use Rattle.ul_specifier.specs.Meaning.{meets_list}
use Rattle.ul_requirement.specs.Fields.{WishFields}
use Rattle.ul_problem.specs.Problems.{Increases, IsOrderOf, VersionBefore}
use Rattle.ul_problem.specs.declared.problem.Need.{Need as PlaceNeed}
use Rattle.ul_index.specs.Catalogs.{Packages, release_of}
use Rattle.ul_index.specs.Eligible.{eligible}
use Rattle.ul_index.specs.Preference.{preference}
use Rattle.ul_algebra.specs.Answers.{IsDiagram}
use Rattle.ul_region.specs.Best.{Need, needs_of}
use Rattle.ul_region.specs.Problem.{AreVersionsAt}
use Rattle.ul_region.specs.Rows.{IsRow}
use Rattle.ul_region.specs.Truths.{DiagramMark, PassView}
use Rattle.ul_region.specs.declared.rows.Asked.{Asked}
use Rattle.ul_region.specs.declared.rows.Row.{Row}
use Rattle.ul_prepared.specs.declared.prepared.NameFacts.{NameFacts}
use Rattle.ul_prepared.specs.declared.prepared.Planned.{Planned}
use Rattle.ul_prepared.specs.declared.prepared.Prepared.{Prepared}

-- of a name: its eligible versions, which increase, and the order in which they are tried
pub record IsName (c : Packages) (wish : WishFields) (f : NameFacts) : Type 0 where
  pub versions : f.versions ≡ eligible c f.name
  pub few : length f.versions < 2 ^ 32
  pub increasing : Increases VersionBefore f.versions
  pub whole : IsOrderOf (length f.versions) f.order
  pub order : AreVersionsAt f.versions f.order (preference c wish f.name)

-- the place of a node, and what is known of its name
pub record IsNodeAt (names : List NameFacts) (nodes : List Planned) (k : ℕ) (n : Node) (f : NameFacts) : Type 0 where
  pub planned : Planned
  pub at : slice_get nodes k ≡ Some planned
  pub node : planned.node ≡ n
  pub facts : slice_get names planned.name ≡ Some f

-- a need by places: the place of its node, and of each version of the node whether it is permitted
pub record IsAim (names : List NameFacts) (nodes : List Planned) (k : PlaceNeed) (t : Need) : Type 0 where
  pub facts : NameFacts
  pub at : IsNodeAt names nodes k.node t.node facts
  pub permitted : k.permitted ≡ map (meets_list t.specifiers) facts.versions

-- needs by places, one for one
abbrev pub AreAims : List NameFacts → List Planned → List PlaceNeed → List Need → Type 0
AreAims names nodes [] [] = Unit {0}
AreAims names nodes [] (t ∷ ts) = ⊥
AreAims names nodes (k ∷ ks) [] = ⊥
AreAims names nodes (k ∷ ks) (t ∷ ts) = IsAim names nodes k t × AreAims names nodes ks ts

-- of each requirement that is asked about, in order, its needs
abbrev pub AreRowAims : List NameFacts → List Planned → List (List PlaceNeed) → List Asked → Type 0
AreRowAims names nodes [] [] = Unit {0}
AreRowAims names nodes [] (a ∷ asked) = ⊥
AreRowAims names nodes (ks ∷ kss) [] = ⊥
AreRowAims names nodes (ks ∷ kss) (a ∷ asked) = AreAims names nodes ks (needs_of a.requirement.now) × AreRowAims names nodes kss asked

-- the row of a version at a node is that of its release, and each requirement has its needs
pub record IsVersionRow (c : Packages) (h : PassView) (names : List NameFacts) (nodes : List Planned) (truths : List DiagramMark) (n : Node) (x : Fields) (row : Row) (aims : List (List PlaceNeed)) : Type 0 where
  pub found : release_of c n.name x ≡ Some row.release.now
  pub holds : IsRow h n truths row
  pub aimed : AreRowAims names nodes aims row.asked

-- the place of the base, where the node has an extra
abbrev pub HasBaseAt : List NameFacts → List Planned → Node → Option ℕ → NameFacts → Type 0
HasBaseAt names nodes n None f = n.extra ≡ None
HasBaseAt names nodes n (Some b) f = (n.extra ≡ None → ⊥) × IsNodeAt names nodes b (record { name = n.name; extra = None }) f

-- the place of each version's list of requirements among those of the node's name: versions with one place have the same list, the
-- same requirements that are asked about, and the same needs
pub record AreSharedLists (p : Planned) : Type 0 where
  pub size : length p.lists.items ≡ length p.rows.items
  pub asked : (j k l : ℕ) (a b : Row) → slice_get p.lists.items j ≡ Some l → slice_get p.lists.items k ≡ Some l
      → slice_get p.rows.items j ≡ Some a → slice_get p.rows.items k ≡ Some b
      → (a.release.now.requirements ≡ b.release.now.requirements) × (a.asked ≡ b.asked)
  pub aims : (j k l : ℕ) (x y : List (List PlaceNeed)) → slice_get p.lists.items j ≡ Some l → slice_get p.lists.items k ≡ Some l
      → slice_get p.aims.items j ≡ Some x → slice_get p.aims.items k ≡ Some y → x ≡ y

-- a node: what is known of its name, its base, and the row of each version
pub record IsPlanned (c : Packages) (h : PassView) (names : List NameFacts) (nodes : List Planned) (truths : List DiagramMark) (p : Planned) : Type 0 where
  pub facts : NameFacts
  pub at : slice_get names p.name ≡ Some facts
  pub named : facts.name ≡ p.node.name
  pub base : HasBaseAt names nodes p.node p.base facts
  pub count : length p.rows.items ≡ length facts.versions
  pub aimed : length p.aims.items ≡ length facts.versions
  pub shared : AreSharedLists p
  pub rows : (v : ℕ) (x : Fields) (row : Row) (aims : List (List PlaceNeed)) → slice_get facts.versions v ≡ Some x → slice_get p.rows.items v ≡ Some row
      → slice_get p.aims.items v ≡ Some aims → IsVersionRow c h names nodes truths p.node x row aims

-- one node comes before another
abbrev pub PlannedBefore : Planned → Planned → Type 0
PlannedBefore p q = node_cmp p.node q.node ≡ Less

-- the nodes stand at the places, one for one
abbrev pub AreNodesAt : List Planned → List ℕ → List Node → Type 0
AreNodesAt nodes [] [] = Unit {0}
AreNodesAt nodes [] (n ∷ ns) = ⊥
AreNodesAt nodes (k ∷ ks) [] = ⊥
AreNodesAt nodes (k ∷ ks) (n ∷ ns) = record { planned : Planned; at : slice_get nodes k ≡ Some planned; node : planned.node ≡ n; rest : AreNodesAt nodes ks ns }

-- What all regions share is right for its catalog, the nodes that a region starts from, and its wish.
pub record IsPrepared (h : PassView) (p : Prepared) : Type 0 where
  pub names : All (IsName p.catalog.now p.wish.now) p.names.items
  pub increasing : Increases PlannedBefore p.nodes.items
  pub nodes : All (IsPlanned p.catalog.now h p.names.items p.nodes.items p.truths.marks.items) p.nodes.items
  pub roots : AreNodesAt p.nodes.items p.roots.items p.starts.now
  pub truths : All (IsDiagram h) p.truths.marks.items
