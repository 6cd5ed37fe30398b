-- What is made only where all of its markers are printed: a tree with too many paths or levels is never made.
use Rattle.std.specs.Prelude.{◌≡◌, ℕ, List, ◌++◌, Vec, flat_map, Option, Some, None}
use Rattle.std.specs.declared.alloc.Global.{Global}
use Rattle.ul_base.specs.declared.node.Node.{Node}
use Rattle.ul_version.specs.Fields.{Fields}
use Rattle.ul_nodes.specs.Plain.{Plain}
use Rattle.ul_index.specs.Catalogs.{Packages}
use Rattle.ul_project.specs.Fields.{ProjectFields}
use Rattle.ul_requirement.specs.Fields.{FileFields}
use Rattle.ul_lock.specs.declared.parts.Edge.{Edge}
use Rattle.ul_lock.specs.declared.parts.Extra.{Extra}
use Rattle.ul_lock.specs.declared.parts.Locked.{Locked}
use Rattle.ul_lock.specs.declared.parts.Lock.{Lock}
use Rattle.ul_lock_write.specs.Markers.{first_over, markers_of, package_markers}
use Rattle.ul_sound.specs.Leaves.{LeafFields}
use Rattle.ul_sound.specs.Merged.{IsMergedLock}
use Rattle.ul_merge.specs.Made.{at_most_one}

-- some marker of these isn't printed
abbrev pub HasOver : List Plain → Type 0
HasOver ms = (p : ℕ) × (first_over ms ≡ Some p)

-- something that is as it should be, all of whose markers are printed; or there is one, not all of whose markers are
abbrev pub OrOver : {A : Type 0} → (A → List Plain) → (A → Type 0) → Option A → Type 0
OrOver markers Is (Some a) = Is a × (first_over (markers a) ≡ None)
OrOver {A = A} markers Is None = (a : A) × Is a × HasOver (markers a)

-- ---- lists

-- the elements of a list, if it is there
abbrev pub items_in : {B : Type 0} → Option (Vec B Global) → Option (List B)
items_in None = None
items_in (Some v) = Some v.items

-- a list that is as it should be, all of whose markers are printed; or there is one, not all of whose markers are
abbrev pub ItemsOrOver : {B : Type 0} → (B → List Plain) → (List B → Type 0) → Option (Vec B Global) → Type 0
ItemsOrOver markers Is made = OrOver (flat_map markers) Is (items_in made)

-- the same of packages
abbrev pub MadeOrOver : (List Locked → Type 0) → Option (Vec Locked Global) → Type 0
MadeOrOver Is made = ItemsOrOver package_markers Is made

-- the markers of an element, if there is one
abbrev pub markers_in : {B : Type 0} → (B → List Plain) → Option B → List Plain
markers_in markers o = flat_map markers (at_most_one o)

-- elements with one more, if it is there, where all of this was made
abbrev pub with_more : {B : Type 0} → Option (List B) → Option (Option B) → Option (List B)
with_more None o = None
with_more (Some bs) None = None
with_more (Some bs) (Some o) = Some (bs ++ at_most_one o)

-- elements with those of another list behind them, where both were made
abbrev pub with_list : {B : Type 0} → Option (List B) → Option (List B) → Option (List B)
with_list None o = None
with_list (Some bs) None = None
with_list (Some bs) (Some cs) = Some (bs ++ cs)

-- ---- what is made of parts

-- an edge of its marker
abbrev pub edge_by : Node → Fields → Option Plain → Option Edge
edge_by n v None = None
edge_by n v (Some m) = Some (record { target = n; version = v; marker = m })

-- an extra of its name and edges
abbrev pub extra_by : List ℕ → Option (List Edge) → Option Extra
extra_by name None = None
extra_by name (Some es) = Some (record { name = name; edges = es })

-- both of two parts
abbrev pub both_of : {A B : Type 0} → Option A → Option B → Option (A × B)
both_of None b = None
both_of (Some a) None = None
both_of (Some a) (Some b) = Some (a, b)

-- a package of its edges and extras
abbrev pub block_by : List ℕ → Fields → List FileFields → Option (List Edge × List Extra) → Option Locked
block_by name version files None = None
block_by name version files (Some rows) = Some (record { name = name; version = version; files = files; edges = rows.0; extras = rows.1 })

-- a lock of its supported region, its forks and its packages
abbrev pub lock_by : List ℕ → Option (Plain × (List Plain × List Locked)) → Option Lock
lock_by root None = None
lock_by root (Some parts) = Some (record { root = root; supported = parts.0; forks = parts.1.0; packages = parts.1.1 })

-- ---- the whole

-- the lock that the leaves merge into, all of whose markers are printed; or none, where not all of its markers are
abbrev pub IsMergedOrOver : Packages → ProjectFields → List LeafFields → Option Lock → Type 0
IsMergedOrOver c p ls lock = OrOver markers_of (IsMergedLock c p ls) lock
