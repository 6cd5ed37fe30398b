-- Which opaque comparisons a lock asks, and the worlds of machines.
use Rattle.std.specs.Prelude.{◌≡◌, ◌++◌, ℕ, List, All, Bool, true, false, Contains, flat_map, IfSome, Ok, Option}
use Rattle.std.specs.List.{AllByRecursion}
use Rattle.ul_comparison.specs.Atoms.{AtomFields, IsAtom, has_atom, is_extras}
use Rattle.ul_comparison.specs.Formulas.{Formula}
use Rattle.ul_comparison.specs.MachineFiles.{machine_of}
use Rattle.ul_comparison.specs.Machines.{IsMachine, MachineFields, world_of}
use Rattle.ul_comparison.specs.Worlds.{WorldFields, IsWorld}
use Rattle.ul_marker.specs.Parts.{asks_extras, atoms_of}
use Rattle.ul_specifier.specs.Clauses.{ClauseFields}
use Rattle.ul_nodes.specs.Plain.{Plain}
use Rattle.ul_nodes.specs.Reduced.{IsReduced}
use Rattle.ul_tree.specs.Regions.{HasTruth}
use Rattle.ul_tree.specs.Simplify.{Simplifies}
use Rattle.ul_tree.specs.Values.{tree_holds}
use Rattle.ul_index.specs.Catalogs.{Packages}
use Rattle.ul_load.specs.Loading.{atoms_in, requirements_of}
use Rattle.ul_project.specs.Fields.{ProjectFields}
use Rattle.ul_project.specs.Region.{is_supported}
use Rattle.ul_lock.specs.declared.parts.Lock.{Lock}
use Rattle.ul_lock.specs.Walk.{Pick as NodeAt, Walk}
use Rattle.ul_lock.specs.WellFormed.{IsWellFormed}
use Rattle.ul_filter.specs.Comparisons.{HasAll, lock_atoms, tree_atoms}
use Rattle.ul_sound.specs.Leaves.{LeafFields}
use Rattle.ul_sound.specs.Merged.{IsMergedLock, IsSimplified}
use Rattle.ul_generations.specs.Generations.{leaves_are}
use Rattle.ul_forks.specs.Headline.{IsAnswer, TreeLeaf}
use Rattle.ul_forks.specs.Outcome.{Question}

-- ---- worlds that differ in comparisons

-- a world in which these opaque comparisons hold, and no others
abbrev pub with_truths : WorldFields → List AtomFields → WorldFields
with_truths w ts = record { major = w.major; minor = w.minor; patch = w.patch; texts = w.texts; truths = ts }

-- of the comparisons that are asked, both lists have the same
abbrev pub HaveAlike : List AtomFields → List AtomFields → List AtomFields → Type 0
HaveAlike asked ts us = (a : AtomFields) → has_atom asked a ≡ true → has_atom ts a ≡ has_atom us a

-- a truth looks at no opaque comparisons but these: it is one in worlds that differ in others alone
abbrev pub LooksAt : List AtomFields → (WorldFields → Bool) → Type 0
LooksAt asked p = (w : WorldFields) (ts : List AtomFields) → IsWorld w → IsWorld (with_truths w ts)
    → HaveAlike asked w.truths ts → p w ≡ p (with_truths w ts)

-- ---- what is asked

-- the opaque comparisons that a project and the documents of its index ask: those of the environments that it names, and of
-- the requirements of all releases, its own among them
abbrev pub asked_atoms : ProjectFields → Packages → List AtomFields
asked_atoms p c = flat_map atoms_of p.environments ++ flat_map (λ found. atoms_in (requirements_of found.releases)) c

-- a reduced tree has no comparisons but those that its truth looks at, and neither has what it is simplified to
abbrev pub TreesAskTheirs : Type 0
TreesAskTheirs = (asked : List AtomFields) (f c t : Plain) → IsReduced f → ((x : List ℕ) → LooksAt asked (λ w. tree_holds f w x))
    → Simplifies f c t → HasAll asked (tree_atoms t)

-- Leaves of a fork answer for the worlds that a project supports are merged. The lock asks no comparisons but those that the
-- project and the documents ask.
abbrev pub MergedAskTheirs : Type 0
MergedAskTheirs = (q : Question) (p : ProjectFields) (bounds : List ClauseFields) (counts : List ℕ) (forks : List TreeLeaf)
    (leaves : List LeafFields) (l : Lock)
    → HasTruth p.region (is_supported bounds p.environments) → IsAnswer q p.region counts (leaves_are forks)
    → ((k : LeafFields) → Contains leaves k → (f : TreeLeaf) × Contains forks f × (k.region ≡ f.region))
    → IsMergedLock q.catalog p leaves l → HasAll (asked_atoms p q.catalog) (lock_atoms l)

-- The marker that a node's walk becomes under the supported region asks no comparisons but the lock's.
abbrev pub WalksAskTheirs : Type 0
WalksAskTheirs = (l : Lock) (xs : List (List ℕ)) (p : NodeAt) (t : Plain) → IsWellFormed l
    → IsSimplified (λ w. Walk l w xs p) l.supported t → HasAll (lock_atoms l) (tree_atoms t)

-- ---- `extras`

-- none of the comparisons is one with `extras`
abbrev pub HaveNoExtras : List AtomFields → Type 0
HaveNoExtras ts = (a : AtomFields) → has_atom ts a ≡ true → is_extras a.variable ≡ false

-- no comparison with `extras` stands in the marker, if there is one
abbrev pub AsksNoExtras : Option Formula → Type 0
AsksNoExtras marker = IfSome marker (λ f. asks_extras f ≡ false)

-- what a project and the documents ask is none with `extras`, where none of their markers asks for it
abbrev pub AskedHaveNoExtras : Type 0
AskedHaveNoExtras = (p : ProjectFields) (c : Packages)
    → AllByRecursion (λ f. asks_extras f ≡ false) p.environments
    → AllByRecursion (λ found. AllByRecursion (λ r. AllByRecursion (λ q. AsksNoExtras q.marker) r.requirements) found.releases) c
    → HaveNoExtras (asked_atoms p c)

-- ---- machines

-- what a machine file says is a machine
abbrev pub FilesSayMachines : Type 0
FilesSayMachines = (bytes : List ℕ) (m : MachineFields) → machine_of bytes ≡ Ok m → IsMachine m

-- a machine's world, with the truth of any comparisons, is a world
abbrev pub MachinesHaveWorlds : Type 0
MachinesHaveWorlds = (m : MachineFields) (comparisons : List AtomFields) → IsMachine m → All IsAtom comparisons
    → IsWorld (world_of m comparisons)

-- the comparisons of a well formed lock are comparisons that a marker's text can spell
abbrev pub LocksHaveAtoms : Type 0
LocksHaveAtoms = (l : Lock) → IsWellFormed l → All IsAtom (lock_atoms l)
