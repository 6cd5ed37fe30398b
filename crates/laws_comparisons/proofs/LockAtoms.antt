-- The comparisons of a well formed lock are such as a marker's text can spell.
use Rattle.std.proofs.Common.{◌++◌, ℕ, List, [], ◌∷◌, flat_map}
use Rattle.std.specs.Prelude.{All}
use Rattle.std.proofs.lemmas.List.Elements.{All-append, All-cons, All-nil}
use Rattle.ul_comparison.specs.Atoms.{AtomFields, IsAtom}
use Rattle.ul_nodes.specs.Levels.{IsKey}
use Rattle.ul_nodes.specs.Plain.{Plain, truth, node, Branches, done, branch, carried_part, carries}
use Rattle.ul_nodes.specs.Reduced.{Fits, FitsAll, HasBranch}
use Rattle.ul_tree.specs.Sample.{atom_of}
use Rattle.ul_tree.proofs.ForCallers.{atom_found}
use Rattle.ul_lines.specs.Reader.{Each}
use Rattle.ul_lock.specs.Region.{IsRegion}
use Rattle.ul_lock.specs.WellFormed.{IsEdge, IsListed, IsPackage}
use Rattle.ul_lock.specs.declared.parts.Edge.{Edge}
use Rattle.ul_lock.specs.declared.parts.Extra.{Extra}
use Rattle.ul_lock.specs.declared.parts.Locked.{Locked}
use Rattle.ul_filter.specs.Comparisons.{branch_atoms, edge_atoms, extra_atoms, level_atoms, package_atoms, tree_atoms}
use Rattle.laws_comparisons.specs.Comparisons.{LocksHaveAtoms}

flat : {A : Type 0} (P : A → Type 0) (f : A → List AtomFields) → ((x : A) → P x → All IsAtom (f x)) → (xs : List A) → Each P xs
    → All IsAtom (flat_map f xs)
flat P f one [] h = All-nil IsAtom
flat P f one (x ∷ xs) h = All-append IsAtom (f x) (flat_map f xs) (one x h.0) (flat P f one xs h.1)

-- ---- trees

level_has : (l k : List ℕ) → IsKey l k → All IsAtom (level_atoms l)
level_has [] k h = absurd h
level_has (a ∷ []) k h = All-nil IsAtom
level_has (a ∷ b ∷ rest) k h = All-cons IsAtom (atom_of (a ∷ b ∷ rest)) [] (atom_found (a ∷ b ∷ rest) h.0) (All-nil IsAtom)

first_key : (bs : Branches) (l : List ℕ) (d : Plain) → HasBranch bs → FitsAll bs l d → All IsAtom (level_atoms l)
first_key done l d h f = absurd h
first_key (branch k c rest) l d h f = level_has l k f.0

mutual
  tree_has : (t : Plain) (b : List ℕ) → Fits t b → All IsAtom (tree_atoms t)
  tree_has (truth x) b f = All-nil IsAtom
  tree_has (node l d bs) b f =
      All-append IsAtom (level_atoms l) (tree_atoms d ++ branch_atoms bs) (first_key bs l d f.1 f.3)
      (All-append IsAtom (tree_atoms d) (branch_atoms bs) (tree_has d l f.2) (branches_have bs l d f.3))

  branches_have : (bs : Branches) (l : List ℕ) (d : Plain) → FitsAll bs l d → All IsAtom (branch_atoms bs)
  branches_have done l d f = All-nil IsAtom
  branches_have (branch k c rest) l d f =
      All-append IsAtom (tree_atoms c) (branch_atoms rest) (tree_has c l f.2) (branches_have rest l (carried_part (carries l) c d) f.4)

region_has : (t : Plain) → IsRegion t → All IsAtom (tree_atoms t)
region_has t h = tree_has t [] h.reduced

-- ---- locks

edges_have : (es : List Edge) → Each IsEdge es → All IsAtom (edge_atoms es)
edges_have es h = flat IsEdge (λ (e : Edge). tree_atoms e.marker) (λ e is. region_has e.marker is.marker) es h

extra_has : (x : Extra) → IsListed x → All IsAtom (extra_atoms x)
extra_has x h = edges_have x.edges h.edges.each

package_has : (b : Locked) → IsPackage b → All IsAtom (package_atoms b)
package_has b h =
    All-append IsAtom (edge_atoms b.edges) (flat_map extra_atoms b.extras) (edges_have b.edges h.edges.each)
    (flat IsListed extra_atoms extra_has b.extras h.extras)

pub locks_have_atoms : LocksHaveAtoms
locks_have_atoms l h =
    All-append IsAtom (tree_atoms l.supported) (flat_map tree_atoms l.forks ++ flat_map package_atoms l.packages) (region_has l.supported h.supported)
    (All-append IsAtom (flat_map tree_atoms l.forks) (flat_map package_atoms l.packages) (flat IsRegion tree_atoms region_has l.forks h.forks)
    (flat IsPackage package_atoms package_has l.packages h.packages))
