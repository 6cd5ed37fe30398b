-- What contracts say of trees in code.
use Rattle.std.specs.Prelude.{ℕ, List, map, Bool, true, ◌≡◌}
use Rattle.std.specs.Str.{bytes_eq}
use Rattle.ul_comparison.specs.Atoms.{AtomFields, has_atom}
use Rattle.ul_comparison.specs.Truth.{as_asked, equals_extra, is_listed, marker_holds, python_release}
use Rattle.ul_marker.specs.Views.{marker_view}
use Rattle.ul_comparison.specs.Worlds.{WorldFields, IsWorld, text_at}
use Rattle.ul_marker.specs.declared.marker.Marker.{Marker}
use Rattle.ul_comparison.specs.declared.variable.Variable.{Variable}
use Rattle.ul_tree.specs.Joining.{truths_of}
use Rattle.ul_nodes.specs.Keys.{IsBranchAt, branches_of, key_view}
use Rattle.ul_nodes.specs.Plain.{Plain}
use Rattle.ul_nodes.specs.Reduced.{IsReduced}
use Rattle.ul_tree.specs.Values.{tree_holds}
use Rattle.ul_tree.specs.Views.{tree_view}
use Rattle.ul_nodes.specs.declared.level.Key.{Key}
use Rattle.ul_tree.specs.declared.tree.Tree.{Tree}
use Rattle.ul_version.specs.Fields.{Fields, plain}
use Rattle.ul_specifier.specs.Clauses.{ClauseFields}
use Rattle.ul_specifier.specs.Meaning.{meets_clause}

-- a tree is reduced
abbrev pub IsTree : Tree → Type 0
IsTree t = IsReduced (tree_view t)

-- a tree has this truth, for every value of each variable
abbrev pub HoldsAs : Tree → (WorldFields → List ℕ → Bool) → Type 0
HoldsAs t p = (w : WorldFields) (x : List ℕ) → tree_holds (tree_view t) w x ≡ p w x

-- a tree has this truth at every world
abbrev pub HoldsAtWorlds : Tree → (WorldFields → List ℕ → Bool) → Type 0
HoldsAtWorlds t p = (w : WorldFields) (x : List ℕ) → IsWorld w → tree_holds (tree_view t) w x ≡ p w x

-- a tree has the truth of what is said of the interpreter's release, by all three numbers or the first two
abbrev pub HoldsByPython : Tree → Bool → (List ℕ → Bool) → Type 0
HoldsByPython t full p = HoldsAtWorlds t (λ w x. p (python_release full w))

-- a tree has the joined truth of two
abbrev pub HoldsJoined : (Bool → Bool → Bool) → Tree → Tree → Tree → Type 0
HoldsJoined op a b t = HoldsAs t (λ w x. op (tree_holds (tree_view a) w x) (tree_holds (tree_view b) w x))

-- trees have the truths of markers
abbrev pub HoldAsMarkers : List Tree → List Marker → Type 0
HoldAsMarkers trees markers = (w : WorldFields) (x : List ℕ) → IsWorld w → truths_of trees w x ≡ map (λ m. marker_holds (marker_view m) w x) markers

-- whether an extra equals a literal, or doesn't, as is asked
abbrev pub extra_truth : List ℕ → Bool → WorldFields → List ℕ → Bool
extra_truth literal equal w x = as_asked equal (equals_extra literal x)

-- whether a text variable equals a literal, or doesn't, as is asked
abbrev pub text_truth : Variable → List ℕ → Bool → WorldFields → List ℕ → Bool
text_truth variable literal equal w x = as_asked equal (bytes_eq (text_at w variable) literal)

-- whether an opaque comparison holds, or doesn't, as is asked
abbrev pub atom_truth : AtomFields → Bool → WorldFields → List ℕ → Bool
atom_truth atom positive w x = as_asked positive (has_atom w.truths atom)

-- in a region, a tree has the truth of another
abbrev pub AgreesWithin : Plain → Plain → Plain → Type 0
AgreesWithin region tree made = (w : WorldFields) (x : List ℕ) → tree_holds region w x ≡ true → tree_holds made w x ≡ tree_holds tree w x

-- the branch of a tree at a place
abbrev pub IsTreeBranch : Tree → ℕ → Key → Tree → Type 0
IsTreeBranch tree index key part = IsBranchAt (branches_of (tree_view tree)) index (key_view key) (tree_view part)

-- whether a release meets a clause
abbrev pub meets_release : ClauseFields → List ℕ → Bool
meets_release clause release = meets_clause clause (plain release)

-- whether a release is one of a list, or isn't, as is asked
abbrev pub listed_truth : List Fields → Bool → List ℕ → Bool
listed_truth versions within release = as_asked within (is_listed versions release)
