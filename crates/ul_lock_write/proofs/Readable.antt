-- A lock all of whose markers are printed is read back.
use Rattle.std.proofs.Common.{◌≡◌, ℕ, List, [], ◌∷◌, ◌++◌, Bool, true, false, sym, ◌∙◌, refl, ◌^◌, Option, Some, None, if◌then◌else◌}
use Rattle.std.specs.Prelude.{flat_map, min}
use Rattle.ul_nodes.specs.Plain.{Plain}
use Rattle.ul_lines.specs.Reader.{Each}
use Rattle.ul_tree.specs.Paths.{paths_of, is_printable}
use Rattle.ul_marker_text.proofs.ForCallers.{printable_readable}
use Rattle.ul_lock.specs.declared.parts.Edge.{Edge}
use Rattle.ul_lock.specs.declared.parts.Extra.{Extra}
use Rattle.ul_lock.specs.declared.parts.Locked.{Locked}
use Rattle.ul_lock.specs.declared.parts.Lock.{Lock}
use Rattle.ul_lock_write.specs.Markers.{edge_marker, extra_markers, first_over, fork_marker, markers_of, or_else, over, package_markers}
use Rattle.ul_lock_write.specs.Readable.{AreEdgesReadable, AreExtrasReadable, IsLockReadable, IsPackageReadable, IsReadable}
use Rattle.ul_lock_write.proofs.OverPaths.{over_join}

none_both : (a b : Option ℕ) → or_else a b ≡ None → (a ≡ None) × (b ≡ None)
none_both None b e = (refl, e)
none_both (Some p) b e = absurd cc

-- a list without such a tree has none in either part
joined : (xs ys : List Plain) → first_over (xs ++ ys) ≡ None → (first_over xs ≡ None) × (first_over ys ≡ None)
joined xs ys e = none_both (first_over xs) (first_over ys) (sym (over_join xs ys) ∙ e)

-- a list whose trees are printed
front : (t : Plain) (ts : List Plain) → first_over (t ∷ ts) ≡ None → (over t ≡ None) × (first_over ts ≡ None)
unfolding first_over
front t ts e = none_both (over t) (first_over ts) e

printed : (t : Plain) → over t ≡ None → IsReadable t
unfolding over
printed t e = go (is_printable t) refl e
  where
    go : (b : Bool) → is_printable t ≡ b → (if b then None else Some (min (paths_of t) (2 ^ 127))) ≡ None → IsReadable t
    go true q e = printable_readable t q
    go false q e = absurd cc

edges : (es : List Edge) → first_over (flat_map edge_marker es) ≡ None → AreEdgesReadable es
edges [] h = tt
edges (e ∷ es) h = let k = front e.marker (flat_map edge_marker es) h in (printed e.marker k.0, edges es k.1)

extras : (xs : List Extra) → first_over (flat_map extra_markers xs) ≡ None → AreExtrasReadable xs
extras [] h = tt
extras (x ∷ xs) h = let k = joined (extra_markers x) (flat_map extra_markers xs) h in (edges x.edges k.0, extras xs k.1)

packages : (bs : List Locked) → first_over (flat_map package_markers bs) ≡ None → Each IsPackageReadable bs
packages [] h = tt
packages (b ∷ bs) h =
    let k = joined (package_markers b) (flat_map package_markers bs) h in
    let own = joined (flat_map edge_marker b.edges) (flat_map extra_markers b.extras) k.0 in
    (record { edges = edges b.edges own.0; extras = extras b.extras own.1 }, packages bs k.1)

forks : (ms : List Plain) → first_over (flat_map fork_marker ms) ≡ None → Each IsReadable ms
forks [] h = tt
forks (m ∷ ms) h = let k = front m (flat_map fork_marker ms) h in (printed m k.0, forks ms k.1)

-- a lock that is written is one that is read
pub lock_readable : (l : Lock) → first_over (markers_of l) ≡ None → IsLockReadable l
lock_readable l h =
    let k = front l.supported (flat_map fork_marker l.forks ++ flat_map package_markers l.packages) h in
    let rest = joined (flat_map fork_marker l.forks) (flat_map package_markers l.packages) k.1 in
    record { supported = printed l.supported k.0; forks = forks l.forks rest.0; packages = packages l.packages rest.1 }
