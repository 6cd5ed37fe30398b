-- Extras, packages and locks that are made of parts, not all of which need be printed.
use Rattle.std.proofs.Common.{◌≡◌, ℕ, List, ◌++◌, Option, Some, None, refl, sym, subst}
use Rattle.std.specs.Prelude.{flat_map}
use Rattle.ul_requirement.specs.Fields.{FileFields}
use Rattle.ul_requirement.specs.Truth.{base, with_extra}
use Rattle.ul_nodes.specs.Plain.{Plain}
use Rattle.ul_index.specs.Catalogs.{Packages, release_of}
use Rattle.ul_project.specs.Fields.{ProjectFields}
use Rattle.ul_lock.specs.declared.parts.Edge.{Edge}
use Rattle.ul_lock.specs.declared.parts.Extra.{Extra}
use Rattle.ul_lock.specs.declared.parts.Lock.{Lock}
use Rattle.ul_lock.specs.declared.parts.Locked.{Locked}
use Rattle.ul_lock_write.specs.Markers.{edge_marker, extra_markers, fork_marker, package_markers}
use Rattle.ul_sound.specs.Leaves.{LeafFields}
use Rattle.ul_sound.specs.Merged.{AreBlocks, AreEdgesOf, AreForks, Pair, files_in}
use Rattle.ul_merge.specs.Blocks.{AreMadeExtras, IsMadeBlock, IsMadeExtra}
use Rattle.ul_merge.specs.Over.{IsMergedOrOver, OrOver, block_by, both_of, extra_by, lock_by}
use Rattle.ul_merge.proofs.OverFacts.{both_over}

-- ---- an extra

pub extra_over : (c : Packages) (ls : List LeafFields) (s : Plain) (i : Pair) (y : List ℕ) (r : Option (List Edge)) → OrOver (flat_map edge_marker) (AreEdgesOf c ls s (with_extra i.0 y, i.1)) r
    → OrOver extra_markers (IsMadeExtra c ls s i y) (extra_by y r)
extra_over c ls s i y (Some es) (h, n) = (record { named = refl; edges = h }, n)
extra_over c ls s i y None (es, h, o) = (record { name = y; edges = es }, record { named = refl; edges = h }, o)

-- ---- a package

-- the markers of edges and extras
abbrev row_markers : List Edge × List Extra → List Plain
row_markers x = flat_map edge_marker x.0 ++ flat_map extra_markers x.1

-- the edges of a package's base, and its extras
abbrev AreRows : Packages → List LeafFields → Plain → Pair → List Edge × List Extra → Type 0
AreRows c ls s i x = AreEdgesOf c ls s (base i.0, i.1) x.0 × AreMadeExtras c ls s i x.1

block_of_rows : (c : Packages) (ls : List LeafFields) (s : Plain) (i : Pair) (files : List FileFields) (rows : Option (List Edge × List Extra)) → files ≡ files_in (release_of c i.0 i.1)
    → OrOver row_markers (AreRows c ls s i) rows → OrOver package_markers (IsMadeBlock c ls s i) (block_by i.0 i.1 files rows)
block_of_rows c ls s i files (Some x) e (h, n) = (record { named = refl; at = refl; files = e; edges = h.0; extras = h.1 }, n)
block_of_rows c ls s i files None e (x, h, o) = (record { name = i.0; version = i.1; files = files; edges = x.0; extras = x.1 }, record { named = refl; at = refl; files = e; edges = h.0; extras = h.1 }, o)

pub block_over : (c : Packages) (ls : List LeafFields) (s : Plain) (i : Pair) (files : List FileFields) (edges : Option (List Edge)) (extras : Option (List Extra)) (rows : Option (List Edge × List Extra)) (b : Option Locked)
    → files ≡ files_in (release_of c i.0 i.1) → OrOver (flat_map edge_marker) (AreEdgesOf c ls s (base i.0, i.1)) edges → OrOver (flat_map extra_markers) (AreMadeExtras c ls s i) extras
    → rows ≡ both_of edges extras → b ≡ block_by i.0 i.1 files rows → OrOver package_markers (IsMadeBlock c ls s i) b
block_over c ls s i files edges extras rows b e h k r is =
    subst (OrOver package_markers (IsMadeBlock c ls s i)) (sym is) (block_of_rows c ls s i files rows e
    (subst (OrOver row_markers (AreRows c ls s i)) (sym r) (both_over (flat_map edge_marker) (flat_map extra_markers) (AreEdgesOf c ls s (base i.0, i.1)) (AreMadeExtras c ls s i) edges extras h k)))

-- ---- a lock

-- the markers of forks and packages
abbrev listed_markers : List Plain × List Locked → List Plain
listed_markers x = flat_map fork_marker x.0 ++ flat_map package_markers x.1

-- the forks and the packages of a lock
abbrev AreListed : Packages → ProjectFields → List LeafFields → List Plain × List Locked → Type 0
AreListed c p ls x = AreForks p.region ls x.0 × AreBlocks c p ls x.1

-- the markers of its parts
abbrev part_markers : Plain × (List Plain × List Locked) → List Plain
part_markers x = fork_marker x.0 ++ listed_markers x.1

-- its parts
abbrev AreParts : Packages → ProjectFields → List LeafFields → Plain × (List Plain × List Locked) → Type 0
AreParts c p ls x = (x.0 ≡ p.region) × AreListed c p ls x.1

lock_of_parts : (c : Packages) (p : ProjectFields) (ls : List LeafFields) (parts : Option (Plain × (List Plain × List Locked))) → OrOver part_markers (AreParts c p ls) parts → IsMergedOrOver c p ls (lock_by p.package.name parts)
lock_of_parts c p ls (Some x) (h, n) = (record { root = refl; supported = h.0; forks = h.1.0; packages = h.1.1 }, n)
lock_of_parts c p ls None (x, h, o) = (record { root = p.package.name; supported = x.0; forks = x.1.0; packages = x.1.1 }, record { root = refl; supported = h.0; forks = h.1.0; packages = h.1.1 }, o)

pub lock_over : (c : Packages) (p : ProjectFields) (ls : List LeafFields) (region : Option Plain) (forks : Option (List Plain)) (packages : Option (List Locked)) (rows : Option (List Plain × List Locked))
    (parts : Option (Plain × (List Plain × List Locked))) (lock : Option Lock) → OrOver fork_marker (λ (t : Plain). t ≡ p.region) region → OrOver (flat_map fork_marker) (AreForks p.region ls) forks
    → OrOver (flat_map package_markers) (AreBlocks c p ls) packages → rows ≡ both_of forks packages → parts ≡ both_of region rows → lock ≡ lock_by p.package.name parts → IsMergedOrOver c p ls lock
lock_over c p ls region forks packages rows parts lock h k m r q is =
    subst (IsMergedOrOver c p ls) (sym is) (lock_of_parts c p ls parts
    (subst (OrOver part_markers (AreParts c p ls)) (sym q) (both_over fork_marker listed_markers (λ (t : Plain). t ≡ p.region) (AreListed c p ls) region rows h
    (subst (OrOver listed_markers (AreListed c p ls)) (sym r) (both_over (flat_map fork_marker) (flat_map package_markers) (AreForks p.region ls) (AreBlocks c p ls) forks packages k m)))))
