-- What the answers of readers say where they are handed on.
use Rattle.std.proofs.Common.{◌≡◌, ◌≢◌, ℕ, List, [], Bool, true, false, refl, ap, sym, ◌∙◌, subst, Option, Some, None, Result, Ok, Err, inl, inr}
use Rattle.std.specs.Prelude.{◌&&◌, ◌↔◌, IfOk, IsTrue, not, option_map, if◌then◌else◌}
use Rattle.std.specs.declared.alloc.AllocError.{AllocError}
use Rattle.std.specs.Str.{bytes_eq}
use Rattle.std.proofs.lemmas.Bool.{and_parts}
use Rattle.std.proofs.lemmas.Slice.Eq.{bytes_eq-Decides}
use Rattle.ul_base.specs.Names.{NameReading, name_of}
use Rattle.ul_base.specs.declared.name.NameFault.{NameFault}
use Rattle.ul_base.specs.declared.name.NameFault.TheVariants.{NoReading as NoName, NoMemory as NoMemoryForName}
use Rattle.ul_marker.specs.declared.fault.MarkerFault.{MarkerFault}
use Rattle.ul_marker.specs.declared.fault.MarkerFault.TheVariants.{NoReading, NoMemory}
use Rattle.ul_nodes.specs.Levels.{IsExtra}
use Rattle.ul_nodes.specs.Plain.{Plain, truth, node}
use Rattle.ul_nodes.specs.Reduced.{IsReduced}
use Rattle.ul_tree.specs.FirstParts.{is_false}
use Rattle.ul_tree.specs.Paths.{is_printable}
use Rattle.ul_tree.specs.Views.{tree_view}
use Rattle.ul_tree.specs.declared.tree.Tree.{Tree}
use Rattle.ul_marker_text.specs.Faults.{IsTextFault, is_no_memory}
use Rattle.ul_marker_text.specs.IfRead.{normal_if_read, region_if_read, tree_if_spelled}
use Rattle.ul_marker_text.specs.MarkerOfText.{is_readable, is_region, marker_of_text}
use Rattle.ul_marker_text.specs.MarkerText.{marker_text}
use Rattle.ul_marker_text.specs.declared.fault.TextFault.{TextFault}
use Rattle.ul_marker_text.specs.declared.fault.TextFault.TheVariants.{TooLong, NoMemory as NoMemoryForText}
use Rattle.ul_marker_text.proofs.MarkersRead.{no_marker, no_region, region_is}
use Rattle.ul_marker_text.proofs.TextsRead.{texts_differ}

-- a text that isn't empty is an extra where it is the normal form of the name that was read of it
pub extra_if_read : (text : List ℕ) (read : Result (List ℕ) NameFault) → text ≢ [] → NameReading text read → IfOk (normal_if_read text read) (λ b. IsTrue b ↔ IsExtra text)
extra_if_read text (Ok name) some is = (forth, back)
  where
    forth : IsTrue (bytes_eq name text) → IsExtra text
    forth e = inr (is ∙ ap Some ((bytes_eq-Decides name text).0 e))

    back : IsExtra text → IsTrue (bytes_eq name text)
    back (inl e) = absurd (some e)
    back (inr e) = (bytes_eq-Decides name text).1 (let p : Some name ≡ Some text = sym is ∙ e in cc)
extra_if_read text (Err NoName) some is = (forth, back)
  where
    forth : IsTrue false → IsExtra text
    forth e = absurd cc

    back : IsExtra text → IsTrue false
    back (inl e) = absurd (some e)
    back (inr e) = let p : None ≡ Some text = sym is ∙ e in absurd cc
extra_if_read text (Err NoMemoryForName) some is = tt

-- the tree that is given was told to have the text, and one that is refused was told not to
pub spelled_tree : (tree : Tree) (told : Result Bool AllocError) (P : Tree → Type 0) → (told ≡ Ok true → P tree) → IfOk (tree_if_spelled tree told) P
spelled_tree tree (Ok true) P h = h refl
spelled_tree tree (Ok false) P h = tt
spelled_tree tree (Err fault) P h = tt

pub refused_tree : (tree : Tree) (told : Result Bool AllocError) → tree_if_spelled tree told ≡ Err NoReading → told ≡ Ok false
refused_tree tree (Ok true) e = absurd cc
refused_tree tree (Ok false) e = refl
refused_tree tree (Err fault) e = absurd cc

-- whether a tree is told to have a text
abbrev pub HasTold : List ℕ → Plain → Bool → Type 0
HasTold text t told = told ≡ not (is_false t) && bytes_eq (marker_text t) text

-- a tree that isn't false everywhere
abbrev pub IsNotFalse : Plain → Type 0
IsNotFalse t = t ≢ truth false

not_false_is : (t : Plain) → IsNotFalse t → is_false t ≡ false
not_false_is (truth true) h = refl
not_false_is (truth false) h = absurd (h refl)
not_false_is (node l d bs) h = refl

pub told_spelled : (text : List ℕ) (t : Plain) (told : Result Bool AllocError) → IfOk told (HasTold text t) → told ≡ Ok true → marker_text t ≡ text
told_spelled text t (Ok true) h e = (bytes_eq-Decides (marker_text t) text).0 (and_parts (not (is_false t)) (bytes_eq (marker_text t) text) (sym h)).1
told_spelled text t (Ok false) h e = absurd cc
told_spelled text t (Err fault) h e = absurd cc

pub told_not_false : (text : List ℕ) (t : Plain) (told : Result Bool AllocError) → IfOk told (HasTold text t) → told ≡ Ok true → IsNotFalse t
told_not_false text t (Ok true) h e q =
    let some : not (is_false t) ≡ true = (and_parts (not (is_false t)) (bytes_eq (marker_text t) text) (sym h)).0 in
    let p : false ≡ true = sym (ap (λ z. not (is_false z)) q) ∙ some in cc
told_not_false text t (Ok false) h e q = absurd cc
told_not_false text t (Err fault) h e q = absurd cc

pub told_other : (text : List ℕ) (t : Plain) (told : Result Bool AllocError) → IfOk told (HasTold text t) → told ≡ Ok false → IsNotFalse t → marker_text t ≡ text → ⊥
told_other text t (Ok false) h e f s = texts_differ (marker_text t) text (h ∙ ap (λ b. not b && bytes_eq (marker_text t) text) (not_false_is t f)) s
told_other text t (Ok true) h e f s = absurd cc
told_other text t (Err fault) h e f s = absurd cc

-- what is read of a lock's marker
pub region_answer : (b : List ℕ) (read : Result Tree MarkerFault)
    → IfOk read (λ t. IsReduced (tree_view t)) → IfOk read (λ t. IsNotFalse (tree_view t)) → IfOk read (λ t. marker_text (tree_view t) ≡ b) → IfOk read (λ t. is_readable (tree_view t) ≡ true)
    → (read ≡ Err NoReading → (t : Plain) → IsReduced t → IsNotFalse t → is_readable t ≡ true → marker_text t ≡ b → ⊥)
    → IfOk (region_if_read read) (λ t. option_map tree_view t ≡ marker_of_text b)
region_answer b (Ok tree) h f s d n = go (is_region (tree_view tree)) refl
  where
    go : (m : Bool) → m ≡ is_region (tree_view tree) → option_map tree_view (if m then Some tree else None) ≡ marker_of_text b
    go true e = region_is b (tree_view tree) h e d s
    go false e = no_region b (tree_view tree) h f s (sym e)
region_answer b (Err NoReading) h f s d n = no_marker b (n refl)
region_answer b (Err NoMemory) h f s d n = tt

-- where memory is wanted for a tree that is printed
pub memory_fault : (t : Plain) (fault : TextFault) → is_printable t ≡ true → is_no_memory fault → IsTextFault t fault
memory_fault t (TooLong paths) h e = absurd e
memory_fault t NoMemoryForText h e = h
