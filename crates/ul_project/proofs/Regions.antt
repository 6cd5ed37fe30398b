-- The truths of environments and of the region.
use Rattle.std.proofs.Common.{◌≡◌, ◌&&◌, ◌||◌, ◌==◌, ◌∙◌, ℕ, List, [], ◌∷◌, map, length, Bool, true, false, true≢false, refl, ap, ap₂, sym, subst, ◌++◌, ◌+◌, ◌<◌, ◌≤◌, drop, get_or, append_assoc, append-nil}
use Rattle.std.proofs.lemmas.List.{drop_all, drop_more, map-append}
use Rattle.ul_comparison.specs.Formulas.{AreFormulas, IsFormula}
use Rattle.ul_marker.specs.Views.{markers_view}
use Rattle.ul_tree.specs.Joining.{truths_of}
use Rattle.std.specs.List.{list_any}
use Rattle.ul_marker.specs.Views.{marker_view}
use Rattle.ul_comparison.specs.Worlds.{WorldFields, IsWorld}
use Rattle.ul_marker.specs.declared.marker.Marker.{Marker}
use Rattle.ul_specifier.specs.Clauses.{ClauseFields}
use Rattle.ul_nodes.specs.Apply.{both}
use Rattle.ul_nodes.specs.Reduced.{IsReduced}
use Rattle.ul_tree.specs.Regions.{HasTruth}
use Rattle.ul_tree.specs.Values.{tree_holds}
use Rattle.ul_tree.specs.Views.{tree_view}
use Rattle.ul_tree.specs.declared.tree.Tree.{Tree}
use Rattle.ul_project.proofs.Values.{not_empty}
use Rattle.ul_project.specs.Region.{holds_bare, in_environments, meets_python, some_holds, is_supported}

-- some of the truths of environments
pub any_holds : (ms : List Marker) (w : WorldFields) → list_any (λ b. b) (map (λ m. holds_bare w (marker_view m)) ms) ≡ some_holds (map marker_view ms) w
any_holds [] w = refl
any_holds (m ∷ ms) w = ap (λ b. holds_bare w (marker_view m) || b) (any_holds ms w)

and_true : (b : Bool) → b ≡ (b && true)
and_true true = refl
and_true false = refl

both_and : (a b : Bool) → both a b ≡ (a && b)
both_and true b = refl
both_and false b = refl

is_nothing : (ms : List Marker) → (length ms == 0) ≡ true → (w : WorldFields) → in_environments (map marker_view ms) w ≡ true
is_nothing [] e w = refl
is_nothing (m ∷ ms) e w = absurd (true≢false (sym e ∙ not_empty (length ms)))

is_some : (ms : List Marker) → (length ms == 0) ≡ false → (w : WorldFields) → in_environments (map marker_view ms) w ≡ some_holds (map marker_view ms) w
is_some [] e w = cc
is_some (m ∷ ms) e w = refl

-- without environments the region is that of the interpreters
pub region_of_python : (python : List ClauseFields) (ms : List Marker) (t : Tree) → (length ms == 0) ≡ true → IsReduced (tree_view t)
    → ((w : WorldFields) (x : List ℕ) → IsWorld w → tree_holds (tree_view t) w x ≡ meets_python python w) → HasTruth (tree_view t) (is_supported python (map marker_view ms))
region_of_python python ms t e reduced truth = record {
  reduced = reduced;
  truth = λ w x is. truth w x is ∙ and_true (meets_python python w) ∙ ap (λ b. meets_python python w && b) (sym (is_nothing ms e w));
}

-- with environments it is the region of the interpreters where some environment holds
pub region_of_both : (python : List ClauseFields) (ms : List Marker) (a b t : Tree) → (length ms == 0) ≡ false → IsReduced (tree_view t)
    → ((w : WorldFields) (x : List ℕ) → IsWorld w → tree_holds (tree_view a) w x ≡ meets_python python w)
    → ((w : WorldFields) (x : List ℕ) → IsWorld w → tree_holds (tree_view b) w x ≡ some_holds (map marker_view ms) w)
    → ((w : WorldFields) (x : List ℕ) → tree_holds (tree_view t) w x ≡ both (tree_holds (tree_view a) w x) (tree_holds (tree_view b) w x))
    → HasTruth (tree_view t) (is_supported python (map marker_view ms))
region_of_both python ms a b t e reduced f g h = record {
  reduced = reduced;
  truth = λ w x is. h w x ∙ ap₂ both (f w x is) (g w x is) ∙ both_and (meets_python python w) (some_holds (map marker_view ms) w)
      ∙ ap (λ z. meets_python python w && z) (sym (is_some ms e w));
}

-- ---- trees of environments, one after another

-- the truth of an environment
abbrev pub bare_truth : WorldFields → Marker → Bool
bare_truth w m = holds_bare w (marker_view m)

-- the environments behind one that was taken
pub left_next : (ms : List Marker) (i : ℕ) (m : Marker) → i < length ms → AreFormulas (markers_view (drop i ms)) → AreFormulas (markers_view (drop (i + 1) ms))
left_next ms i m lt h = let f = subst (λ l. AreFormulas (markers_view l)) (drop_more ms i m lt) h in f.1

-- the first of the environments that are left
pub left_here : (ms : List Marker) (i : ℕ) (m : Marker) → i < length ms → m ≡ get_or ms i m → AreFormulas (markers_view (drop i ms)) → IsFormula (marker_view m)
left_here ms i m lt at h =
    let f = subst (λ l. AreFormulas (markers_view l)) (drop_more ms i m lt) h in subst (λ k. IsFormula (marker_view k)) (sym at) f.0

-- no trees before all environments
pub truths_start : (ms : List Marker) (ts : List Tree) (w : WorldFields) (x : List ℕ) → ts ≡ [] → truths_of ts w x ++ map (bare_truth w) ms ≡ map (bare_truth w) ms
truths_start ms ts w x e = ap (λ l. truths_of l w x ++ map (bare_truth w) ms) e

-- the trees, where no environment is left
pub truths_end : (ms : List Marker) (i : ℕ) (ts : List Tree) (w : WorldFields) (x : List ℕ) → length ms ≤ i
    → truths_of ts w x ++ map (bare_truth w) (drop i ms) ≡ map (bare_truth w) ms → truths_of ts w x ≡ map (bare_truth w) ms
truths_end ms i ts w x le before =
    sym (append-nil (truths_of ts w x)) ∙ ap (λ l. truths_of ts w x ++ map (bare_truth w) l) (sym (drop_all i ms le)) ∙ before

-- the trees, and one more, before the environments that are left
pub truths_next : (ms : List Marker) (i : ℕ) (m : Marker) (ts after : List Tree) (t : Tree) (w : WorldFields) (x : List ℕ) → i < length ms → m ≡ get_or ms i m → after ≡ ts ++ t ∷ []
    → tree_holds (tree_view t) w x ≡ bare_truth w m → truths_of ts w x ++ map (bare_truth w) (drop i ms) ≡ map (bare_truth w) ms
    → truths_of after w x ++ map (bare_truth w) (drop (i + 1) ms) ≡ map (bare_truth w) ms
truths_next ms i m ts after t w x lt at e here before =
    let rest = map (bare_truth w) (drop (i + 1) ms) in
    ap (λ l. truths_of l w x ++ rest) e
    ∙ ap (λ l. l ++ rest) (map-append (λ u. tree_holds (tree_view u) w x) ts (t ∷ []))
    ∙ append_assoc (truths_of ts w x) (tree_holds (tree_view t) w x ∷ []) rest
    ∙ ap (λ b. truths_of ts w x ++ b ∷ rest) (here ∙ ap (bare_truth w) at)
    ∙ sym (ap (λ l. truths_of ts w x ++ map (bare_truth w) l) (drop_more ms i m lt))
    ∙ before
