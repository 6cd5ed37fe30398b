-- Comparisons and names of several lists, taken one after another.
use Rattle.std.proofs.Common.{◌≡◌, ◌+◌, ◌<◌, ℕ, List, [], ◌∷◌, ◌++◌, Option, Some, None, drop, flat_map, fold, get_or, length, map, refl, sym, ap, ◌∙◌}
use Rattle.std.specs.Prelude.{filter_map}
use Rattle.std.proofs.lemmas.Grind.{flat_map-append}
use Rattle.std.proofs.lemmas.List.{drop_more}
use Rattle.std.proofs.lemmas.List.Sums.{fold-append}
use Rattle.ul_comparison.specs.Formulas.{Formula}
use Rattle.ul_marker.specs.Parts.{atoms_of}
use Rattle.ul_requirement.specs.Truth.{atoms_in}
use Rattle.ul_project.specs.Lists.{Named}
use Rattle.ul_project.specs.Sources.{SourceFields}
use Rattle.ul_load.specs.Conditions.{conditions_of}
use Rattle.ul_load.specs.Views.{atoms_of_sources}

-- lists of lists, from a place on: the one at the place is taken first, and then those behind it. `part` is what is taken
-- of a list, part by part
pub fold_next : {X A B C : Type 0} (f : B → A → B) (part : List C → List A) (g : X → List C)
    → ((xs ys : List C) → part (xs ++ ys) ≡ part xs ++ part ys) → (xs : List X) (i : ℕ) (x : X) (now was : B)
    → i < length xs → x ≡ get_or xs i x → now ≡ fold f was (part (g x))
    → fold f now (part (flat_map g (drop (i + 1) xs))) ≡ fold f was (part (flat_map g (drop i xs)))
fold_next f part g parts xs i x now was lt at is =
    let next : drop i xs ≡ x ∷ drop (i + 1) xs = drop_more xs i x lt ∙ ap (λ y. y ∷ drop (i + 1) xs) (sym at) in
    let rest = flat_map g (drop (i + 1) xs) in
    ap (λ b. fold f b (part rest)) is
    ∙ sym (ap (λ l. fold f was (part (flat_map g l))) next ∙ ap (fold f was) (parts (g x) rest) ∙ fold-append f was (part (g x)) (part rest))

-- a list of lists by what their elements are mapped to
pub flat_of_map : {X Y A : Type 0} (g : Y → List A) (h : X → Y) (xs : List X) → flat_map g (map h xs) ≡ flat_map (λ x. g (h x)) xs
flat_of_map g h [] = refl
flat_of_map g h (x ∷ xs) = ap (λ l. g (h x) ++ l) (flat_of_map g h xs)

-- two lists, one after another
pub fold_then : {A B : Type 0} (f : B → A → B) (before middle after : B) (xs ys : List A)
    → middle ≡ fold f before xs → after ≡ fold f middle ys → after ≡ fold f before (xs ++ ys)
fold_then f before middle after xs ys first next = next ∙ ap (λ v. fold f v ys) first ∙ sym (fold-append f before xs ys)

-- the conditions of sources
abbrev conditions_in : List SourceFields → List Formula
conditions_in = filter_map (λ s. s.condition)

condition_atoms : (s : SourceFields) (ss : List SourceFields) (o : Option Formula) → s.condition ≡ o
    → flat_map atoms_of (conditions_in (s ∷ ss)) ≡ atoms_in s.condition ++ flat_map atoms_of (conditions_in ss)
condition_atoms s ss None e = rw e refl
condition_atoms s ss (Some m) e = rw e refl

name_atoms : (ss : List SourceFields) → flat_map atoms_of (conditions_in ss) ≡ atoms_of_sources ss
name_atoms [] = refl
name_atoms (s ∷ ss) = condition_atoms s ss s.condition refl ∙ ap (λ l. atoms_in s.condition ++ l) (name_atoms ss)

-- the comparisons of conditions, source by source
pub source_atoms : (ns : List (Named (List SourceFields))) → flat_map atoms_of (conditions_of ns) ≡ flat_map (λ named. atoms_of_sources named.1) ns
source_atoms [] = refl
source_atoms (n ∷ ns) =
    flat_map-append atoms_of (conditions_in n.1) (conditions_of ns)
    ∙ ap (λ l. l ++ flat_map atoms_of (conditions_of ns)) (name_atoms n.1) ∙ ap (λ l. atoms_of_sources n.1 ++ l) (source_atoms ns)
