-- The path of a tree's sample is the first of its paths to true.
use Rattle.std.proofs.Common.{◌≡◌, ◌^◌, ℕ, zero, suc, List, [], ◌∷◌, ◌++◌, length, ◌+◌, ◌||◌, Bool, true, false, Option, Some, None, refl, ap, sym, ◌∙◌, subst, if◌then◌else◌}
use Rattle.std.specs.Str.{bytes_eq}
use Rattle.ul_nodes.specs.Apply.{keys}
use Rattle.ul_nodes.specs.Levels.{python_level}
use Rattle.ul_tree.specs.PathLaws.{blank_branches, step_level, step_value, first_of_paths, SampleIsFirst}
use Rattle.ul_tree.specs.PathList.{Step, interval, point, others, start_of, longer_paths, paths_to_true, paths_from, paths_at}
use Rattle.ul_nodes.specs.Plain.{Plain, truth, node, Branches, done, branch, carries, carried_part}
use Rattle.ul_nodes.specs.Reduced.{Fits, FitsAll}
use Rattle.ul_tree.specs.Sample as sampled
use Rattle.ul_tree.specs.Sample.{has_key, key_lengths, fresh_from, fresh, beside, or_else, longer_path, first_path, first_in}
use Rattle.ul_tree.proofs.FanTrees.{is_python}

-- ---- the value beside some keys

has_blank : (bs : Branches) (text : List ℕ) → has_key bs text ≡ has_key (blank_branches (keys bs)) text
has_blank done text = refl
has_blank (branch k c rest) text = ap (λ b. bytes_eq k text || b) (has_blank rest text)

lengths_blank : (bs : Branches) → key_lengths bs ≡ key_lengths (blank_branches (keys bs))
lengths_blank done = refl
lengths_blank (branch k c rest) = ap (λ n. length k + n) (lengths_blank rest)

from_blank : (n : ℕ) (bs : Branches) (text : List ℕ) → fresh_from n bs text ≡ fresh_from n (blank_branches (keys bs)) text
from_blank zero bs text = refl
from_blank (suc n) bs text =
    ap (λ b. if b then fresh_from n bs (text ++ 120 ∷ []) else text) (has_blank bs text)
    ∙ ap (λ z. if has_key (blank_branches (keys bs)) text then z else text) (from_blank n bs (text ++ 120 ∷ []))

fresh_blank : (bs : Branches) → fresh bs ≡ fresh (blank_branches (keys bs))
fresh_blank bs = from_blank (suc (key_lengths bs)) bs [] ∙ ap (λ n. fresh_from (suc n) (blank_branches (keys bs)) []) (lengths_blank bs)

beside_blank : (l : List ℕ) (bs : Branches) → beside l bs ≡ beside l (blank_branches (keys bs))
beside_blank [] bs = fresh_blank bs
beside_blank (a ∷ []) bs = fresh_blank bs
beside_blank (a ∷ b ∷ rest) bs = refl

-- ---- the first of paths

first_led : (s : Step) (ps : List (List Step)) → first_of_paths (longer_paths s ps) ≡ longer_path (step_level s) (step_value s) (first_of_paths ps)
first_led s [] = refl
first_led s (p ∷ ps) = refl

first_append : (ps qs : List (List Step)) → first_of_paths (ps ++ qs) ≡ or_else (first_of_paths ps) (first_of_paths qs)
first_append [] qs = refl
first_append (p ∷ ps) qs = refl

or_none : (p : Option (List sampled.Step)) → or_else p None ≡ p
or_none None = refl
or_none (Some p) = refl

-- what is found through the parts of branches
abbrev FirstIs : Plain → Type 0
FirstIs t = first_path t ≡ first_of_paths (paths_to_true t)

abbrev FirstsAre : Branches → Type 0
FirstsAre done = Unit {0}
FirstsAre (branch k c rest) = FirstIs c × FirstsAre rest

from_first : (bs : Branches) (d : Plain) (start : ℕ) (ps : List (List Step)) → FitsAll bs python_level d → FirstsAre bs
    → or_else (longer_path python_level (start ∷ []) (first_of_paths ps)) (first_in python_level bs) ≡ first_of_paths (paths_from start ps bs)
from_first done d start ps h es = or_none (longer_path python_level (start ∷ []) (first_of_paths ps)) ∙ sym (first_led (interval start (2 ^ 96)) ps)
from_first (branch k c rest) d start ps h es =
    let x = start_of k in
    let key : k ≡ x ∷ [] = h.0.1 ∙ ap (λ n. n ∷ []) (sym (ap start_of h.0.1)) in
    ap (or_else (longer_path python_level (start ∷ []) (first_of_paths ps)))
    (ap (λ z. or_else (longer_path python_level z (first_path c)) (first_in python_level rest)) key
    ∙ ap (λ z. or_else (longer_path python_level (x ∷ []) z) (first_in python_level rest)) es.0
    ∙ from_first rest c x (paths_to_true c) h.4 es.1)
    ∙ ap (λ z. or_else z (first_of_paths (paths_from x (paths_to_true c) rest))) (sym (first_led (interval start x) ps))
    ∙ sym (first_append (longer_paths (interval start x) ps) (paths_from x (paths_to_true c) rest))

at_first : (bs : Branches) (l : List ℕ) → FirstsAre bs → first_in l bs ≡ first_of_paths (paths_at l bs)
at_first done l es = refl
at_first (branch k c rest) l es =
    ap (λ z. or_else (longer_path l k z) (first_in l rest)) es.0
    ∙ ap (or_else (longer_path l k (first_of_paths (paths_to_true c)))) (at_first rest l es.1)
    ∙ ap (λ z. or_else z (first_of_paths (paths_at l rest))) (sym (first_led (point l k) (paths_to_true c)))
    ∙ sym (first_append (longer_paths (point l k) (paths_to_true c)) (paths_at l rest))

node_first : (l : List ℕ) (d : Plain) (bs : Branches) → FitsAll bs l d → FirstIs d → FirstsAre bs → FirstIs (node l d bs)
node_first l d bs h e es = go (carries l) refl
  where
    go : (m : Bool) → carries l ≡ m
        → (if m then or_else (longer_path l (0 ∷ []) (first_path d)) (first_in l bs) else or_else (first_in l bs) (longer_path l (beside l bs) (first_path d)))
        ≡ first_of_paths (if m then paths_from 0 (paths_to_true d) bs else paths_at l bs ++ longer_paths (others l (keys bs)) (paths_to_true d))
    go true q =
        let p = is_python l q in
        ap (λ z. or_else (longer_path z (0 ∷ []) (first_path d)) (first_in z bs)) p
        ∙ ap (λ z. or_else (longer_path python_level (0 ∷ []) z) (first_in python_level bs)) e
        ∙ from_first bs d 0 (paths_to_true d) (subst (λ (z : List ℕ). FitsAll bs z d) p h) es
    go false q =
        ap (λ z. or_else z (longer_path l (beside l bs) (first_path d))) (at_first bs l es)
        ∙ ap (λ z. or_else (first_of_paths (paths_at l bs)) (longer_path l z (first_path d))) (beside_blank l bs)
        ∙ ap (λ z. or_else (first_of_paths (paths_at l bs)) (longer_path l (step_value (others l (keys bs))) z)) e
        ∙ ap (or_else (first_of_paths (paths_at l bs))) (sym (first_led (others l (keys bs)) (paths_to_true d)))
        ∙ sym (first_append (paths_at l bs) (longer_paths (others l (keys bs)) (paths_to_true d)))

mutual
  pub first_is : (t : Plain) (e : List ℕ) → Fits t e → FirstIs t
  first_is (truth true) e h = refl
  first_is (truth false) e h = refl
  first_is (node l d bs) e h = node_first l d bs h.3 (first_is d l h.2) (firsts_are bs l d h.3)

  firsts_are : (bs : Branches) (l : List ℕ) (d : Plain) → FitsAll bs l d → FirstsAre bs
  firsts_are done l d h = tt
  firsts_are (branch k c rest) l d h = (first_is c l h.2, firsts_are rest l (carried_part (carries l) c d) h.4)

pub sample_is_first : SampleIsFirst
sample_is_first t h = first_is t [] h
