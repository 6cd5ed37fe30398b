-- Nodes built of groups of paths.
use Rattle.std.proofs.Common.{◌≡◌, ℕ, ◌<◌, ◌≤◌, ◌+◌, ◌-◌, List, [], ◌∷◌, ◌++◌, take, drop, length, get_or, ap, sym, ◌∙◌, subst, arith, Some}
use Rattle.std.specs.Prelude.{Vec}
use Rattle.std.specs.declared.alloc.Global.{Global}
use Rattle.std.proofs.lemmas.List.{drop-drop, take_all, length-drop}
use Rattle.ul_tree.specs.Fans.{Fan, edge, tree_of, parts_of, node_of}
use Rattle.ul_tree.specs.PathLaws.{step_level}
use Rattle.ul_tree.specs.PathList as PathList
use Rattle.ul_nodes.specs.Plain.{Plain}
use Rattle.ul_marker_text.specs.NodeViews.{first_level}
use Rattle.ul_marker_text.specs.Nodes.{Part, Keeps, KeepParts, KeepFirst, front_count}
use Rattle.ul_marker_text.specs.StepViews.{paths_from, fan_from, step_view}
use Rattle.ul_marker_text.specs.declared.steps.Step.{Step}
use Rattle.ul_marker_text.proofs.NodeFacts.{node_kept, first_kept, keep_more, keep_all}
use Rattle.ul_marker_text.proofs.Grouped.{group_fan, group_ended, group_none}

-- the node of a fan's parts keeps the fan's tree
pub built : (fan more rest : Fan) (s : PathList.Step) (l b : List ℕ) (made : List Part) (t : Plain) → fan ≡ edge s more rest → l ≡ step_level s → KeepParts l (parts_of fan) made → Keeps b (node_of made) t → Keeps b (tree_of fan) t
built fan more rest s l b made t e f k h =
    let k1 : KeepParts l ((s, tree_of more) ∷ parts_of rest) made = subst (λ (z : Fan). KeepParts l (parts_of z) made) e k in
    let k2 : KeepParts (step_level s) ((s, tree_of more) ∷ parts_of rest) made = subst (λ (z : List ℕ). KeepParts z ((s, tree_of more) ∷ parts_of rest) made) f k1 in
    subst (λ (z : Fan). Keeps b (tree_of z) t) (sym e) (node_kept (s, tree_of more) (parts_of rest) made b t k2 h)

pub first_built : (fan more rest : Fan) (s : PathList.Step) (l : List ℕ) (made : List Part) → fan ≡ edge s more rest → l ≡ step_level s → KeepParts l (parts_of fan) made → first_level made ≡ Some l
first_built fan more rest s l made e f k =
    first_kept (s, tree_of more) (parts_of rest) made l (subst (λ (z : Fan). KeepParts l (parts_of z) made) e k) ∙ ap Some (sym f)

-- paths from a place on, as a slice
pub rest_slice : (paths : List (Vec Step Global)) (from : ℕ) → take (length paths - from) (drop from paths) ≡ drop from paths
rest_slice paths from = take_all (length paths - from) (drop from paths) (let e = length-drop from paths in omega (arith, e))

-- a group more
pub group_kept : (paths : List (Vec Step Global)) (from at n : ℕ) (d : Vec Step Global) (e : Step) (l : List ℕ) (given made : List Part) (q : Plain) → from < length paths → at < length (get_or paths from d).items
    → n ≡ front_count (step_view (get_or (get_or paths from d).items at e)) (paths_from at (drop from paths))
    → Keeps l (tree_of (fan_from (at + 1) (take n (drop from paths)))) q → KeepFirst l given made (parts_of (fan_from at (drop from paths)))
    → KeepFirst l given (made ++ (step_view (get_or (get_or paths from d).items at e), q) ∷ []) (parts_of (fan_from at (drop (from + n) paths)))
group_kept paths from at n d e l given made q h k c keeps first =
    let s = step_view (get_or (get_or paths from d).items at e) in
    let rows = drop from paths in
    let whole : fan_from at rows ≡ edge s (fan_from (at + 1) (take n rows)) (fan_from at (drop n rows)) =
    subst (λ (j : ℕ). fan_from at rows ≡ edge s (fan_from (at + 1) (take j rows)) (fan_from at (drop j rows))) (sym c) (group_fan paths from at d e h k) in
    subst (λ (z : List (Vec Step Global)). KeepFirst l given (made ++ (s, q) ∷ []) (parts_of (fan_from at z))) (drop-drop n from paths)
    (keep_more given made s (tree_of (fan_from (at + 1) (take n rows))) q (parts_of (fan_from at (drop n rows))) l (subst (λ (z : Fan). KeepFirst l given made (parts_of z)) whole first) keeps)

pub ended_kept : (paths : List (Vec Step Global)) (from at : ℕ) (d : Vec Step Global) (l : List ℕ) (given made : List Part) → from < length paths → length (get_or paths from d).items ≤ at
    → KeepFirst l given made (parts_of (fan_from at (drop from paths))) → KeepParts l given made
ended_kept paths from at d l given made h k first = keep_all given made _ l (ap parts_of (group_ended paths from at d h k)) first

pub none_kept : (paths : List (Vec Step Global)) (from at : ℕ) (l : List ℕ) (given made : List Part) → length paths ≤ from → KeepFirst l given made (parts_of (fan_from at (drop from paths))) → KeepParts l given made
none_kept paths from at l given made h first = keep_all given made _ l (ap parts_of (group_none paths from at h)) first
