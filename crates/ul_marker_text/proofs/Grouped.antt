-- Paths with one first step, one after the other, are one branch of the paths by their first steps.
use Rattle.std.proofs.Common.{◌≡◌, ℕ, zero, suc, ◌<◌, ◌≤◌, ◌+◌, List, [], ◌∷◌, map, take, drop, length, get_or, Bool, true, false, eqb, refl, ap, sym, ◌∙◌, subst, arith, add-one, if◌then◌else◌}
use Rattle.std.specs.Prelude.{Vec}
use Rattle.std.specs.Str.{bytes_eq}
use Rattle.std.specs.declared.alloc.Global.{Global}
use Rattle.std.proofs.lemmas.Bool.{eqb-true}
use Rattle.std.proofs.lemmas.List.{drop_more, drop_all, length-map}
use Rattle.std.proofs.lemmas.Slice.Eq.{bytes_eq-Decides}
use Rattle.ul_tree.specs.Fans.{Fan, stop, end, edge, same_step, same_keys, put_path, fan_of}
use Rattle.ul_tree.specs.PathList as PathList
use Rattle.ul_tree.specs.PathList.{interval, point, others}
use Rattle.ul_tree.proofs.ForCallers.{step_self}
use Rattle.ul_marker_text.specs.Nodes.{starts, front_count}
use Rattle.ul_marker_text.specs.StepViews.{path_from, path_view, paths_from, fan_from, step_view}
use Rattle.ul_marker_text.specs.declared.steps.Step.{Step}

-- ---- equal steps

bytes_same : (a b : List ℕ) → bytes_eq a b ≡ true → a ≡ b
bytes_same a b h = (bytes_eq-Decides a b).0 h

keys_same : (ks js : List (List ℕ)) → same_keys ks js ≡ true → ks ≡ js
keys_same [] [] h = refl
keys_same [] (j ∷ js) h = absurd cc
keys_same (k ∷ ks) [] h = absurd cc
keys_same (k ∷ ks) (j ∷ js) h = go (bytes_eq k j) refl (keys_same ks js) h
  where
    go : (b : Bool) → bytes_eq k j ≡ b → (same_keys ks js ≡ true → ks ≡ js) → (if b then same_keys ks js else false) ≡ true → k ∷ ks ≡ j ∷ js
    go true e rest h = ap (λ z. z ∷ ks) (bytes_same k j e) ∙ ap (λ z. j ∷ z) (rest h)
    go false e rest h = absurd cc

step_same : (s t : PathList.Step) → same_step s t ≡ true → s ≡ t
step_same (interval a b) (interval c d) h = go (eqb a c) refl h
  where
    go : (x : Bool) → eqb a c ≡ x → (if x then eqb b d else false) ≡ true → interval a b ≡ interval c d
    go true e h = ap (λ z. interval z b) (eqb-true a c e) ∙ ap (interval c) (eqb-true b d h)
    go false e h = absurd cc
step_same (interval a b) (point m j) h = absurd cc
step_same (interval a b) (others m js) h = absurd cc
step_same (point l k) (interval c d) h = absurd cc
step_same (point l k) (point m j) h = go (bytes_eq l m) refl h
  where
    go : (x : Bool) → bytes_eq l m ≡ x → (if x then bytes_eq k j else false) ≡ true → point l k ≡ point m j
    go true e h = ap (λ z. point z k) (bytes_same l m e) ∙ ap (point m) (bytes_same k j h)
    go false e h = absurd cc
step_same (point l k) (others m js) h = absurd cc
step_same (others l ks) (interval c d) h = absurd cc
step_same (others l ks) (point m j) h = absurd cc
step_same (others l ks) (others m js) h = go (bytes_eq l m) refl h
  where
    go : (x : Bool) → bytes_eq l m ≡ x → (if x then same_keys ks js else false) ≡ true → others l ks ≡ others m js
    go true e h = ap (λ z. others z ks) (bytes_same l m e) ∙ ap (others m) (keys_same ks js h)
    go false e h = absurd cc

-- ---- the paths in front

tail_of : List PathList.Step → List PathList.Step
tail_of [] = []
tail_of (s ∷ path) = path

-- what the paths in front that begin with a step go on with, and the other paths
front_tails : PathList.Step → List (List PathList.Step) → List (List PathList.Step)
front_tails s [] = []
front_tails s (p ∷ paths) = if starts s p then tail_of p ∷ front_tails s paths else []

after_front : PathList.Step → List (List PathList.Step) → List (List PathList.Step)
after_front s [] = []
after_front s (p ∷ paths) = if starts s p then after_front s paths else p ∷ paths

fan_front : (s : PathList.Step) (p : List PathList.Step) (qs : List (List PathList.Step)) → fan_of ((s ∷ p) ∷ qs) ≡ edge s (fan_of (p ∷ front_tails s qs)) (fan_of (after_front s qs))
unfolding front_tails after_front tail_of
fan_front s p [] = refl
fan_front s p ([] ∷ qs) = refl
fan_front s p ((t ∷ q) ∷ qs) =
    ap (put_path (s ∷ p)) (fan_front t q qs) ∙ go (same_step s t) refl (fan_front t q qs)
  where
    F : Fan
    F = fan_of (q ∷ front_tails t qs)

    R : Fan
    R = fan_of (after_front t qs)

    go : (b : Bool) → same_step s t ≡ b → fan_of ((t ∷ q) ∷ qs) ≡ edge t F R → (if b then edge s (put_path p F) R else edge s (put_path p stop) (edge t F R))
        ≡ edge s (fan_of (p ∷ (if b then q ∷ front_tails s qs else []))) (fan_of (if b then after_front s qs else (t ∷ q) ∷ qs))
    go true e whole = let h = step_same s t e in ap (λ z. edge s (put_path p (fan_of (q ∷ front_tails z qs))) (fan_of (after_front z qs))) (sym h)
    go false e whole = ap (edge s (put_path p stop)) (sym whole)

tail_drop : (at : ℕ) (xs : List PathList.Step) → tail_of (drop at xs) ≡ drop (suc at) xs
unfolding tail_of
tail_drop zero [] = refl
tail_drop zero (x ∷ xs) = refl
tail_drop (suc at) [] = refl
tail_drop (suc at) (x ∷ xs) = tail_drop at xs

tails_are : (s : PathList.Step) (at : ℕ) (rows : List (Vec Step Global)) → front_tails s (paths_from at rows) ≡ paths_from (suc at) (take (front_count s (paths_from at rows)) rows)
unfolding front_tails
tails_are s at [] = refl
tails_are s at (r ∷ rows) = go (starts s (path_from at r)) (tails_are s at rows)
  where
    go : (b : Bool) → front_tails s (paths_from at rows) ≡ paths_from (suc at) (take (front_count s (paths_from at rows)) rows) → (if b then tail_of (path_from at r) ∷ front_tails s (paths_from at rows) else []) ≡ paths_from (suc at) (take (if b then suc (front_count s (paths_from at rows)) else 0) (r ∷ rows))
    go true more = ap (λ z. z ∷ front_tails s (paths_from at rows)) (tail_drop at (path_view r)) ∙ ap (λ z. path_from (suc at) r ∷ z) more
    go false more = refl

after_are : (s : PathList.Step) (at : ℕ) (rows : List (Vec Step Global)) → after_front s (paths_from at rows) ≡ paths_from at (drop (front_count s (paths_from at rows)) rows)
unfolding after_front
after_are s at [] = refl
after_are s at (r ∷ rows) = go (starts s (path_from at r)) (after_are s at rows)
  where
    go : (b : Bool) → after_front s (paths_from at rows) ≡ paths_from at (drop (front_count s (paths_from at rows)) rows) → (if b then after_front s (paths_from at rows) else path_from at r ∷ paths_from at rows) ≡ paths_from at (drop (if b then suc (front_count s (paths_from at rows)) else 0) (r ∷ rows))
    go true more = more
    go false more = refl

-- paths whose first has a step are a branch and the paths after the group
pub fan_grouped : (r : Vec Step Global) (rows : List (Vec Step Global)) (at : ℕ) (s : PathList.Step) (p : List PathList.Step) → path_from at r ≡ s ∷ p
    → let n = front_count s (paths_from at (r ∷ rows)) in fan_from at (r ∷ rows) ≡ edge s (fan_from (suc at) (take n (r ∷ rows))) (fan_from at (drop n (r ∷ rows)))
unfolding tail_of
fan_grouped r rows at s p e =
    let m = front_count s (paths_from at rows) in
    let whole : fan_from at (r ∷ rows) ≡ edge s (fan_of (p ∷ front_tails s (paths_from at rows))) (fan_of (after_front s (paths_from at rows))) =
    ap (λ z. fan_of (z ∷ paths_from at rows)) e ∙ fan_front s p (paths_from at rows) in
    let first : starts s (path_from at r) ≡ true = ap (starts s) e ∙ step_self s in
    let rest : p ≡ path_from (suc at) r = sym (ap tail_of e) ∙ tail_drop at (path_view r) in
    let target : ℕ → Fan = λ k. edge s (fan_from (suc at) (take k (r ∷ rows))) (fan_from at (drop k (r ∷ rows))) in
    whole
    ∙ ap (λ z. edge s (fan_of (z ∷ front_tails s (paths_from at rows))) (fan_of (after_front s (paths_from at rows)))) rest
    ∙ ap (λ z. edge s (fan_of (path_from (suc at) r ∷ z)) (fan_of (after_front s (paths_from at rows)))) (tails_are s at rows)
    ∙ ap (λ z. edge s (fan_of (path_from (suc at) r ∷ paths_from (suc at) (take m rows))) (fan_of z)) (after_are s at rows)
    ∙ ap (λ b. target (if b then suc m else 0)) (sym first)

-- ---- what a fan of paths is

pub fan_ended : (r : Vec Step Global) (rows : List (Vec Step Global)) (at : ℕ) → path_from at r ≡ [] → fan_from at (r ∷ rows) ≡ end
fan_ended r rows at e = ap (λ z. fan_of (z ∷ paths_from at rows)) e

-- ---- paths counted in front

pub count_more : (paths : List (Vec Step Global)) (i at : ℕ) (d : Vec Step Global) (s : PathList.Step) → i < length paths → starts s (path_from at (get_or paths i d)) ≡ true
    → front_count s (paths_from at (drop i paths)) ≡ suc (front_count s (paths_from at (drop (i + 1) paths)))
count_more paths i at d s h e =
    ap (λ z. front_count s (paths_from at z)) (drop_more paths i d h) ∙ ap (λ b. if b then suc (front_count s (paths_from at (drop (i + 1) paths))) else 0) e

pub count_stop : (paths : List (Vec Step Global)) (i at : ℕ) (d : Vec Step Global) (s : PathList.Step) → i < length paths → starts s (path_from at (get_or paths i d)) ≡ false → front_count s (paths_from at (drop i paths)) ≡ 0
count_stop paths i at d s h e =
    ap (λ z. front_count s (paths_from at z)) (drop_more paths i d h) ∙ ap (λ b. if b then suc (front_count s (paths_from at (drop (i + 1) paths))) else 0) e

pub count_end : (paths : List (Vec Step Global)) (i at : ℕ) (s : PathList.Step) → length paths ≤ i → front_count s (paths_from at (drop i paths)) ≡ 0
count_end paths i at s h = ap (λ z. front_count s (paths_from at z)) (drop_all i paths h)

drop_mapped : (xs : List Step) (i : ℕ) (d : Step) → i < length xs → drop i (map step_view xs) ≡ step_view (get_or xs i d) ∷ drop (i + 1) (map step_view xs)
drop_mapped [] i d h = absurd (omega arith)
drop_mapped (x ∷ xs) zero d h = refl
drop_mapped (x ∷ xs) (suc i) d h =
    drop_mapped xs i d (omega arith) ∙ ap (λ k. step_view (get_or xs i d) ∷ drop k (x_map ∷ map step_view xs)) shift
  where
    x_map : PathList.Step
    x_map = step_view x

    shift : suc (i + 1) ≡ suc i + 1
    shift = omega arith

-- a path from one of its steps on
pub path_at : (path : Vec Step Global) (at : ℕ) (d : Step) → at < length path.items → path_from at path ≡ step_view (get_or path.items at d) ∷ path_from (at + 1) path
path_at path at d h = drop_mapped path.items at d h

pub path_ended : (path : Vec Step Global) (at : ℕ) → length path.items ≤ at → path_from at path ≡ []
path_ended path at h = drop_all at (map step_view path.items) (subst (λ (n : ℕ). n ≤ at) (sym (length-map path.items step_view)) h)

-- ---- a group of paths, and those after it

pub group_fan : (paths : List (Vec Step Global)) (from at : ℕ) (d : Vec Step Global) (e : Step) → from < length paths → at < length (get_or paths from d).items
    → let s = step_view (get_or (get_or paths from d).items at e) in
    let n = front_count s (paths_from at (drop from paths)) in
    fan_from at (drop from paths) ≡ edge s (fan_from (at + 1) (take n (drop from paths))) (fan_from at (drop n (drop from paths)))
group_fan paths from at d e h k =
    let r = get_or paths from d in
    let rows = drop (from + 1) paths in
    let s = step_view (get_or r.items at e) in
    let cut = drop_more paths from d h in
    let target : ℕ → List (Vec Step Global) → Type 0 = λ j z. fan_from at z ≡ edge s (fan_from j (take (front_count s (paths_from at z)) z)) (fan_from at (drop (front_count s (paths_from at z)) z)) in
    subst (λ (z : List (Vec Step Global)). target (at + 1) z) (sym cut)
    (subst (λ (j : ℕ). target j (r ∷ rows)) (sym (add-one at)) (fan_grouped r rows at s (path_from (at + 1) r) (path_at r at e k)))

pub group_some : (paths : List (Vec Step Global)) (from at : ℕ) (d : Vec Step Global) (e : Step) → from < length paths → at < length (get_or paths from d).items
    → 0 < front_count (step_view (get_or (get_or paths from d).items at e)) (paths_from at (drop from paths))
group_some paths from at d e h k =
    let r = get_or paths from d in
    let s = step_view (get_or r.items at e) in
    let first : starts s (path_from at r) ≡ true = ap (starts s) (path_at r at e k) ∙ step_self s in
    let more = count_more paths from at d s h first in
    omega (arith, more)

pub group_ended : (paths : List (Vec Step Global)) (from at : ℕ) (d : Vec Step Global) → from < length paths → length (get_or paths from d).items ≤ at → fan_from at (drop from paths) ≡ end
group_ended paths from at d h k =
    ap (fan_from at) (drop_more paths from d h) ∙ fan_ended (get_or paths from d) (drop (from + 1) paths) at (path_ended (get_or paths from d) at k)

pub group_none : (paths : List (Vec Step Global)) (from at : ℕ) → length paths ≤ from → fan_from at (drop from paths) ≡ stop
group_none paths from at h = ap (fan_from at) (drop_all from paths h)
