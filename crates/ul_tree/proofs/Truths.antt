-- A tree is true where all comparisons of one of its paths hold.
use Rattle.std.proofs.Common.{◌≡◌, ℕ, zero, suc, ◌<◌, ◌^◌, List, [], ◌∷◌, ◌++◌, map, Bool, true, false, not, ◌||◌, ◌&&◌, eqb, refl, ap, sym, ◌∙◌, subst, arith, Less, Equal, Greater, Ordering, Some, if◌then◌else◌}
use Rattle.std.specs.List.{list_all}
use Rattle.std.specs.Str.{bytes_eq}
use Rattle.std.specs.Ordering.{is_eq, ordering_then}
use Rattle.std.proofs.lemmas.List.Folds.{list_all-append, list_any-append}
use Rattle.std.proofs.lemmas.Map.Text.{is_eq-slice_cmp}
use Rattle.ul_nodes.specs.Apply.{keys}
use Rattle.ul_nodes.specs.Levels.{python_level}
use Rattle.ul_nodes.specs.Plain.{Plain, truth, node, Branches, done, branch, text_cmp, by_order, carries, carried_part, holds_of, holds_in}
use Rattle.ul_nodes.specs.Reduced.{Fits, FitsAll, StartsAfter}
use Rattle.ul_tree.specs.Values.{value_of}
use Rattle.ul_nodes.proofs.ForCallers.{cmp_trans, cmp_equal, cmp_less}
use Rattle.ul_tree.specs.PathList.{Step, interval, point, others, start_of, longer_paths, paths_to_true, paths_from, paths_at}
use Rattle.ul_tree.specs.Comparisons.{at_least, below, differs, lower, upper, comparisons_of, path_comparisons}
use Rattle.ul_tree.specs.PathTruth.{is_before, comparison_holds, path_holds, some_path_holds}
use Rattle.ul_tree.specs.PathLaws.{PathsTellTruth}
use Rattle.ul_tree.proofs.Tools.{eqb_less, eqb_positive}
use Rattle.ul_tree.proofs.FanTrees.{Rising, Increasing, is_python, rising_fits, first_positive, increasing_fits, starts_after}

-- the comparisons of a step hold
abbrev step_holds : (List ℕ → List ℕ) → Step → Bool
step_holds f s = list_all (comparison_holds f) (comparisons_of s)

both_or : (a x y : Bool) → ((a && x) || (a && y)) ≡ (a && (x || y))
both_or true x y = refl
both_or false x y = refl

and_false : (a : Bool) → (a && false) ≡ false
and_false true = refl
and_false false = refl

and_true : (a : Bool) → (a && true) ≡ a
and_true true = refl
and_true false = refl

or_false : (a : Bool) → (a || false) ≡ a
or_false true = refl
or_false false = refl

some_led : (f : List ℕ → List ℕ) (s : Step) (ps : List (List Step)) → some_path_holds f (longer_paths s ps) ≡ (step_holds f s && some_path_holds f ps)
some_led f s [] = sym (and_false (step_holds f s))
some_led f s (p ∷ ps) =
    ap (λ b. b || some_path_holds f (longer_paths s ps)) (list_all-append (comparison_holds f) (comparisons_of s) (path_comparisons p))
    ∙ ap (λ b. (step_holds f s && path_holds f p) || b) (some_led f s ps)
    ∙ both_or (step_holds f s) (path_holds f p) (some_path_holds f ps)

some_both : (f : List ℕ → List ℕ) (ps qs : List (List Step)) → some_path_holds f (ps ++ qs) ≡ (some_path_holds f ps || some_path_holds f qs)
some_both f ps qs = list_any-append (path_holds f) ps qs

-- the truth of a tree is that of its paths
abbrev Told : (List ℕ → List ℕ) → Plain → Type 0
Told f t = holds_of t f ≡ some_path_holds f (paths_to_true t)

abbrev AllTold : (List ℕ → List ℕ) → Branches → Type 0
AllTold f done = Unit {0}
AllTold f (branch k c rest) = Told f c × AllTold f rest

-- ---- points

point_holds : (f : List ℕ → List ℕ) (l k : List ℕ) (ps : List (List Step)) → some_path_holds f (longer_paths (point l k) ps) ≡ (is_eq (text_cmp (f l) k) && some_path_holds f ps)
point_holds f l k ps = some_led f (point l k) ps ∙ ap (λ b. b && some_path_holds f ps) (and_true (bytes_eq (f l) k) ∙ sym (is_eq-slice_cmp (f l) k))

-- none of the keys
abbrev none_of : (List ℕ → List ℕ) → List ℕ → List (List ℕ) → Bool
none_of f l ks = list_all (comparison_holds f) (map (differs l) ks)

none_more : (f : List ℕ → List ℕ) (l k : List ℕ) (ks : List (List ℕ)) → none_of f l (k ∷ ks) ≡ (not (is_eq (text_cmp (f l) k)) && none_of f l ks)
none_more f l k ks = ap (λ b. not b && none_of f l ks) (sym (is_eq-slice_cmp (f l) k))

absent : (f : List ℕ → List ℕ) (l : List ℕ) (bs : Branches) → Increasing bs → StartsAfter (Some (f l)) bs → (some_path_holds f (paths_at l bs) ≡ false) × (none_of f l (keys bs) ≡ true)
absent f l done h a = (refl, refl)
absent f l (branch k c rest) h a =
    let more = absent f l rest h.1 (starts_after (f l) k rest a h.0) in (
      some_both f (longer_paths (point l k) (paths_to_true c)) (paths_at l rest) ∙ ap (λ b. b || some_path_holds f (paths_at l rest)) (point_holds f l k (paths_to_true c) ∙ ap (λ o. is_eq o && some_path_holds f (paths_to_true c)) a) ∙ more.0,
      none_more f l k (keys rest) ∙ ap (λ o. not (is_eq o) && none_of f l (keys rest)) a ∙ more.1,
    )

at_truth : (f : List ℕ → List ℕ) (l : List ℕ) (bs : Branches) (t : Bool) → Increasing bs → AllTold f bs → holds_in bs false (f l) t f ≡ (some_path_holds f (paths_at l bs) || (none_of f l (keys bs) && t))
at_truth f l done t h es = refl
at_truth f l (branch k c rest) t h es =
    go (text_cmp (f l) k) refl (at_truth f l rest t h.1 es.1)
    ∙ ap (λ b. (b || some_path_holds f (paths_at l rest)) || ((not (is_eq (text_cmp (f l) k)) && none_of f l (keys rest)) && t)) (sym (point_holds f l k (paths_to_true c)))
    ∙ ap (λ b. b || ((not (is_eq (text_cmp (f l) k)) && none_of f l (keys rest)) && t)) (sym (some_both f (longer_paths (point l k) (paths_to_true c)) (paths_at l rest)))
    ∙ ap (λ b. some_path_holds f (paths_at l (branch k c rest)) || (b && t)) (sym (none_more f l k (keys rest)))
  where
    go : (o : Ordering) → text_cmp (f l) k ≡ o → holds_in rest false (f l) t f ≡ (some_path_holds f (paths_at l rest) || (none_of f l (keys rest) && t))
        → by_order o t (holds_of c f) (holds_in rest false (f l) t f)
        ≡ (((is_eq o && some_path_holds f (paths_to_true c)) || some_path_holds f (paths_at l rest)) || ((not (is_eq o) && none_of f l (keys rest)) && t))
    go Less e ih = let n = absent f l rest h.1 (starts_after (f l) k rest e h.0) in rw (n.0, n.1) refl
    go Equal e ih =
        let q : f l ≡ k = cmp_equal (f l) k e in
        let n = absent f l rest h.1 (subst (λ (z : List ℕ). StartsAfter (Some z) rest) (sym q) h.0) in
        es.0 ∙ sym (or_false (some_path_holds f (paths_to_true c))) ∙ sym (or_false (some_path_holds f (paths_to_true c) || false)) ∙ ap (λ b. (some_path_holds f (paths_to_true c) || b) || false) (sym n.0)
    go Greater e ih = ih

-- ---- pieces of the interpreter

lower_holds : (f : List ℕ → List ℕ) (x : ℕ) → 0 < x → list_all (comparison_holds f) (lower x) ≡ not (is_before (text_cmp (f python_level) (x ∷ [])))
lower_holds f x h = ap (λ b. list_all (comparison_holds f) (if b then [] else at_least x ∷ [])) (not_zero x h) ∙ and_true (not (is_before (text_cmp (f python_level) (x ∷ []))))
  where
    not_zero : (x : ℕ) → 0 < x → eqb x 0 ≡ false
    not_zero zero h = absurd (omega arith)
    not_zero (suc n) h = eqb_positive n

upper_holds : (f : List ℕ → List ℕ) (x : ℕ) → x < 2 ^ 96 → list_all (comparison_holds f) (upper x) ≡ is_before (text_cmp (f python_level) (x ∷ []))
upper_holds f x h = ap (λ b. list_all (comparison_holds f) (if b then [] else below x ∷ [])) (eqb_less x (2 ^ 96) h) ∙ and_true (is_before (text_cmp (f python_level) (x ∷ [])))

piece_holds : (f : List ℕ → List ℕ) (a b : ℕ) (ps : List (List Step))
    → some_path_holds f (longer_paths (interval a b) ps) ≡ ((list_all (comparison_holds f) (lower a) && list_all (comparison_holds f) (upper b)) && some_path_holds f ps)
piece_holds f a b ps = some_led f (interval a b) ps ∙ ap (λ z. z && some_path_holds f ps) (list_all-append (comparison_holds f) (lower a) (upper b))

rising_low : (bs : Branches) (x : ℕ) → Rising x bs → x < 2 ^ 96
rising_low done x h = h
rising_low (branch k c rest) x h = let t = rising_low rest (start_of k) h.2 in let s = h.0 in omega (arith, t, s)

beyond : (f : List ℕ → List ℕ) (bs : Branches) (x : ℕ) (ps : List (List Step)) → 0 < x → Rising x bs → text_cmp (f python_level) (x ∷ []) ≡ Less → some_path_holds f (paths_from x ps bs) ≡ false
beyond f done x ps p h e =
    piece_holds f x (2 ^ 96) ps ∙ ap (λ z. (z && list_all (comparison_holds f) (upper (2 ^ 96))) && some_path_holds f ps) (lower_holds f x p ∙ ap (λ o. not (is_before o)) e)
beyond f (branch k c rest) x ps p h e =
    let y = start_of k in
    let less : text_cmp (x ∷ []) (y ∷ []) ≡ Less = ap (λ o. ordering_then o Equal) (cmp_less x y h.0) in
    let s = h.0 in
    some_both f (longer_paths (interval x y) ps) (paths_from y (paths_to_true c) rest)
    ∙ ap (λ z. z || some_path_holds f (paths_from y (paths_to_true c) rest))
    (piece_holds f x y ps ∙ ap (λ z. (z && list_all (comparison_holds f) (upper y)) && some_path_holds f ps) (lower_holds f x p ∙ ap (λ o. not (is_before o)) e))
    ∙ beyond f rest y (paths_to_true c) (omega (arith, s, p)) h.2 (cmp_trans (f python_level) (x ∷ []) (y ∷ []) e less)

-- a value before all keys takes what stands
stands_before : (f : List ℕ → List ℕ) (bs : Branches) (v : List ℕ) (t : Bool) → StartsAfter (Some v) bs → holds_in bs true v t f ≡ t
stands_before f done v t a = refl
stands_before f (branch k c rest) v t a = ap (λ o. by_order o t (holds_of c f) (holds_in rest true v (holds_of c f) f)) a

from_truth : (f : List ℕ → List ℕ) (bs : Branches) (start : ℕ) (d : Plain) → Rising start bs → Increasing bs → list_all (comparison_holds f) (lower start) ≡ true → Told f d → AllTold f bs
    → holds_in bs true (f python_level) (holds_of d f) f ≡ some_path_holds f (paths_from start (paths_to_true d) bs)
from_truth f done start d h i low e es = e ∙ ap (λ z. (z && true) && some_path_holds f (paths_to_true d)) (sym low) ∙ sym (piece_holds f start (2 ^ 96) (paths_to_true d))
from_truth f (branch k c rest) start d h i low e es =
    ap (λ z. by_order (text_cmp (f python_level) z) (holds_of d f) (holds_of c f) (holds_in rest true (f python_level) (holds_of c f) f)) h.1
    ∙ go (text_cmp (f python_level) (x ∷ [])) refl (λ low. from_truth f rest x c h.2 i.1 low es.0 es.1)
    ∙ ap (λ z. (z && some_path_holds f (paths_to_true d)) || some_path_holds f (paths_from x (paths_to_true c) rest)) (sym (ap (λ z. z && list_all (comparison_holds f) (upper x)) low ∙ upper_holds f x (rising_low rest x h.2)))
    ∙ ap (λ z. z || some_path_holds f (paths_from x (paths_to_true c) rest)) (sym (piece_holds f start x (paths_to_true d)))
    ∙ sym (some_both f (longer_paths (interval start x) (paths_to_true d)) (paths_from x (paths_to_true c) rest))
  where
    x : ℕ
    x = start_of k

    positive : 0 < x
    positive = let s = h.0 in omega (arith, s)

    go : (o : Ordering) → text_cmp (f python_level) (x ∷ []) ≡ o
        → (list_all (comparison_holds f) (lower x) ≡ true → holds_in rest true (f python_level) (holds_of c f) f ≡ some_path_holds f (paths_from x (paths_to_true c) rest))
        → by_order o (holds_of d f) (holds_of c f) (holds_in rest true (f python_level) (holds_of c f) f)
        ≡ ((is_before o && some_path_holds f (paths_to_true d)) || some_path_holds f (paths_from x (paths_to_true c) rest))
    go Less q ih = e ∙ sym (or_false (some_path_holds f (paths_to_true d))) ∙ ap (λ b. some_path_holds f (paths_to_true d) || b) (sym (beyond f rest x (paths_to_true c) positive h.2 q))
    go Equal q ih =
        let p : f python_level ≡ k = cmp_equal (f python_level) (x ∷ []) q ∙ sym h.1 in
        sym (stands_before f rest (f python_level) (holds_of c f) (subst (λ (z : List ℕ). StartsAfter (Some z) rest) (sym p) i.0)) ∙ ih (lower_holds f x positive ∙ ap (λ o. not (is_before o)) q)
    go Greater q ih = ih (lower_holds f x positive ∙ ap (λ o. not (is_before o)) q)

-- ---- every tree

node_truth : (f : List ℕ → List ℕ) (l : List ℕ) (d : Plain) (k : List ℕ) (c : Plain) (rest : Branches) → FitsAll (branch k c rest) l d → Told f d → AllTold f (branch k c rest) → Told f (node l d (branch k c rest))
node_truth f l d k c rest h e es = go (carries l) refl
  where
    bs : Branches
    bs = branch k c rest

    go : (m : Bool) → carries l ≡ m
        → holds_in bs m (f l) (holds_of d f) f ≡ some_path_holds f (if m then paths_from 0 (paths_to_true d) bs else paths_at l bs ++ longer_paths (others l (keys bs)) (paths_to_true d))
    go true q =
        let p = is_python l q in
        let g = subst (λ (z : List ℕ). FitsAll bs z d) p h in
        ap (λ z. holds_in bs true (f z) (holds_of d f) f) p ∙ from_truth f bs 0 d (rising_fits bs d 0 (omega arith) g (first_positive k c rest d g)) (increasing_fits bs l d h) refl e es
    go false q =
        at_truth f l bs (holds_of d f) (increasing_fits bs l d h) es
        ∙ ap (λ b. some_path_holds f (paths_at l bs) || b) (ap (λ t. none_of f l (keys bs) && t) e ∙ sym (some_led f (others l (keys bs)) (paths_to_true d)))
        ∙ sym (some_both f (paths_at l bs) (longer_paths (others l (keys bs)) (paths_to_true d)))

mutual
  pub tree_told : (f : List ℕ → List ℕ) (t : Plain) (l : List ℕ) → Fits t l → Told f t
  tree_told f (truth true) l h = refl
  tree_told f (truth false) l h = refl
  tree_told f (node m d done) l h = absurd h.1
  tree_told f (node m d (branch k c rest)) l h = node_truth f m d k c rest h.3 (tree_told f d m h.2) (parts_told f (branch k c rest) m d h.3)

  parts_told : (f : List ℕ → List ℕ) (bs : Branches) (m : List ℕ) (d : Plain) → FitsAll bs m d → AllTold f bs
  parts_told f done m d h = tt
  parts_told f (branch k c rest) m d h = (tree_told f c m h.2, parts_told f rest m (carried_part (carries m) c d) h.4)

pub paths_truth : PathsTellTruth
paths_truth t h w x = tree_told (value_of w x) t [] h
