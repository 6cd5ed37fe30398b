-- The comparisons of a path, cut into steps, are the path.
use Rattle.std.proofs.Common.{◌≡◌, ◌≢◌, ℕ, zero, suc, ◌<◌, ◌≤◌, ◌^◌, List, [], ◌∷◌, ◌++◌, map, length, Bool, true, false, eqb, refl, ap, sym, ◌∙◌, subst, arith, length-append, Less, Equal, Some, if◌then◌else◌}
use Rattle.std.proofs.lemmas.Bool.{eqb-true}
use Rattle.ul_tree.specs.Comparisons.{Comparison, at_least, below, differs, upper, comparisons_of, path_comparisons}
use Rattle.ul_nodes.specs.Levels.{python_level}
use Rattle.ul_tree.specs.PathLaws.{step_level}
use Rattle.ul_tree.specs.PathList.{Step, interval, point, others}
use Rattle.ul_nodes.specs.Plain.{text_cmp, carries}
use Rattle.ul_nodes.proofs.ForCallers.{cmp_itself}
use Rattle.ul_tree.proofs.ForCallers.{Each, eqb_self, eqb_less, eqb_positive, bytes_self, less_differs}
use Rattle.ul_marker_text.specs.Rows.{front_keys, after_keys, interval_from, front_step, steps_with, steps_of}
use Rattle.ul_marker_text.proofs.Goods.{GoodStep, Good, KeysAre}
use Rattle.ul_marker_text.proofs.Placed.{GoodComparison}

-- ---- comparisons of good steps

-- a list that isn't empty
abbrev pub Filled : {X : Type 0} → List X → Type 0
Filled [] = ⊥
Filled (x ∷ xs) = Unit {0}

pub below_top : (b : ℕ) → b ≤ 2 ^ 96 → b ≢ 2 ^ 96 → b < 2 ^ 96
below_top b h n = omega arith

unequal_below : (b : ℕ) → b ≤ 2 ^ 96 → eqb b (2 ^ 96) ≡ false → b < 2 ^ 96
unequal_below b h e = below_top b h (λ q. let r : true ≡ false = sym (eqb_self b) ∙ ap (eqb b) q ∙ e in cc)

upper_good : (b : ℕ) → 0 < b → b ≤ 2 ^ 96 → Each GoodComparison (upper b)
upper_good b p h = go (eqb b (2 ^ 96)) refl
  where
    go : (t : Bool) → eqb b (2 ^ 96) ≡ t → Each GoodComparison (if t then [] else below b ∷ [])
    go true e = tt
    go false e = ((p, unequal_below b h e), tt)

keys_good : (l : List ℕ) (ks : List (List ℕ)) → carries l ≡ false → KeysAre l ks → Each GoodComparison (map (differs l) ks)
keys_good l [] n h = tt
keys_good l (k ∷ ks) n h = ((n, h.0), keys_good l ks n h.1)

-- comparisons that a reduced tree may have, and one at least
abbrev pub GoodRow : List Comparison → Type 0
GoodRow cs = Filled cs × Each GoodComparison cs

step_row : (s : Step) → GoodStep s → GoodRow (comparisons_of s)
step_row (interval zero b) g =
    (subst (λ (t : Bool). Filled (if t then [] else below b ∷ [])) (sym (eqb_less b (2 ^ 96) (below_top b g.1 (λ e. g.2 refl e)))) tt, upper_good b (omega (arith, g.0)) g.1)
step_row (interval (suc a) b) g =
    subst (λ (t : Bool). GoodRow ((if t then [] else at_least (suc a) ∷ []) ++ upper b)) (sym (eqb_positive a)) (tt, ((omega arith, omega (arith, g.0, g.1)), upper_good b (omega (arith, g.0)) g.1))
step_row (point l k) g = (tt, ((g.0, g.1), tt))
step_row (others l []) g = absurd g.2
step_row (others l (k ∷ ks)) g = (tt, keys_good l (k ∷ ks) g.0 g.1)

each_append : (xs ys : List Comparison) → Each GoodComparison xs → Each GoodComparison ys → Each GoodComparison (xs ++ ys)
each_append [] ys x y = y
each_append (c ∷ xs) ys x y = (x.0, each_append xs ys x.1 y)

filled_append : {X : Type 0} (xs ys : List X) → Filled xs → Filled (xs ++ ys)
filled_append [] ys h = absurd h
filled_append (c ∷ xs) ys h = tt

path_each : (p : List Step) (l : List ℕ) → Good l p → Each GoodComparison (path_comparisons p)
path_each [] l g = tt
path_each (s ∷ p) l g = each_append (comparisons_of s) (path_comparisons p) (step_row s g.1).1 (path_each p (step_level s) g.2)

-- the comparisons of a path that has a step
pub path_row : (s : Step) (p : List Step) (l : List ℕ) → Good l (s ∷ p) → GoodRow (path_comparisons (s ∷ p))
path_row s p l g = (filled_append (comparisons_of s) (path_comparisons p) (step_row s g.1).0, path_each (s ∷ p) l g)

-- ---- the step at the front

never : {P : Type 0} (l : List ℕ) → text_cmp l l ≡ Less → P
never l e = let q : Equal ≡ Less = sym (cmp_itself l) ∙ e in absurd cc

-- after an interval no bound of the interpreter comes
interval_whole : (n : ℕ) (p : List Step) → Good python_level p → interval_from n (path_comparisons p) ≡ Some (interval n (2 ^ 96), path_comparisons p)
interval_whole n [] g = refl
interval_whole n (interval a b ∷ p) g = never python_level g.0
interval_whole n (point l k ∷ p) g = refl
interval_whole n (others l [] ∷ p) g = absurd g.1.2
interval_whole n (others l (k ∷ ks) ∷ p) g = refl

-- after a step of a level no key of the level comes
record Stops (l : List ℕ) (cs : List Comparison) : Type 0 where
  keys : front_keys l cs ≡ []
  rest : after_keys l cs ≡ cs

not_whole : (b : ℕ) (p : List Step) (l : List ℕ) → b < 2 ^ 96 → Stops l (upper b ++ path_comparisons p)
not_whole b p l h = subst (λ (t : Bool). Stops l ((if t then [] else below b ∷ []) ++ path_comparisons p)) (sym (eqb_less b (2 ^ 96) h)) (record { keys = refl; rest = refl })

stops : (l : List ℕ) (p : List Step) → Good l p → Stops l (path_comparisons p)
stops l [] g = record { keys = refl; rest = refl }
stops l (interval zero b ∷ p) g = not_whole b p l (below_top b g.1.1 (λ e. g.1.2 refl e))
stops l (interval (suc a) b ∷ p) g =
    subst (λ (t : Bool). Stops l (((if t then [] else at_least (suc a) ∷ []) ++ upper b) ++ path_comparisons p)) (sym (eqb_positive a)) (record { keys = refl; rest = refl })
stops l (point m k ∷ p) g = record { keys = refl; rest = refl }
stops l (others m [] ∷ p) g = absurd g.1.2
stops l (others m (k ∷ ks) ∷ p) g =
    let cs = map (differs m) ks ++ path_comparisons p in
    let e = less_differs l m g.0 in
    record {
      keys = ap (λ b. if b then k ∷ front_keys l cs else []) e;
      rest = ap (λ b. if b then after_keys l cs else differs m k ∷ cs) e;
    }

keys_run : (l : List ℕ) (ks : List (List ℕ)) (cs : List Comparison) → front_keys l cs ≡ [] → front_keys l (map (differs l) ks ++ cs) ≡ ks
keys_run l [] cs e = e
keys_run l (k ∷ ks) cs e = ap (λ b. if b then k ∷ front_keys l (map (differs l) ks ++ cs) else []) (bytes_self l) ∙ ap (λ z. k ∷ z) (keys_run l ks cs e)

rest_run : (l : List ℕ) (ks : List (List ℕ)) (cs : List Comparison) → after_keys l cs ≡ cs → after_keys l (map (differs l) ks ++ cs) ≡ cs
rest_run l [] cs e = e
rest_run l (k ∷ ks) cs e =
    ap (λ b. if b then after_keys l (map (differs l) ks ++ cs) else differs l k ∷ (map (differs l) ks ++ cs)) (bytes_self l) ∙ rest_run l ks cs e

-- a first step's comparisons are cut off as the step
abbrev Fronts : Step → List Comparison → List Comparison → Type 0
Fronts s cs rest = front_step (cs ++ rest) ≡ Some (s, rest)

upper_front : (b : ℕ) (rest : List Comparison) → b < 2 ^ 96 → Fronts (interval 0 b) (upper b) rest
upper_front b rest h = subst (λ (t : Bool). Fronts (interval 0 b) (if t then [] else below b ∷ []) rest) (sym (eqb_less b (2 ^ 96) h)) refl

lower_front : (a b : ℕ) (p : List Step) → b ≤ 2 ^ 96 → Good python_level p → front_step (at_least a ∷ (upper b ++ path_comparisons p)) ≡ Some (interval a b, path_comparisons p)
lower_front a b p h g = go (eqb b (2 ^ 96)) refl
  where
    go : (t : Bool) → eqb b (2 ^ 96) ≡ t → interval_from a ((if t then [] else below b ∷ []) ++ path_comparisons p) ≡ Some (interval a b, path_comparisons p)
    go true e = interval_whole a p g ∙ ap (λ z. Some (interval a z, path_comparisons p)) (sym (eqb-true b (2 ^ 96) e))
    go false e = refl

front_back : (s : Step) (p : List Step) → GoodStep s → Good (step_level s) p → Fronts s (comparisons_of s) (path_comparisons p)
front_back (interval zero b) p g h = upper_front b (path_comparisons p) (below_top b g.1 (λ e. g.2 refl e))
front_back (interval (suc a) b) p g h =
    subst (λ (t : Bool). Fronts (interval (suc a) b) ((if t then [] else at_least (suc a) ∷ []) ++ upper b) (path_comparisons p)) (sym (eqb_positive a)) (lower_front (suc a) b p g.1 h)
front_back (point l k) p g h = refl
front_back (others l []) p g h = absurd g.2
front_back (others l (k ∷ ks)) p g h =
    let cs = path_comparisons p in
    let stop = stops l p h in
    ap (λ z. Some (others l (k ∷ z), after_keys l (map (differs l) ks ++ cs))) (keys_run l ks cs stop.keys)
    ∙ ap (λ z. Some (others l (k ∷ ks), z)) (rest_run l ks cs stop.rest)

filled_length : {X : Type 0} (xs : List X) → Filled xs → 0 < length xs
filled_length [] h = absurd h
filled_length (x ∷ xs) h = omega arith

-- a good path is cut into its steps
pub steps_back : (p : List Step) (l : List ℕ) (n : ℕ) → Good l p → length (path_comparisons p) ≤ n → steps_of n (path_comparisons p) ≡ p
steps_back [] l zero g h = refl
steps_back [] l (suc n) g h = refl
steps_back (s ∷ p) l zero g h =
    let f = filled_length (path_comparisons (s ∷ p)) (path_row s p l g).0 in absurd (omega (arith, f, h))
steps_back (s ∷ p) l (suc n) g h =
    let f = filled_length (comparisons_of s) (step_row s g.1).0 in
    let e = length-append (comparisons_of s) (path_comparisons p) in
    ap (steps_with (steps_of n)) (front_back s p g.1 g.2) ∙ ap (λ z. s ∷ z) (steps_back p (step_level s) n g.2 (omega (arith, f, h, e)))
