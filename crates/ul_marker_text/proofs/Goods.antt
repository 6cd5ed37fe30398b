-- The paths to true of a reduced tree are steps by increasing level, each with keys of its level.
use Rattle.std.proofs.Common.{◌≡◌, ℕ, ◌<◌, ◌≤◌, ◌^◌, List, [], ◌∷◌, ◌++◌, Bool, true, false, refl, subst, arith, Less, if◌then◌else◌}
use Rattle.ul_nodes.specs.Plain.{Plain, truth, node, Branches, done, branch, text_cmp, carries, carried_part}
use Rattle.ul_nodes.specs.Apply.{keys}
use Rattle.ul_nodes.specs.Levels.{python_level, IsKey}
use Rattle.ul_tree.specs.PathLaws.{step_level}
use Rattle.ul_tree.specs.PathList.{Step, interval, point, others, start_of, longer_paths, paths_to_true, paths_from, paths_at}
use Rattle.ul_nodes.specs.Reduced.{Fits, FitsAll}
use Rattle.ul_tree.proofs.ForCallers.{Each, Rising, is_python, rising_fits, first_positive}

-- ---- good steps

-- keys of a level
abbrev pub KeysAre : List ℕ → List (List ℕ) → Type 0
KeysAre l ks = Each (IsKey l) ks

abbrev pub HasKeys : List (List ℕ) → Type 0
HasKeys [] = ⊥
HasKeys (k ∷ ks) = Unit {0}

-- a step that a reduced tree may have
abbrev pub GoodStep : Step → Type 0
GoodStep (interval a b) = (a < b) × (b ≤ 2 ^ 96) × (a ≡ 0 → b ≡ 2 ^ 96 → ⊥)
GoodStep (point l k) = (carries l ≡ false) × IsKey l k
GoodStep (others l ks) = (carries l ≡ false) × KeysAre l ks × HasKeys ks

-- good steps by increasing level, after one
abbrev pub Good : List ℕ → List Step → Type 0
Good l [] = Unit {0}
Good l (s ∷ p) = (text_cmp l (step_level s) ≡ Less) × GoodStep s × Good (step_level s) p

abbrev pub Goods : List ℕ → List (List Step) → Type 0
Goods l ps = Each (Good l) ps

goods_append : (l : List ℕ) (ps qs : List (List Step)) → Goods l ps → Goods l qs → Goods l (ps ++ qs)
goods_append l [] qs x y = y
goods_append l (p ∷ ps) qs x y = (x.0, goods_append l ps qs x.1 y)

goods_led : (l : List ℕ) (s : Step) (ps : List (List Step)) → text_cmp l (step_level s) ≡ Less → GoodStep s → Goods (step_level s) ps → Goods l (longer_paths s ps)
goods_led l s [] e g h = tt
goods_led l s (p ∷ ps) e g h = ((e, g, h.0), goods_led l s ps e g h.1)

-- the parts of branches have good paths
abbrev GoodParts : List ℕ → Branches → Type 0
GoodParts l done = Unit {0}
GoodParts l (branch k c rest) = Goods l (paths_to_true c) × GoodParts l rest

-- pieces from a number on aren't the whole line
abbrev NotWhole : ℕ → Branches → Type 0
NotWhole start done = start ≡ 0 → ⊥
NotWhole start (branch k c rest) = Unit {0}

goods_from : (bs : Branches) (l : List ℕ) (d : Plain) (start : ℕ) → text_cmp l python_level ≡ Less → Rising start bs → NotWhole start bs → Goods python_level (paths_to_true d) → GoodParts python_level bs
    → Goods l (paths_from start (paths_to_true d) bs)
goods_from done l d start e h w g gs = goods_led l (interval start (2 ^ 96)) (paths_to_true d) e (h, omega arith, λ p q. w p) g
goods_from (branch k c rest) l d start e h w g gs =
    let x = start_of k in
    let top = below_top rest x h.2 in
    goods_append l (longer_paths (interval start x) (paths_to_true d)) (paths_from x (paths_to_true c) rest)
    (goods_led l (interval start x) (paths_to_true d) e (h.0, omega arith, λ p q. absurd (omega arith)) g)
    (goods_from rest l c x e h.2 (not_whole rest start x h.0) gs.0 gs.1)
  where
    below_top : (rest : Branches) (x : ℕ) → Rising x rest → x < 2 ^ 96
    below_top done x h = h
    below_top (branch k c rest) x h = let t = below_top rest (start_of k) h.2 in let s = h.0 in omega (arith, t, s)

    not_whole : (rest : Branches) (start x : ℕ) → start < x → NotWhole x rest
    not_whole done start x less = λ p. omega arith
    not_whole (branch k c rest) start x less = tt

goods_at : (bs : Branches) (l m : List ℕ) (d : Plain) → text_cmp l m ≡ Less → carries m ≡ false → FitsAll bs m d → GoodParts m bs → Goods l (paths_at m bs)
goods_at done l m d e n h gs = tt
goods_at (branch k c rest) l m d e n h gs =
    goods_append l (longer_paths (point m k) (paths_to_true c)) (paths_at m rest) (goods_led l (point m k) (paths_to_true c) e (n, h.0) gs.0) (goods_at rest l m (carried_part (carries m) c d) e n h.4 gs.1)

keys_fit : (bs : Branches) (m : List ℕ) (d : Plain) → FitsAll bs m d → KeysAre m (keys bs)
keys_fit done m d h = tt
keys_fit (branch k c rest) m d h = (h.0, keys_fit rest m (carried_part (carries m) c d) h.4)

node_good : (m : List ℕ) (l : List ℕ) (d : Plain) (k : List ℕ) (c : Plain) (rest : Branches) → text_cmp l m ≡ Less → FitsAll (branch k c rest) m d → Goods m (paths_to_true d) → GoodParts m (branch k c rest)
    → Goods l (paths_to_true (node m d (branch k c rest)))
node_good m l d k c rest e h g gs = go (carries m) refl
  where
    bs : Branches
    bs = branch k c rest

    go : (t : Bool) → carries m ≡ t → Goods l (if t then paths_from 0 (paths_to_true d) bs else paths_at m bs ++ longer_paths (others m (keys bs)) (paths_to_true d))
    go true q =
        let p = is_python m q in
        let f = subst (λ (z : List ℕ). FitsAll bs z d) p h in
        goods_from bs l d 0 (subst (λ (z : List ℕ). text_cmp l z ≡ Less) p e) (rising_fits bs d 0 (omega arith) f (first_positive k c rest d f)) tt (subst (λ (z : List ℕ). Goods z (paths_to_true d)) p g) (subst (λ (z : List ℕ). GoodParts z bs) p gs)
    go false q =
        goods_append l (paths_at m bs) (longer_paths (others m (keys bs)) (paths_to_true d)) (goods_at bs l m d e q h gs)
        (goods_led l (others m (keys bs)) (paths_to_true d) e (q, keys_fit bs m d h, tt) g)

mutual
  pub tree_good : (t : Plain) (l : List ℕ) → Fits t l → Goods l (paths_to_true t)
  tree_good (truth true) l h = (tt, tt)
  tree_good (truth false) l h = tt
  tree_good (node m d done) l h = absurd h.1
  tree_good (node m d (branch k c rest)) l h = node_good m l d k c rest h.0 h.3 (tree_good d m h.2) (parts_good (branch k c rest) m d h.3)

  parts_good : (bs : Branches) (m : List ℕ) (d : Plain) → FitsAll bs m d → GoodParts m bs
  parts_good done m d h = tt
  parts_good (branch k c rest) m d h = (tree_good c m h.2, parts_good rest m (carried_part (carries m) c d) h.4)
