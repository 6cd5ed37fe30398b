-- Trees made of trees, part by part.
use Rattle.std.specs.Prelude.{ℕ, zero, suc, ◌+◌, List, [], ◌∷◌, Bool, true, false, Option, Some, None, if◌then◌else◌}
use Rattle.std.specs.Str.{bytes_eq}
use Rattle.ul_nodes.specs.Plain.{Plain, truth, node, Branches, done, branch, text_cmp, carries, carried_part, by_order, pick}

-- how much a tree has
abbrev mutual
  pub size : Plain → ℕ
  size (truth b) = 1
  size (node l d bs) = 1 + (size d + sizes bs)

  pub sizes : Branches → ℕ
  sizes done = 0
  sizes (branch k c rest) = size c + sizes rest

-- both of two truths
abbrev pub both : Bool → Bool → Bool
both true b = b
both false b = false

-- one of two truths
abbrev pub either : Bool → Bool → Bool
either true b = true
either false b = b

-- whether two truths are one
abbrev pub same_bool : Bool → Bool → Bool
same_bool true b = b
same_bool false true = false
same_bool false false = true

abbrev mutual
  pub same : Plain → Plain → Bool
  same (truth a) (truth b) = same_bool a b
  same (truth a) (node k e cs) = false
  same (node l d bs) (truth b) = false
  same (node l d bs) (node k e cs) = both (bytes_eq l k) (both (same d e) (sames bs cs))

  pub sames : Branches → Branches → Bool
  sames done done = true
  sames done (branch j e cs) = false
  sames (branch k c bs) done = false
  sames (branch k c bs) (branch j e cs) = both (bytes_eq k j) (both (same c e) (sames bs cs))

-- the branches of keys, those left out that say what stands already
abbrev pub outs : (List ℕ → Plain) → Bool → List (List ℕ) → Plain → Branches
outs g m [] d = done
outs g m (k ∷ ks) d = if same (g k) d then outs g m ks d else branch k (g k) (outs g m ks (carried_part m (g k) d))

-- the branches of keys and parts, those left out that say what stands already
abbrev pub reduced_branches : Bool → List (List ℕ × Plain) → Plain → Branches
reduced_branches m [] d = done
reduced_branches m (p ∷ ps) d = if same p.1 d then reduced_branches m ps d else branch p.0 p.1 (reduced_branches m ps (carried_part m p.1 d))

-- a node with these branches, or its other part alone where it has none
abbrev pub close : List ℕ → Plain → Branches → Plain
close l d done = d
close l d (branch k c rest) = node l d (branch k c rest)

-- the keys of branches, in order
abbrev pub keys : Branches → List (List ℕ)
keys done = []
keys (branch k c rest) = k ∷ keys rest

-- a tree seen from a level
abbrev pub rest_at : List ℕ → Plain → Plain
rest_at l (truth b) = truth b
rest_at l (node k d bs) = by_order (text_cmp l k) (node k d bs) d (node k d bs)

-- the branches of a tree at a level; a tree of other levels has none there
abbrev pub branches_at : List ℕ → Plain → Branches
branches_at l (truth b) = done
branches_at l (node k d bs) = by_order (text_cmp l k) done bs done

-- the part that a value of a level takes; a tree of other levels is its own part
abbrev pub part_at : List ℕ → List ℕ → Plain → Plain
part_at l v t = pick (branches_at l t) (carries l) v (rest_at l t)

-- a key put into a list of keys, and the keys after it merged with the rest
abbrev pub merged_with : List ℕ → (List (List ℕ) → List (List ℕ)) → List (List ℕ) → List (List ℕ)
merged_with x f [] = x ∷ f []
merged_with x f (y ∷ ys) = by_order (text_cmp x y) (x ∷ f (y ∷ ys)) (x ∷ f ys) (y ∷ merged_with x f ys)

-- the keys of two lists in order, each once
abbrev pub key_union : List (List ℕ) → List (List ℕ) → List (List ℕ)
key_union [] ys = ys
key_union (x ∷ xs) ys = merged_with x (key_union xs) ys

-- the keys of a tree at a level
abbrev pub keys_at : List ℕ → Plain → List (List ℕ)
keys_at l t = keys (branches_at l t)

-- the keys of two trees at a level, each once
abbrev pub both_keys : List ℕ → Plain → Plain → List (List ℕ)
both_keys l a b = key_union (keys_at l a) (keys_at l b)

-- a node made of the parts at keys, reduced
abbrev pub built : List ℕ → (List ℕ → Plain) → Plain → List (List ℕ) → Plain
built l g d ks = close l d (outs g (carries l) ks d)

-- the first level of two trees
abbrev pub first_of : Plain → Plain → Option (List ℕ)
first_of (truth x) (truth y) = None
first_of (node l d bs) (truth y) = Some l
first_of (truth x) (node k e cs) = Some k
first_of (node l d bs) (node k e cs) = Some (by_order (text_cmp l k) l l k)

-- the truth that a tree is; false for a node
abbrev pub leaf_truth : Plain → Bool
leaf_truth (truth b) = b
leaf_truth (node l d bs) = false

-- the truth that a tree is, if it is one
abbrev pub truth_value : Plain → Option Bool
truth_value (truth b) = Some b
truth_value (node l d bs) = None

-- two trees joined at their first level: their parts at the keys of both are joined in turn
abbrev pub apply_at : (Bool → Bool → Bool) → (Plain → Plain → Plain) → Option (List ℕ) → Plain → Plain → Plain
apply_at op rec None a b = truth (op (leaf_truth a) (leaf_truth b))
apply_at op rec (Some l) a b =
    built l (λ v. rec (part_at l v a) (part_at l v b)) (rec (rest_at l a) (rest_at l b)) (key_union (keys (branches_at l a)) (keys (branches_at l b)))

-- two trees joined part by part, in at most so many turns
abbrev pub apply : (Bool → Bool → Bool) → ℕ → Plain → Plain → Plain
apply op zero a b = truth false
apply op (suc n) a b = apply_at op (apply op n) (first_of a b) a b
