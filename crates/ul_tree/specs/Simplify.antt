-- The rule by which a tree f is made simpler where only a region c counts, which isn't false. Both are cut into
-- pieces level by level; where the region is false, a piece takes over what a neighbouring piece became.
use Rattle.std.specs.Prelude.{ℕ, List, [], ◌∷◌, Bool, true, false, Option, Some, None, ◌≡◌}
use Rattle.std.specs.declared.cmp.Ordering.TheVariants.{Less}
use Rattle.ul_nodes.specs.Plain.{Plain, truth, node, Branches, done, branch, text_cmp, carries}
use Rattle.ul_nodes.specs.Apply.{keys, branches_at, rest_at, part_at, key_union, close, reduced_branches}
use Rattle.ul_nodes.specs.Rows.{Results, own_or, earliest, latest}
use Rattle.ul_tree.specs.Laws.{or_of}

-- the union of a node's parts
abbrev pub union_in : Branches → Plain → Plain
union_in done t = t
union_in (branch k c rest) t = union_in rest (or_of t c)

-- each key with its own result or, where it has none, that of the nearest earlier key that has one, z before any
abbrev pub filled_results : Results → Plain → List (List ℕ × Plain)
filled_results [] z = []
filled_results (r ∷ rs) z = (r.0, own_or r.1 z) ∷ filled_results rs (own_or r.1 z)

-- a level put together from the results of its pieces, where z serves those before the first result
abbrev pub settled_from : List ℕ → Results → Option Plain → Plain → Plain
settled_from l rs o z = let e = own_or o (latest (carries l) rs z) in close l e (reduced_branches (carries l) (filled_results rs z) e)

-- a level put together from the results of its pieces: a piece without one takes that of the nearest earlier piece
-- with one, else of the nearest later; d where no piece has a result, as under a region that is false
abbrev pub settled_level : List ℕ → Results → Option Plain → Plain → Plain
settled_level l rs o d = settled_from l rs o (earliest (carries l) rs o d)

mutual
  -- Simplifies f c t: under the region c, f becomes t
  pub data Simplifies : Plain → Plain → Plain → Type 0 where
    -- a truth value stays
    at_truth : {b : Bool} {c : Plain} → Simplifies (truth b) c (truth b)
    -- where the region is everything, f stays
    anywhere : {f : Plain} → Simplifies f (truth true) f
    -- a level of the region above f's is taken away, by the union of its parts
    above : {l k : List ℕ} {d e t : Plain} {bs cs : Branches} → text_cmp k l ≡ Less → Simplifies (node l d bs) (union_in cs e) t → Simplifies (node l d bs) (node k e cs) t
    -- else the pieces of both at f's level are simplified in turn; a region of later levels is the same in each
    by_pieces : {l k : List ℕ} {d e : Plain} {bs cs : Branches} {rs : Results} {o : Option Plain} → (text_cmp k l ≡ Less → ⊥)
        → Pieces l (node l d bs) (node k e cs) (key_union (keys bs) (keys (branches_at l (node k e cs)))) rs → Piece d (rest_at l (node k e cs)) o
        → Simplifies (node l d bs) (node k e cs) (settled_level l rs o d)

  -- the pieces of f and c at keys of a level, and their results
  pub data Pieces : List ℕ → Plain → Plain → List (List ℕ) → Results → Type 0 where
    no_piece : {l : List ℕ} {f c : Plain} → Pieces l f c [] []
    piece : {l k : List ℕ} {f c : Plain} {ks : List (List ℕ)} {o : Option Plain} {rs : Results} → Piece (part_at l k f) (part_at l k c) o → Pieces l f c ks rs → Pieces l f c (k ∷ ks) ((k, o) ∷ rs)

  -- a piece has a result unless the region is false there
  pub data Piece : Plain → Plain → Option Plain → Type 0 where
    outside : {f : Plain} → Piece f (truth false) None
    inside : {f c t : Plain} → (c ≡ truth false → ⊥) → Simplifies f c t → Piece f c (Some t)
