-- What the code of simplifying sees of pieces and regions, as plain data.
use Rattle.std.specs.Prelude.{ℕ, List, [], ◌∷◌, Bool, false, Option, Some, None, option_map, ◌≡◌, zero, suc, if◌then◌else◌}
use Rattle.std.specs.Ordering.{is_lt}
use Rattle.ul_nodes.specs.Plain.{Plain, truth, node, Branches, done, branch, text_cmp, by_order, carries, holds_of}
use Rattle.ul_nodes.specs.Apply.{either, rest_at, close, reduced_branches}
use Rattle.ul_nodes.specs.Reduced.{IsReduced, Fits}
use Rattle.ul_nodes.specs.Keys.{keys_view, level_view, branches_from, branches_of, rest_of, top_of}
use Rattle.ul_nodes.specs.Rows.{Results, own_or, latest, results_view, parts_view}
use Rattle.ul_tree.specs.Simplify.{Simplifies, Pieces, Piece, settled_level, union_in}
use Rattle.ul_tree.specs.Views.{tree_view}
use Rattle.ul_nodes.specs.declared.level.Level.{Level}
use Rattle.ul_tree.specs.declared.tree.Tree.{Tree}
use Rattle.ul_nodes.specs.declared.level.Key.{Key}

-- what pieces become is reduced, with every level after l
abbrev pub ResultFits : Option Plain → List ℕ → Type 0
ResultFits None l = Unit {0}
ResultFits (Some t) l = Fits t l

-- what all pieces become is reduced, with every level after l
abbrev pub ResultsFit : Results → List ℕ → Type 0
ResultsFit [] l = Unit {0}
ResultsFit (r ∷ rs) l = ResultFits r.1 l × ResultsFit rs l

-- all parts are reduced, with every level after l
abbrev pub PartsFit : List (List ℕ × Plain) → List ℕ → Type 0
PartsFit [] l = Unit {0}
PartsFit (p ∷ ps) l = Fits p.1 l × PartsFit ps l

-- whether a tree's top level is above l
abbrev pub is_above : List ℕ → Plain → Bool
is_above l (truth b) = false
is_above l (node k e cs) = is_lt (text_cmp k l)

-- whether the part of one of the first so many branches holds
abbrev pub some_part_holds : ℕ → Branches → (List ℕ → List ℕ) → Bool
some_part_holds zero bs f = false
some_part_holds (suc n) done f = false
some_part_holds (suc n) (branch k c rest) f = either (holds_of c f) (some_part_holds n rest f)

-- a tree that holds where a part of so many branches from a place on does
abbrev pub HoldsParts : Branches → ℕ → ℕ → Plain → Type 0
HoldsParts bs low count t = (f : List ℕ → List ℕ) → holds_of t f ≡ some_part_holds count (branches_from low bs) f

-- a tree that was made, or else the one that stands
abbrev pub region_view : {A : Type 0} → (A → Plain) → Option A → Plain → Plain
region_view view None c = c
region_view view (Some t) c = view t

-- r is what stays of the region c when levels above l are taken away: it serves every tree that doesn't begin above l
pub record Lowers (l : List ℕ) (c r : Plain) : Type 0 where
  pub reduced : IsReduced r
  pub not_false : r ≡ truth false → ⊥
  pub serves : (f t : Plain) → is_above l f ≡ false → Simplifies f r t → Simplifies f c t

-- and all of them are
pub record Lowered (l : List ℕ) (c r : Plain) : Type 0 where
  pub lowers : Lowers l c r
  pub not_above : is_above l r ≡ false

-- the earlier of two levels, where there are
abbrev pub earlier_top : Option (List ℕ) → Option (List ℕ) → Option (List ℕ)
earlier_top None b = b
earlier_top (Some l) None = Some l
earlier_top (Some l) (Some k) = Some (by_order (text_cmp l k) l l k)

-- the first top level of the parts of branches, and of one that was found
abbrev pub tops_of : Branches → Option (List ℕ) → Option (List ℕ)
tops_of done found = found
tops_of (branch k c rest) found = tops_of rest (earlier_top found (top_of c))

-- the first top level of a node's parts; none where all are truths
abbrev pub parts_top : Plain → Option (List ℕ)
parts_top t = tops_of (branches_of t) (top_of (rest_of t))

-- r may stand for the region c in all parts of a tree f at the level l
pub record StandsFor (l : List ℕ) (f c r : Plain) : Type 0 where
  pub reduced : IsReduced r
  pub not_above : is_above l r ≡ false
  pub parts : (ks : List (List ℕ)) (rs : Results) → Pieces l f r ks rs → Pieces l f c ks rs
  pub rest : (o : Option Plain) → Piece (rest_at l f) (rest_at l r) o → Piece (rest_at l f) (rest_at l c) o

-- whether a key is left out at once: its piece has no result, and where branches are carried the part before stands
abbrev pub left_out : Bool → Option Plain → Bool
left_out carried None = carried
left_out carried (Some t) = false

-- each other key with its piece's own result or, where it has none, with the part before, z before any
abbrev pub kept_results : Bool → Results → Plain → List (List ℕ × Plain)
kept_results carried [] z = []
kept_results carried (r ∷ rs) z = if left_out carried r.1 then kept_results carried rs z else (r.0, own_or r.1 z) ∷ kept_results carried rs (own_or r.1 z)

-- ---- as the code has them

-- pieces and their results, of trees
abbrev pub result_trees : List (Key × Option Tree) → Results
result_trees = results_view tree_view

-- parts of keys, of trees
abbrev pub part_trees : List (Key × Tree) → List (List ℕ × Plain)
part_trees = parts_view tree_view

-- a level put together from the results of its pieces
abbrev pub settled_tree : Level → List (Key × Option Tree) → Option Tree → Tree → Plain
settled_tree level results rest otherwise = settled_level (level_view level) (result_trees results) (option_map tree_view rest) (tree_view otherwise)

-- the union of all parts of a tree
abbrev pub union_parts : Plain → Plain
union_parts t = union_in (branches_of t) (rest_of t)

-- what stays of a region when its levels above another are taken away, if any is
abbrev pub IsLowered : Level → Tree → Option Tree → Type 0
IsLowered level region made = Lowered (level_view level) (tree_view region) (region_view tree_view made (tree_view region))

-- the earlier of two levels, where there are
abbrev pub earlier_level : Option Level → Option Level → Option (List ℕ)
earlier_level one other = earlier_top (option_map level_view one) (option_map level_view other)

-- what may stand for a region in all parts of a tree
abbrev pub StandsInParts : Level → Tree → Tree → Option Tree → Type 0
StandsInParts level tree region made = StandsFor (level_view level) (tree_view tree) (tree_view region) (region_view tree_view made (tree_view region))

-- a tree under a region becomes its level put together from these results of its pieces
abbrev pub SettlesAs : Level → Tree → Tree → List (Key × Option Tree) → Option Tree → Type 0
SettlesAs level tree region results rest =
    Simplifies (tree_view tree) (tree_view region)
    (settled_level (level_view level) (result_trees results) (option_map tree_view rest) (rest_at (level_view level) (tree_view tree)))

-- the results of pieces at keys of a level
abbrev pub PiecesAre : Level → Tree → Tree → List Key → List (Key × Option Tree) → Type 0
PiecesAre level tree region keys results = Pieces (level_view level) (tree_view tree) (tree_view region) (keys_view keys) (result_trees results)

-- the parts of keys that aren't left out at once
abbrev pub kept_trees : Bool → List (Key × Option Tree) → Tree → List (List ℕ × Plain)
kept_trees carried results first = kept_results carried (result_trees results) (tree_view first)

-- the part of the piece without a key: its own result, or else the nearest one before it
abbrev pub kept_rest : Bool → List (Key × Option Tree) → Option Tree → Tree → Plain
kept_rest carried results rest first = own_or (option_map tree_view rest) (latest carried (result_trees results) (tree_view first))

-- a level of these parts, in which nothing says the same twice
abbrev pub reduced_tree : Level → List (Key × Tree) → Tree → Plain
reduced_tree level parts other =
    let l = level_view level in
    let d = tree_view other in
    close l d (reduced_branches (carries l) (part_trees parts) d)
