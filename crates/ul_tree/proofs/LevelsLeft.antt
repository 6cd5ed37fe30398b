-- The levels that are left where a region's levels are taken away from the top: fewer each time.
use Rattle.std.proofs.Common.{◌≡◌, ◌<◌, ℕ, suc, List, [], true, arith, sym, subst}
use Rattle.ul_nodes.specs.Plain.{Plain, truth, node}
use Rattle.ul_nodes.specs.Reduced.{IsReduced, Fits}
use Rattle.ul_nodes.specs.Keys.{rest_of, branches_of}
use Rattle.ul_tree.specs.Simplify.{union_in}
use Rattle.ul_tree.specs.SimplifyViews.{is_above}
use Rattle.ul_tree.proofs.Exists.{Among, among, among_union, later, later_less, levels}
use Rattle.ul_tree.proofs.Unions.{union_fits}

-- all levels of a tree are levels of a region
unfoldable pub HasLevelsOf : Plain → Plain → Type 0
HasLevelsOf c r = Among (levels c []) r

-- how many levels of a region stand from a tree's top on
unfoldable pub levels_left : Plain → Plain → ℕ
levels_left c (truth b) = 0
levels_left c (node k d bs) = suc (later k (levels c []))

pub has_own_levels : (c : Plain) → HasLevelsOf c c
unfolding HasLevelsOf
has_own_levels c = among c []

-- the union of the parts has no other levels
pub union_has_levels : (c r u : Plain) → HasLevelsOf c r → u ≡ union_in (branches_of r) (rest_of r) → HasLevelsOf c u
unfolding HasLevelsOf
union_has_levels c (truth b) u h e = subst (Among (levels c [])) (sym e) h
union_has_levels c (node k d bs) u h e = subst (Among (levels c [])) (sym e) (among_union bs (levels c []) d h.2 h.1)

falls : (c : Plain) (k : List ℕ) (u : Plain) → Fits u k → HasLevelsOf c u → levels_left c u < suc (later k (levels c []))
unfolding HasLevelsOf levels_left
falls c k (truth b) x h = omega arith
falls c k (node j e cs) x h = let p = later_less k j (levels c []) x.0 h.0 in omega (arith, p)

-- and one level fewer is left
pub union_leaves_fewer : (l : List ℕ) (c r u : Plain) → IsReduced r → HasLevelsOf c r → is_above l r ≡ true → u ≡ union_in (branches_of r) (rest_of r) → levels_left c u < levels_left c r
unfolding levels_left
union_leaves_fewer l c (truth b) u x h above e = cc
union_leaves_fewer l c (node k d bs) u x h above e =
    falls c k u (subst (λ (z : Plain). Fits z k) (sym e) (union_fits bs k d d x.3 x.2)) (union_has_levels c (node k d bs) u h e)
