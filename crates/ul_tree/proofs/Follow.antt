-- The first path of a tree, arm by arm.
use Rattle.std.proofs.Common.{◌≡◌, ℕ, List, [], ◌∷◌, true, false, refl, ap, sym, ◌∙◌, subst, Some, None, Result, Ok, Err, IfOk}
use Rattle.ul_comparison.specs.Atoms.{AtomFields}
use Rattle.ul_comparison.specs.Worlds.{WorldFields}
use Rattle.ul_tree.specs.FirstParts.{is_false, first_branch}
use Rattle.ul_nodes.specs.Levels.{python_level, atom_level}
use Rattle.ul_nodes.specs.Plain.{Plain, node, Branches, done, branch, carries}
use Rattle.ul_nodes.specs.Reduced.{Fits}
use Rattle.ul_tree.specs.Sample.{with_level, beside, sample_from}
use Rattle.ul_tree.specs.Views.{tree_view, points_view, pieces_view}
use Rattle.ul_nodes.specs.Closing.{python_of}
use Rattle.ul_tree.specs.declared.tree.Tree.{Tree}
use Rattle.std.proofs.Common.{map, ◌+◌, ◌<◌, length, drop, get_or, Global, String, string_bytes}
use Rattle.std.specs.Prelude.{if◌then◌else◌}
use Rattle.ul_tree.proofs.Rebuilt.{points_left}
use Rattle.ul_tree.proofs.NextParts.{GoesOn, point_goes_on, other_goes_on, piece_goes_on, holds_goes_on, fails_goes_on}

pub by_point : (t : Plain) (b l : List ℕ) (d : Plain) (bs : Branches) → Fits t b → t ≡ node l d bs → carries l ≡ false → (k : List ℕ) (c : Plain) → Some (k, c) ≡ first_branch bs → GoesOn t l k c
by_point t b l d bs f e m k c q = subst (λ (z : Plain). GoesOn z l k c) (sym e) (point_goes_on l b d bs m (subst (λ (z : Plain). Fits z b) e f) k c q)

pub by_other : (t : Plain) (b l : List ℕ) (d : Plain) (bs : Branches) → Fits t b → t ≡ node l d bs → carries l ≡ false → None ≡ first_branch bs → GoesOn t l (beside l bs) d
by_other t b l d bs f e m q = subst (λ (z : Plain). GoesOn z l (beside l bs) d) (sym e) (other_goes_on l b d bs m (subst (λ (z : Plain). Fits z b) e f) q)

pub by_piece : (t : Plain) (b starts : List ℕ) (parts : List Tree) → Fits t b → t ≡ python_of starts (map tree_view parts) → (k : List ℕ) (c : Plain) → Some (k, c) ≡ first_branch (pieces_view starts parts) → GoesOn t python_level k c
by_piece t b starts parts f e k c q =
    subst (λ (z : Plain). GoesOn z python_level k c) (sym e) (piece_goes_on starts (map tree_view parts) b (subst (λ (z : Plain). Fits z b) e f) k c q)

pub by_yes : (t : Plain) (b : List ℕ) (a : AtomFields) (c d : Plain) → Fits t b → t ≡ node (atom_level a) d (branch (1 ∷ []) c done) → is_false c ≡ false → GoesOn t (atom_level a) (1 ∷ []) c
by_yes t b a c d f e q = subst (λ (z : Plain). GoesOn z (atom_level a) (1 ∷ []) c) (sym e) (holds_goes_on (atom_level a) b c d refl (subst (λ (z : Plain). Fits z b) e f) q)

pub by_no : (t : Plain) (b : List ℕ) (a : AtomFields) (c d : Plain) → Fits t b → t ≡ node (atom_level a) d (branch (1 ∷ []) c done) → is_false c ≡ true → GoesOn t (atom_level a) (0 ∷ []) d
by_no t b a c d f e q = subst (λ (z : Plain). GoesOn z (atom_level a) (0 ∷ []) d) (sym e) (fails_goes_on (atom_level a) b c d refl (subst (λ (z : Plain). Fits z b) e f) q)

-- the world of the part is that of the tree
pub world_goes_on : (t : Plain) (l v : List ℕ) (c : Plain) → GoesOn t l v c → (w u : WorldFields) → u ≡ with_level l v w → sample_from u c ≡ sample_from w t
world_goes_on t l v c o w u e = ap (λ z. sample_from z c) e ∙ sym (o.sample w)

pub if_ok_along : {A E : Type 0} (r : Result A E) (a b c : WorldFields) → IfOk r (λ _. a ≡ b) → b ≡ c → IfOk r (λ _. a ≡ c)
if_ok_along (Ok x) a b c h e = h ∙ e
if_ok_along (Err x) a b c h e = tt

-- the next point is the first whose part isn't false, or its part is false
pub point_met : (ps : List (String Global × Tree)) (i : ℕ) (p : String Global × Tree) → i < length ps → p ≡ get_or ps i p → is_false (tree_view p.1) ≡ false → first_branch (points_view (drop i ps)) ≡ Some (string_bytes p.0, tree_view p.1)
point_met ps i p h is e = ap first_branch (points_left ps i p h is) ∙ ap (λ b. if b then first_branch (points_view (drop (i + 1) ps)) else Some (string_bytes p.0, tree_view p.1)) e

pub point_passed : (ps : List (String Global × Tree)) (i : ℕ) (p : String Global × Tree) → i < length ps → p ≡ get_or ps i p → is_false (tree_view p.1) ≡ true
    → first_branch (points_view (drop (i + 1) ps)) ≡ first_branch (points_view (drop i ps))
point_passed ps i p h is e = sym (ap first_branch (points_left ps i p h is) ∙ ap (λ b. if b then first_branch (points_view (drop (i + 1) ps)) else Some (string_bytes p.0, tree_view p.1)) e)
