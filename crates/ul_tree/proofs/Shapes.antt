-- Trees by their variants, and the shape of a reduced node of the interpreter.
use Rattle.std.proofs.Common.{◌≡◌, ℕ, suc, zero, ◌<◌, List, [], ◌∷◌, map, length, get_or, refl, ap, arith, rules, Global, Vec, Box, String, string_bytes, Bool}
use Rattle.ul_comparison.specs.Atoms.{AtomFields}
use Rattle.ul_comparison.specs.declared.variable.Variable.{Variable}
use Rattle.ul_nodes.specs.Plain.{Plain, truth, node, done, branch}
use Rattle.ul_nodes.specs.Levels.{extra_level, python_level, text_level, atom_level}
use Rattle.ul_nodes.specs.Reduced.{IsReduced, FitsAll}
use Rattle.ul_nodes.specs.Keys.{branches_of, branch_count, branches_from}
use Rattle.ul_tree.specs.Views.{tree_view, points_view}
use Rattle.ul_nodes.specs.Closing.{pieces_of, python_of}
use Rattle.ul_tree.specs.declared.tree.Tree.{Tree, Truth, Extra, Python, Text, Opaque, the_lemmas}

pub view_truth : (b : Bool) → tree_view (Truth b) ≡ truth b
view_truth b = search (rules, the_lemmas)

pub view_extra : (points : Vec (String Global × Tree) Global) (other : Box Tree Global) → tree_view (Extra points other) ≡ node extra_level (tree_view other.value) (points_view points.items)
view_extra points other = search (rules, the_lemmas)

pub view_python : (starts : Vec ℕ Global) (parts : Vec Tree Global) → tree_view (Python starts parts) ≡ python_of starts.items (map tree_view parts.items)
view_python starts parts = search (rules, the_lemmas)

pub view_text : (variable : Variable) (points : Vec (String Global × Tree) Global) (other : Box Tree Global) → tree_view (Text variable points other) ≡ node (text_level variable) (tree_view other.value) (points_view points.items)
view_text variable points other = search (rules, the_lemmas)

pub view_opaque : (atom : AtomFields) (holds fails : Box Tree Global) → tree_view (Opaque atom holds fails) ≡ node (atom_level atom) (tree_view fails.value) (branch (1 ∷ []) (tree_view holds.value) done)
view_opaque atom holds fails = search (rules, the_lemmas)

-- ---- points

pub points_count : (ps : List (String Global × Tree)) → branch_count (points_view ps) ≡ length ps
points_count [] = refl
points_count (p ∷ ps) = ap suc (points_count ps)

pub points_from : (ps : List (String Global × Tree)) (i : ℕ) (d : String Global × Tree) → i < length ps
    → branches_from i (points_view ps) ≡ branch (string_bytes (get_or ps i d).0) (tree_view (get_or ps i d).1) (branches_from (suc i) (points_view ps))
points_from [] i d h = absurd (omega arith)
points_from (p ∷ ps) zero d h = refl
points_from (p ∷ ps) (suc i) d h = points_from ps i d (omega arith)

-- ---- pieces of the interpreter

pieces_even : (ss : List ℕ) (ts : List Tree) (d : Plain) → FitsAll (pieces_of ss (map tree_view ts)) python_level d → length ss ≡ length ts
pieces_even [] [] d h = refl
pieces_even [] (t ∷ ts) d h = let e = h.0.1 in cc
pieces_even (s ∷ ss) [] d h = let e = h.0.1 in cc
pieces_even (s ∷ ss) (t ∷ ts) d h = ap suc (pieces_even ss ts (tree_view t) h.4)

-- as many parts as starts, of which there is one at least
pub record HasPieces (ss : List ℕ) (ts : List Tree) : Type 0 where
  pub some : 0 < length ss
  pub even : length ss ≡ length ts

pub has_pieces : (ss : List ℕ) (ts : List Tree) → IsReduced (python_of ss (map tree_view ts)) → HasPieces ss ts
has_pieces [] ts h = absurd h.1
has_pieces (suc s ∷ ss) ts h = absurd h.1
has_pieces (zero ∷ ss) [] h = absurd h.1
has_pieces (zero ∷ ss) (t ∷ ts) h = record { some = omega arith; even = ap suc (pieces_even ss ts (tree_view t) h.3) }

pub pieces_count : (ss : List ℕ) (ts : List Tree) → IsReduced (python_of ss (map tree_view ts)) → suc (branch_count (branches_of (python_of ss (map tree_view ts)))) ≡ length ss
pieces_count [] ts h = absurd h.1
pieces_count (suc s ∷ ss) ts h = absurd h.1
pieces_count (zero ∷ ss) [] h = absurd h.1
pieces_count (zero ∷ ss) (t ∷ ts) h = ap suc (go ss ts (tree_view t) h.3)
  where
    go : (ss : List ℕ) (ts : List Tree) (d : Plain) → FitsAll (pieces_of ss (map tree_view ts)) python_level d → branch_count (pieces_of ss (map tree_view ts)) ≡ length ss
    go [] [] d h = refl
    go [] (t ∷ ts) d h = let e = h.0.1 in cc
    go (s ∷ ss) [] d h = let e = h.0.1 in cc
    go (s ∷ ss) (t ∷ ts) d h = ap suc (go ss ts (tree_view t) h.4)

pub pieces_from : (ss : List ℕ) (ts : List Tree) (i : ℕ) (d : Tree) → i < length ss → i < length ts
    → branches_from i (pieces_of ss (map tree_view ts)) ≡ branch (get_or ss i 0 ∷ []) (tree_view (get_or ts i d)) (branches_from (suc i) (pieces_of ss (map tree_view ts)))
pieces_from [] ts i d h g = absurd (omega arith)
pieces_from (s ∷ ss) [] i d h g = absurd (omega arith)
pieces_from (s ∷ ss) (t ∷ ts) zero d h g = refl
pieces_from (s ∷ ss) (t ∷ ts) (suc i) d h g = pieces_from ss ts i d (omega arith) (omega arith)

pub python_from : (ss : List ℕ) (ts : List Tree) (i : ℕ) (d : Tree) → IsReduced (python_of ss (map tree_view ts)) → suc i < length ss
    → branches_from i (branches_of (python_of ss (map tree_view ts))) ≡ branch (get_or ss (suc i) 0 ∷ []) (tree_view (get_or ts (suc i) d)) (branches_from (suc i) (branches_of (python_of ss (map tree_view ts))))
python_from [] ts i d h g = absurd h.1
python_from (suc s ∷ ss) ts i d h g = absurd h.1
python_from (zero ∷ ss) [] i d h g = absurd h.1
python_from (zero ∷ ss) (t ∷ ts) i d h g = let e = pieces_even ss ts (tree_view t) h.3 in pieces_from ss ts i d (omega arith) (omega arith)
