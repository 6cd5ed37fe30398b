-- One level of a diagram, by its label.
use Rattle.std.proofs.Common.{◌≡◌, ℕ, zero, suc, ◌<◌, List, [], ◌∷◌, map, length, get_or, refl, ap, sym, ◌∙◌, subst, arith, Bool, true, false, Some, None}
use Rattle.std.specs.List.{slice_get}
use Rattle.std.proofs.lemmas.List.{length-map}
use Rattle.ul_interner.specs.Marked.{label_of, parts_of}
use Rattle.ul_nodes.specs.Levels.{python_level}
use Rattle.ul_nodes.specs.Plain.{Plain, truth, Branches, done, branch}
use Rattle.ul_nodes.specs.Reduced.{IsReduced, Fits}
use Rattle.ul_nodes.specs.Apply.{keys, leaf_truth, truth_value}
use Rattle.ul_tree.specs.FirstParts.{is_false}
use Rattle.ul_nodes.specs.Keys.{top_of, rest_of, branches_of, branch_count, branches_from, is_key_of}
use Rattle.ul_nodes.specs.declared.level.Key.TheVariants.{Number}
use Rattle.ul_nodes.specs.Closing.{python_of, pieces_of}
use Rattle.ul_algebra.specs.declared.labels.DiagramLabel.{DiagramLabel}
use Rattle.ul_algebra.specs.declared.labels.DiagramLabel.TheVariants.{Truth}
use Rattle.ul_algebra.specs.Made.{Seen}
use Rattle.ul_algebra.specs.Spelled.{other_of, branches_by, keyed_node, spelling, tree_of}
use Rattle.ul_algebra.proofs.Decoded.{tree_is, keyed_shape, pieces_shape}

some_is : (a b : Seen) → Some a ≡ Some b → a ≡ b
some_is a b e = cc

none_is : (a : Seen) → None ≡ Some a → ⊥
none_is a e = cc

-- a diagram's tree, by its label
pub tree_as : (m : Seen) (l : DiagramLabel) → l ≡ label_of m → tree_of m ≡ spelling l (map tree_of (parts_of m))
tree_as m l e = tree_is m ∙ ap (λ z. spelling z (map tree_of (parts_of m))) (sym e)

pub reduced_as : (m : Seen) (l : DiagramLabel) → l ≡ label_of m → IsReduced (tree_of m) → IsReduced (spelling l (map tree_of (parts_of m)))
reduced_as m l e h = subst (λ (z : Plain). IsReduced z) (tree_as m l e) h

-- ---- a truth

truth_alone : (b : Bool) (ps : List Plain) → IsReduced (spelling (Truth b) ps) → spelling (Truth b) ps ≡ truth b
truth_alone b [] h = refl
truth_alone b (p ∷ ps) h = absurd h.1

pub truth_is : (m : Seen) (b : Bool) → Truth b ≡ label_of m → IsReduced (tree_of m) → tree_of m ≡ truth b
truth_is m b e h = tree_as m (Truth b) e ∙ truth_alone b (map tree_of (parts_of m)) (reduced_as m (Truth b) e h)

-- ---- points, and an opaque comparison

count_keys : (bs : Branches) → branch_count bs ≡ length (keys bs)
count_keys done = refl
count_keys (branch k c rest) = ap suc (count_keys rest)

pub keyed_count : (l : List ℕ) (ks : List (List ℕ)) (ps : List Plain) → IsReduced (keyed_node l ks ps) → branch_count (branches_by ks ps) ≡ length ks
keyed_count l ks ps h = let s = keyed_shape ks ps l h.2 in count_keys (branches_by ks ps) ∙ ap length s.keys

-- as many parts as keys, and one more
pub keyed_parts : (l : List ℕ) (ks : List (List ℕ)) (ms : List Seen) → IsReduced (keyed_node l ks (map tree_of ms)) → length ms ≡ suc (length ks)
keyed_parts l ks ms h = let s = keyed_shape ks (map tree_of ms) l h.2 in sym (length-map ms tree_of) ∙ s.count

other_at : (ks : List (List ℕ)) (ms : List Seen) (r : Seen) (l : List ℕ) → Fits (other_of ks (map tree_of ms)) l → slice_get ms (length ks) ≡ Some r → tree_of r ≡ other_of ks (map tree_of ms)
other_at [] [] r l h e = absurd h.1
other_at [] (m ∷ []) r l h e = ap tree_of (sym (some_is m r e))
other_at [] (m ∷ n ∷ ms) r l h e = absurd h.1
other_at (k ∷ ks) [] r l h e = absurd h.1
other_at (k ∷ ks) (m ∷ ms) r l h e = other_at ks ms r l h e

pub keyed_other : (l : List ℕ) (ks : List (List ℕ)) (ms : List Seen) (r : Seen) → IsReduced (keyed_node l ks (map tree_of ms)) → slice_get ms (length ks) ≡ Some r → tree_of r ≡ other_of ks (map tree_of ms)
keyed_other l ks ms r h e = other_at ks ms r l h.2 e

pub keyed_from : (ks : List (List ℕ)) (ms : List Seen) (i : ℕ) (r : Seen) → i < length ks → slice_get ms i ≡ Some r
    → branches_from i (branches_by ks (map tree_of ms)) ≡ branch (get_or ks i []) (tree_of r) (branches_from (suc i) (branches_by ks (map tree_of ms)))
keyed_from [] ms i r h e = absurd (omega arith)
keyed_from (k ∷ ks) [] i r h e = absurd (none_is r e)
keyed_from (k ∷ ks) (m ∷ ms) zero r h e = ap (λ z. branch k (tree_of z) (branches_by ks (map tree_of ms))) (some_is m r e)
keyed_from (k ∷ ks) (m ∷ ms) (suc i) r h e = keyed_from ks ms i r (omega arith) e

-- ---- pieces of the interpreter

pub python_top : (ss : List ℕ) (ps : List Plain) → top_of (python_of ss ps) ≡ Some python_level
python_top [] ps = refl
python_top (suc s ∷ ss) ps = refl
python_top (zero ∷ ss) [] = refl
python_top (zero ∷ ss) (p ∷ ps) = refl

pub python_known : (ss : List ℕ) (ps : List Plain) → leaf_truth (python_of ss ps) ≡ false
python_known [] ps = refl
python_known (suc s ∷ ss) ps = refl
python_known (zero ∷ ss) [] = refl
python_known (zero ∷ ss) (p ∷ ps) = refl

pub python_value : (ss : List ℕ) (ps : List Plain) → truth_value (python_of ss ps) ≡ None
python_value [] ps = refl
python_value (suc s ∷ ss) ps = refl
python_value (zero ∷ ss) [] = refl
python_value (zero ∷ ss) (p ∷ ps) = refl

pub python_no_truth : (ss : List ℕ) (ps : List Plain) → is_false (python_of ss ps) ≡ false
python_no_truth [] ps = refl
python_no_truth (suc s ∷ ss) ps = refl
python_no_truth (zero ∷ ss) [] = refl
python_no_truth (zero ∷ ss) (p ∷ ps) = refl

-- as many parts as starts, of which there is one at least
pub record PythonShape (ss : List ℕ) (ms : List Seen) : Type 0 where
  pub some : 0 < length ss
  pub even : length ms ≡ length ss
  pub count : suc (branch_count (branches_of (python_of ss (map tree_of ms)))) ≡ length ss

count_pieces : (ss : List ℕ) (ps : List Plain) → length ps ≡ length ss → branch_count (pieces_of ss ps) ≡ length ss
count_pieces [] [] h = refl
count_pieces [] (p ∷ ps) h = absurd (omega arith)
count_pieces (s ∷ ss) [] h = absurd (omega arith)
count_pieces (s ∷ ss) (p ∷ ps) h = ap suc (count_pieces ss ps (omega arith))

pub python_shape : (ss : List ℕ) (ms : List Seen) → IsReduced (python_of ss (map tree_of ms)) → PythonShape ss ms
python_shape [] ms h = absurd h.1
python_shape (suc s ∷ ss) ms h = absurd h.1
python_shape (zero ∷ ss) [] h = absurd h.1
python_shape (zero ∷ ss) (m ∷ ms) h =
    let s = pieces_shape ss (map tree_of ms) (tree_of m) h.3 in
    record {
      some = omega arith;
      even = ap suc (sym (length-map ms tree_of) ∙ s.count);
      count = ap suc (count_pieces ss (map tree_of ms) s.count);
    }

pub python_rest : (ss : List ℕ) (ms : List Seen) (r : Seen) → IsReduced (python_of ss (map tree_of ms)) → slice_get ms 0 ≡ Some r → tree_of r ≡ rest_of (python_of ss (map tree_of ms))
python_rest [] ms r h e = absurd h.1
python_rest (suc s ∷ ss) ms r h e = absurd h.1
python_rest (zero ∷ ss) [] r h e = absurd h.1
python_rest (zero ∷ ss) (m ∷ ms) r h e = ap tree_of (sym (some_is m r e))

pieces_from : (ss : List ℕ) (ms : List Seen) (i : ℕ) (r : Seen) → i < length ss → slice_get ms i ≡ Some r
    → branches_from i (pieces_of ss (map tree_of ms)) ≡ branch (get_or ss i 0 ∷ []) (tree_of r) (branches_from (suc i) (pieces_of ss (map tree_of ms)))
pieces_from [] ms i r h e = absurd (omega arith)
pieces_from (s ∷ ss) [] i r h e = absurd (none_is r e)
pieces_from (s ∷ ss) (m ∷ ms) zero r h e = ap (λ z. branch (s ∷ []) (tree_of z) (pieces_of ss (map tree_of ms))) (some_is m r e)
pieces_from (s ∷ ss) (m ∷ ms) (suc i) r h e = pieces_from ss ms i r (omega arith) e

pub python_from : (ss : List ℕ) (ms : List Seen) (i : ℕ) (r : Seen) → IsReduced (python_of ss (map tree_of ms)) → suc i < length ss → slice_get ms (suc i) ≡ Some r
    → branches_from i (branches_of (python_of ss (map tree_of ms))) ≡ branch (get_or ss (suc i) 0 ∷ []) (tree_of r) (branches_from (suc i) (branches_of (python_of ss (map tree_of ms))))
python_from [] ms i r h l e = absurd h.1
python_from (suc s ∷ ss) ms i r h l e = absurd h.1
python_from (zero ∷ ss) [] i r h l e = absurd h.1
python_from (zero ∷ ss) (m ∷ ms) i r h l e = pieces_from ss ms i r (omega arith) e

pub python_key : (ss : List ℕ) (ps : List Plain) (n : ℕ) → is_key_of (python_of ss ps) (Number n) ≡ true
python_key [] ps n = refl
python_key (suc s ∷ ss) ps n = refl
python_key (zero ∷ ss) [] n = refl
python_key (zero ∷ ss) (p ∷ ps) n = refl
