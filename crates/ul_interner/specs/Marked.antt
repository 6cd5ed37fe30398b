-- A mark as contracts see it: the tree below it, with each node's identity and hash beside its label.
use Rattle.std.specs.Prelude.{◌≡◌, ◌≢◌, ℕ, ◌+◌, ◌≤◌, List, map, max, refl, Some}
use Rattle.std.specs.List.{slice_get}
use Rattle.std.specs.Coded.{Coded, code_by, coded×, coded_ℕ}
use Rattle.std.proofs.Common.{arith}
use denote.Param.Weighed.{most}
use Rattle.ul_core.specs.declared.trees.Tree.{Tree}
use Rattle.ul_core.specs.declared.trees.Tree.TheOpen.{Tree-F}
use Rattle.ul_core.specs.declared.trees.Tree.TheViews.{out-Tree}
use Rattle.ul_core.specs.declared.trees.Tree.TheFolds.{fold-Tree}
use Rattle.ul_core.specs.Trees.{tree_with}
pub use Rattle.ul_core.specs.Trees.{parts_of}
use Rattle.ul_core.specs.Hashes.{tree_hash}
use Rattle.ul_core.specs.TreeCode.{tree_code, lighter}
pub use Rattle.ul_core.specs.TreeCode.{weight}

-- what stands at the node of a mark: its label, its identity, which is the number of its shard and the place in the shard's
-- log, and the structural hash that is stored with it
abbrev pub Node : Type 0 → Type 0
Node L = L × (ℕ × ℕ) × ℕ

-- a mark, as contracts see it
abbrev pub Marked : Type 0 → Type 0
Marked L = Tree (Node L)

-- how they are stored
abbrev pub node_code : {L : Type 0} → Coded L → Coded (Node L)
node_code {L} c =
    code_by (L × ((ℕ × ℕ) × ℕ)) (coded× c (coded× (coded× coded_ℕ coded_ℕ) coded_ℕ)) (λ n. (n.0, (n.1, n.2))) (λ p. (p.0, p.1.0, p.1.1)) (λ _. refl)

-- how marks are stored
abbrev pub marked_code : {L : Type 0} → Coded L → Coded (Marked L)
marked_code c = tree_code (node_code c)

module _ {L : Type 0} where
  -- the mark of a label, a shard, a place, a hash and parts
  abbrev pub mark_with : L → ℕ → ℕ → ℕ → List (Marked L) → Marked L
  mark_with l shard place hash ps = tree_with (l, (shard, place), hash) ps

  abbrev pub label_of : Marked L → L
  label_of m = (out-Tree (Node L) m).label.0

  abbrev pub id_of : Marked L → ℕ × ℕ
  id_of m = (out-Tree (Node L) m).label.1

  abbrev pub stored_hash : Marked L → ℕ
  stored_hash m = (out-Tree (Node L) m).label.2

  abbrev pub plain_step : Tree-F (Node L) (Tree L) → Tree L
  plain_step n = tree_with n.label.0 n.parts

  -- the tree of a mark, without identities and hashes
  abbrev pub plain : Marked L → Tree L
  plain = fold-Tree (Node L) (Tree L) plain_step

  -- the structural hash of a mark's tree
  abbrev pub hash_at : (L → ℕ) → Marked L → ℕ
  hash_at f m = tree_hash f (plain m)

  -- the mark has this label, and parts with the identities of these
  abbrev pub IsNode : L → List (Marked L) → Marked L → Type 0
  IsNode l ps m = (label_of m ≡ l) × (map id_of (parts_of m) ≡ map id_of ps)

  -- the mark has this label and these parts
  abbrev pub IsMade : L → List (Marked L) → Marked L → Type 0
  IsMade l ps m = (label_of m ≡ l) × (parts_of m ≡ ps)

  -- each mark of the list with this label and such parts has the hash stored
  abbrev pub HaveHash : L → List (Marked L) → ℕ → List (Marked L) → Type 0
  HaveHash l ps hash marks = (i : ℕ) (m : Marked L) → slice_get marks i ≡ Some m → IsNode l ps m → stored_hash m ≡ hash

  -- such a mark stands at the place
  abbrev pub StandsAt : L → List (Marked L) → List (Marked L) → ℕ → Type 0
  StandsAt l ps marks place = (m : Marked L) × (slice_get marks place ≡ Some m) × IsNode l ps m

  -- no such mark stands in the list
  abbrev pub HasNone : L → List (Marked L) → List (Marked L) → Type 0
  HasNone l ps marks = (i : ℕ) (m : Marked L) → slice_get marks i ≡ Some m → ¬ IsNode l ps m

  -- no mark of the list has the mark's tree
  abbrev pub IsFresh : List (Marked L) → Marked L → Type 0
  IsFresh marks x = (i : ℕ) (m : Marked L) → slice_get marks i ≡ Some m → plain m ≢ plain x

-- the parts of a mark are lighter than the mark, in the form that a recursion over a mark asks for
pub lighter_alone : {L : Type 0} → (l : L) (ps : List (Tree L)) → max (max (most (λ k. weight k + 1) ps) 0) 0 ≤ weight (tree_with l ps)
lighter_alone {L} l ps = omega (arith, lighter l ps)
