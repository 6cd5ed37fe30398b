-- What holds of all trees over environments.
use Rattle.std.specs.Prelude.{ℕ, suc, ◌+◌, List, Bool, true, false, not, ◌≡◌, All}
use Rattle.std.specs.List.{list_all}
use Rattle.std.specs.Char.{is_ascii}
use Rattle.ul_comparison.specs.Worlds.{WorldFields, IsWorld}
use Rattle.ul_nodes.specs.Plain.{Plain, truth}
use Rattle.ul_nodes.specs.Levels.{IsExtra, extra_level}
use Rattle.ul_nodes.specs.Reduced.{IsReduced}
use Rattle.ul_nodes.specs.Apply.{apply, part_at, both, either, size}
use Rattle.ul_tree.specs.Values.{tree_holds}

-- a text of ASCII
abbrev pub IsAsciiText : List ℕ → Type 0
IsAsciiText text = list_all is_ascii text ≡ true

-- one truth, one tree: two reduced trees that hold at the same worlds and extras are equal, also where the
-- worlds' texts are ASCII alone
abbrev pub OneTruthOneTree : Type 0
OneTruthOneTree = (s t : Plain) → IsReduced s → IsReduced t
    → ((w : WorldFields) (x : List ℕ) → IsWorld w → All IsAsciiText w.texts → IsExtra x → tree_holds s w x ≡ tree_holds t w x) → s ≡ t

-- two trees joined part by part
abbrev pub joined_by : (Bool → Bool → Bool) → Plain → Plain → Plain
joined_by op a b = apply op (suc (size a + size b)) a b

-- the tree that is true where both are
abbrev pub and_of : Plain → Plain → Plain
and_of = joined_by both

-- the tree that is true where one is
abbrev pub or_of : Plain → Plain → Plain
or_of = joined_by either

-- the tree that is true where the other is not
abbrev pub not_of : Plain → Plain
not_of a = joined_by (λ x y. not x) a (truth false)

-- the part of an extra
abbrev pub at_extra_of : Plain → List ℕ → Plain
at_extra_of a x = part_at extra_level x a

-- joined trees, and a tree at an extra, are reduced and have the truth that is asked for
pub record Operations : Type 0 where
  pub join_reduced : (op : Bool → Bool → Bool) (a b : Plain) → IsReduced a → IsReduced b → IsReduced (joined_by op a b)
  pub join_truth : (op : Bool → Bool → Bool) (a b : Plain) → IsReduced a → IsReduced b → (w : WorldFields) (x : List ℕ) → tree_holds (joined_by op a b) w x ≡ op (tree_holds a w x) (tree_holds b w x)
  pub extra_reduced : (a : Plain) (x : List ℕ) → IsReduced a → IsReduced (at_extra_of a x)
  pub extra_truth : (a : Plain) (x : List ℕ) → IsReduced a → (w : WorldFields) (y : List ℕ) → tree_holds (at_extra_of a x) w y ≡ tree_holds a w x
