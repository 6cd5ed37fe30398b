-- What the makers of nodes answer.
use Rattle.std.specs.Prelude.{◌≡◌, ℕ, List, [], ◌∷◌, map, Bool, true, false, Option, Some, None, Vec}
use Rattle.std.specs.Borrow.{Bor}
use Rattle.std.specs.Str.{bytes_eq}
use Rattle.std.specs.declared.alloc.Global.{Global}
use Rattle.ul_marker.specs.declared.printed.Comparison.{Comparison}
use Rattle.ul_tree.specs.Joins.{trees_made}
use Rattle.ul_nodes.specs.Keys.{key_view, has_kind, KeysOf}
use Rattle.ul_nodes.specs.Levels.{IsKey}
use Rattle.ul_tree.specs.PathLaws.{step_level}
use Rattle.ul_tree.specs.PathList.{interval, point, others}
use Rattle.ul_nodes.specs.Plain.{Plain, Branches}
use Rattle.ul_nodes.specs.declared.level.Key.{Key}
use Rattle.ul_tree.specs.declared.tree.Tree.{Tree}
use Rattle.ul_marker_text.specs.Nodes.{Part, AreKeys}
use Rattle.ul_marker_text.specs.StepViews.{comparison_key}

-- a key of the code stands for a key of a level
pub record IsKeyOf (level key : List ℕ) (found : Key) : Type 0 where
  pub view : key_view found ≡ key
  pub kind : has_kind level found ≡ true
  pub valid : IsKey level key

-- the key of the code, where there is one of the level
abbrev pub KeyAnswer : List ℕ → List ℕ → Option Key → Type 0
KeyAnswer level key None = IsKey level key → ⊥
KeyAnswer level key (Some found) = IsKeyOf level key found

-- branches of the code stand for branches with keys of a level
pub record AreKeysIn (level : List ℕ) (branches : Branches) (made : List (Key × Tree)) : Type 0 where
  pub view : trees_made made ≡ branches
  pub kinds : KeysOf level made
  pub valid : AreKeys level branches

-- the branches of the code, where all keys are of the level
abbrev pub KeysAnswer : List ℕ → Branches → Option (Vec (Key × Tree) Global) → Type 0
KeysAnswer level branches None = AreKeys level branches → ⊥
KeysAnswer level branches (Some made) = AreKeysIn level branches made.items

-- the level of the first part
abbrev pub first_level : List Part → Option (List ℕ)
first_level [] = None
first_level (p ∷ parts) = Some (step_level p.0)

-- whether the first part is at an interval
abbrev pub has_interval : List Part → Bool
has_interval [] = false
has_interval ((interval start end, p) ∷ parts) = true
has_interval ((point level key, p) ∷ parts) = false
has_interval ((others level keys, p) ∷ parts) = false

-- whether the first part is at a point with this key
abbrev pub has_point : List ℕ → List Part → Bool
has_point key [] = false
has_point key ((interval start end, p) ∷ parts) = false
has_point key ((point level found, p) ∷ parts) = bytes_eq key found
has_point key ((others level keys, p) ∷ parts) = false

-- the keys of the other part
abbrev pub keys_of_other : Option (List (List ℕ) × Plain) → Option (List (List ℕ))
keys_of_other None = None
keys_of_other (Some other) = Some other.0

-- the keys of a comparison and of those after it
abbrev pub others_view : Option (Comparison × Bor (List Comparison)) → Option (List (List ℕ))
others_view None = None
others_view (Some found) = Some (comparison_key found.0 ∷ map comparison_key found.1.now)

-- the literal of a comparison, where it has one; else its key stands for that it holds
abbrev pub LiteralAnswer : List ℕ → Option (Bor (List ℕ)) → Type 0
LiteralAnswer key None = key ≡ 1 ∷ []
LiteralAnswer key (Some text) = text.now ≡ key
