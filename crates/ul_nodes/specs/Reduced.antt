-- Trees whose levels, keys and parts are in order, with nothing that says the same twice.
use Rattle.std.specs.Prelude.{ℕ, List, [], ◌≡◌, Option, Some, None}
use Rattle.std.specs.declared.cmp.Ordering.TheVariants.{Less}
use Rattle.ul_nodes.specs.Plain.{Plain, truth, node, Branches, done, branch, text_cmp, carries, carried_part}
use Rattle.ul_nodes.specs.Levels.{IsKey}

-- a key comes after another, if there is another
abbrev pub IsAfter : Option (List ℕ) → List ℕ → Type 0
IsAfter None v = Unit {0}
IsAfter (Some k) v = text_cmp k v ≡ Less

-- the first branch comes after a key
abbrev pub StartsAfter : Option (List ℕ) → Branches → Type 0
StartsAfter b done = Unit {0}
StartsAfter b (branch k c rest) = IsAfter b k

-- there is a branch
abbrev pub HasBranch : Branches → Type 0
HasBranch done = ⊥
HasBranch (branch k c rest) = Unit {0}

abbrev mutual
  -- reduced, with every level after l: a node has a branch, and each branch a key of its level, after the one
  -- before, and a part that differs from the one that stands before it (at the interpreter) or from the node's
  -- other part (elsewhere)
  pub Fits : Plain → List ℕ → Type 0
  Fits (truth b) l = Unit {0}
  Fits (node k d bs) l = (text_cmp l k ≡ Less) × HasBranch bs × Fits d k × FitsAll bs k d

  pub FitsAll : Branches → List ℕ → Plain → Type 0
  FitsAll done l d = Unit {0}
  FitsAll (branch k c rest) l d = IsKey l k × StartsAfter (Some k) rest × Fits c l × (c ≡ d → ⊥) × FitsAll rest l (carried_part (carries l) c d)

-- ordered and reduced
abbrev pub IsReduced : Plain → Type 0
IsReduced t = Fits t []
