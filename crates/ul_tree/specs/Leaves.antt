-- Trees of one comparison.
use Rattle.std.specs.Prelude.{ℕ, List, Bool, not}
use Rattle.ul_nodes.specs.Plain.{Plain, truth, node, Branches, done, branch}

-- the branch of a key alone
abbrev pub point_of : List ℕ → Bool → Branches
point_of key asked = branch key (truth asked) done

-- a truth where the level has this key, and its negation elsewhere
abbrev pub point_tree : List ℕ → List ℕ → Bool → Plain
point_tree level key asked = node level (truth (not asked)) (point_of key asked)
