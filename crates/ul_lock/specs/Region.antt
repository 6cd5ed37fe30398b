-- Parts of all worlds, as trees.
use Rattle.std.specs.Prelude.{◌≡◌, ◌≢◌, Bool, true, false}
use Rattle.ul_nodes.specs.Apply.{leaf_truth}
use Rattle.ul_nodes.specs.Plain.{Plain, truth}
use Rattle.ul_nodes.specs.Reduced.{IsReduced}
use Rattle.ul_tree.specs.Sample.{asks_extra}

-- all worlds
abbrev pub all_worlds : Plain
all_worlds = truth true

-- whether the tree is the one that is true at all worlds
abbrev pub is_true : Plain → Bool
is_true t = leaf_truth t

-- the tree of a part of all worlds: reduced, not false, and it asks for no extra
pub record IsRegion (t : Plain) : Type 0 where
  pub reduced : IsReduced t
  pub not_false : t ≢ truth false
  pub no_extra : asks_extra t ≡ false
