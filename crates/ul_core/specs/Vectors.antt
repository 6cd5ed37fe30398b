-- Worked values of the structural hash, and a worked run. Labels are numbers, each its own hash.
use Rattle.std.specs.Prelude.{◌≡◌, ℕ, ◌-◌, ◌^◌, List, [], ◌∷◌, Some, None, Ok, Err}
use Rattle.ul_core.specs.declared.trees.Tree.{Tree}
use Rattle.ul_core.specs.declared.events.Event.{Event}
use Rattle.ul_core.specs.declared.events.Event.TheVariants.{Publish, Claim}
use Rattle.ul_core.specs.declared.events.EventFault.TheVariants.{Shard, Known, Part, Full}
use Rattle.ul_core.specs.Hashes.{tree_hash}
use Rattle.ul_core.specs.Trees.{tree_with}
use Rattle.ul_core.specs.Core.{Core, first_core}
use Rattle.ul_core.specs.Steps.{Answer, Runs, Steps}

-- a tree with no parts
abbrev pub leaf : ℕ → Tree ℕ
leaf n = tree_with n []

-- a number is its own hash
abbrev pub itself : ℕ → ℕ
itself n = n

-- the structural hash of a tree of numbers
abbrev pub hash : Tree ℕ → ℕ
hash = tree_hash itself

-- worked values, computed by another program
pub record HashVectors : Type 0 where
  pub label_alone : hash (leaf 7) ≡ 7
  pub zeros : hash (tree_with 0 (leaf 0 ∷ [])) ≡ 1
  pub one_part : hash (tree_with 1 (leaf 2 ∷ [])) ≡ 6364136223846793008
  pub another_part : hash (tree_with 1 (leaf 8 ∷ [])) ≡ 6364136223846793014
  pub wraps : hash (tree_with 3 (leaf 5 ∷ [])) ≡ 645664597830827405
  pub greatest : hash (tree_with 18446744073709551615 (leaf 0 ∷ [])) ≡ 12082607849862758612
  pub two_parts : hash (tree_with 1 (leaf 2 ∷ leaf 3 ∷ [])) ≡ 8166562322141162356
  pub in_order : hash (tree_with 1 (leaf 3 ∷ leaf 2 ∷ [])) ≡ 14530698545987955360
  pub three_parts : hash (tree_with 1 (leaf 1 ∷ leaf 1 ∷ leaf 1 ∷ [])) ≡ 10117199216518333219
  pub deep : hash (tree_with 1 (tree_with 1 (leaf 2 ∷ []) ∷ [])) ≡ 12728272447693586014
  pub deep_and_flat : hash (tree_with 1 (tree_with 1 (leaf 1 ∷ []) ∷ leaf 1 ∷ [])) ≡ 15687460046451497307

-- a tree with a part, whose own shard is 0 of two
abbrev pub pair : Tree ℕ
pair = tree_with 1 (leaf 8 ∷ [])

-- on two shards: a tree, the tree again, a tree in another shard than its own, a claim, a tree whose part
-- is wanting, the part, the tree, and a claim
abbrev pub worked_events : List (Event ℕ)
worked_events =
    Publish 1 (leaf 7)
    ∷ Publish 1 (leaf 7)
    ∷ Publish 0 (leaf 9)
    ∷ Claim
    ∷ Publish 0 pair
    ∷ Publish 0 (leaf 8)
    ∷ Publish 0 pair
    ∷ Claim
    ∷ []

-- what each of them is answered
abbrev pub worked_answers : List Answer
worked_answers = Ok None ∷ Err Known ∷ Err Shard ∷ Ok (Some 0) ∷ Err Part ∷ Ok None ∷ Ok None ∷ Ok (Some 1) ∷ []

-- the core that they leave
abbrev pub worked_core : Core ℕ
worked_core = record { logs = (leaf 8 ∷ pair ∷ []) ∷ (leaf 7 ∷ []) ∷ []; claims = 2 }

-- the core whose numbers are all drawn
abbrev pub spent_core : Core ℕ
spent_core = record { logs = [] ∷ []; claims = 2 ^ 64 - 1 }

-- the worked run, and the claim that is refused where all numbers are drawn
pub record RunVectors : Type 0 where
  pub in_turn : Runs itself (first_core 2) worked_events worked_answers worked_core
  pub full : Steps itself spent_core Claim (Err Full) spent_core
