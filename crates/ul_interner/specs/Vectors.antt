-- Worked examples.
use Rattle.std.specs.Prelude.{◌≡◌, ℕ, List, [], ◌∷◌, Some, None}
use mathlib.Core.Option.{some}
use Rattle.atomic_table.specs.Table.{State}
use Rattle.ul_core.specs.Core.{Core}
use Rattle.ul_core.specs.Trees.{tree_with}
use Rattle.ul_interner.specs.declared.views.View.{View}
use Rattle.ul_interner.specs.Marked.{Marked, mark_with, plain, id_of}
use Rattle.ul_interner.specs.Logs.{KnownIn}
use Rattle.ul_interner.specs.Index.{IsNewest}
use Rattle.ul_interner.specs.Rule.{Body, view}
use Rattle.ul_interner.specs.Laws.{Shows}

-- leaf 3, the first of shard 1. With it go leaf 5, the second of that shard, and a node 1 over 3, the first of shard 0
abbrev pub three : Marked ℕ
three = mark_with 3 1 0 3 []

-- leaf 5
abbrev pub five : Marked ℕ
five = mark_with 5 1 1 5 []

-- the node
abbrev pub over_three : Marked ℕ
over_three = mark_with 1 0 0 6364136223846793009 (three ∷ [])

-- a node over 3 that is told at another place
abbrev pub over_three_elsewhere : Marked ℕ
over_three_elsewhere = mark_with 1 0 1 6364136223846793009 (three ∷ [])

-- what a pass has seen
abbrev pub seen_logs : List (List (Marked ℕ))
seen_logs = (over_three ∷ []) ∷ (three ∷ five ∷ []) ∷ []

-- the same without leaf 3's shard
abbrev pub fewer_logs : List (List (Marked ℕ))
fewer_logs = (over_three ∷ []) ∷ [] ∷ []

-- known: a leaf, and a node with its part. Not known: a node of another place, a node whose part isn't there
pub record KnownVectors : Type 0 where
  pub leaf : KnownIn seen_logs five
  pub node : KnownIn seen_logs over_three
  pub elsewhere : ¬ KnownIn seen_logs over_three_elsewhere
  pub no_leaf : ¬ KnownIn fewer_logs five
  pub no_part : ¬ KnownIn fewer_logs over_three
  pub tree : plain over_three ≡ tree_with 1 (tree_with 3 [] ∷ [])
  pub id : id_of over_three ≡ (0, 0)

-- the buckets of five marks: the newest of bucket 7 among the first four stands at place 2, of which the place and one more is
-- told; among the first two at place 0; bucket 9 has none among the first four
pub record NewestVectors : Type 0 where
  pub later : IsNewest (7 ∷ 8 ∷ 7 ∷ 8 ∷ 9 ∷ []) 7 4 3
  pub earlier : IsNewest (7 ∷ 8 ∷ 7 ∷ 8 ∷ 9 ∷ []) 7 2 1
  pub none : IsNewest (7 ∷ 8 ∷ 7 ∷ 8 ∷ 9 ∷ []) 9 4 0
  pub not_older : ¬ IsNewest (7 ∷ 8 ∷ 7 ∷ 8 ∷ 9 ∷ []) 7 4 1
  pub not_another : ¬ IsNewest (7 ∷ 8 ∷ 7 ∷ 8 ∷ 9 ∷ []) 7 4 2
  pub not_missed : ¬ IsNewest (7 ∷ 8 ∷ 7 ∷ 8 ∷ 9 ∷ []) 9 5 0

-- a number is its own hash
abbrev pub itself : ℕ → ℕ
itself n = n

-- a table of one shard: a turn, a count, a body at home, and a view
abbrev pub one_shard : ℕ → ℕ → List (Marked ℕ) → View ℕ → State (Body ℕ) (View ℕ)
one_shard turn count body seat = record { words = turn ∷ count ∷ []; homes = some (Some body) ∷ []; views = seat ∷ [] }

-- leaf 4 of one shard
abbrev pub four : Marked ℕ
four = mark_with 4 0 0 4 []

-- the core that has leaf 4
abbrev pub core_with_four : Core ℕ
core_with_four = record { logs = (tree_with 4 [] ∷ []) ∷ []; claims = 0 }

-- the empty core
abbrev pub empty_core : Core ℕ
empty_core = record { logs = [] ∷ []; claims = 0 }

-- an empty table shows an empty core. No table shows a core that its count, its body or a view speaks against
pub record TableVectors : Type 0 where
  pub empty : Shows itself 1 (one_shard 0 0 [] (view ([] ∷ []) [] None [])) empty_core
  pub count_ahead : ¬ Shows itself 1 (one_shard 0 1 [] (view ([] ∷ []) [] None [])) empty_core
  pub count_behind : ¬ Shows itself 1 (one_shard 0 0 (four ∷ []) (view ([] ∷ []) [] None [])) core_with_four
  pub body_behind : ¬ Shows itself 1 (one_shard 0 1 [] (view ([] ∷ []) [] None [])) core_with_four
  pub view_ahead : ¬ Shows itself 1 (one_shard 0 0 [] (view ((four ∷ []) ∷ []) [] None [])) empty_core
