-- The plain state of the core: one log of trees per shard, and the claim number.
use Rattle.std.specs.Prelude.{ℕ, ◌%◌, List, [], length, slice_index_or, replicate, map, refl}
use Rattle.std.specs.Global.{Vec}
use Rattle.std.specs.Coded.{Coded, code_by, coded×, coded_list, coded_ℕ}
use Rattle.ul_core.specs.declared.trees.Tree.{Tree}
use Rattle.ul_core.specs.Hashes.{tree_hash}
use Rattle.ul_core.specs.TreeCode.{tree_code}
use Rattle.ul_core.specs.Trees.{Has, parts_of}

-- log k has the trees of shard k in the order of their publication
pub record Core (L : Type 0) : Type 0 where
  pub logs : List (List (Tree L))
  pub claims : ℕ

-- a core is stored as the pair of its fields
abbrev pub core_code : {L : Type 0} → Coded L → Coded (Core L)
core_code {L} c =
    code_by (List (List (Tree L)) × ℕ) (coded× (coded_list (coded_list (tree_code c))) coded_ℕ) (λ s. (s.logs, s.claims)) (λ p. record { logs = p.0; claims = p.1 }) (λ _. refl)

module _ {L : Type 0} where
  -- the core of a list of logs and a claim number
  abbrev pub core_of : List (Vec (Tree L)) → ℕ → Core L
  core_of logs claims = record { logs = map (λ v. v.items) logs; claims = claims }

  -- the core as it begins: empty logs, and claim number 0
  abbrev pub first_core : ℕ → Core L
  first_core shards = record { logs = replicate shards []; claims = 0 }

  -- the log of a shard; beyond the shards there is none, so it is empty
  abbrev pub log_of : Core L → ℕ → List (Tree L)
  log_of s k = slice_index_or s.logs k []

  -- a tree's own shard: its structural hash modulo the number of shards
  abbrev pub shard_of : (L → ℕ) → Core L → Tree L → ℕ
  shard_of f s t = tree_hash f t % length s.logs

  -- the tree stands in the log of its own shard
  abbrev pub Stands : (L → ℕ) → Core L → Tree L → Type 0
  Stands f s t = Has (log_of s (shard_of f s t)) t

  -- the tree is a part of the other one
  abbrev pub IsPart : Tree L → Tree L → Type 0
  IsPart p t = Has (parts_of t) p
