-- The logs of the interner: marks, where the core has trees. What a pass has seen of them, and which marks it knows.
use Rattle.std.specs.Prelude.{◌≡◌, ℕ, ◌<◌, ◌++◌, List, [], map, length, slice_index_or, Some}
use Rattle.std.specs.List.{slice_get}
use Rattle.ul_core.specs.declared.events.Event.{Event}
use Rattle.ul_core.specs.declared.trees.Tree.TheOpen.{Tree-F}
use Rattle.ul_core.specs.declared.trees.Tree.TheViews.{roll-Tree}
use Rattle.ul_core.specs.declared.trees.Tree.TheFolds.{every-Tree}
use Rattle.ul_core.specs.Core.{Core, first_core}
use Rattle.ul_core.specs.Steps.{Answer, Runs}
use Rattle.ul_core.specs.Trees.{Has, parts_of}
use Rattle.ul_interner.specs.Marked.{Node, Marked, id_of, stored_hash, plain, hash_at}

module _ {A : Type 0} where
  -- the log of a shard; beyond the shards there is none, so it is empty
  abbrev pub at : List (List A) → ℕ → List A
  at logs k = slice_index_or logs k []

  -- the second list begins with the first
  abbrev pub Begins : List A → List A → Type 0
  Begins xs ys = (rest : List A) × (ys ≡ xs ++ rest)

  -- each log of the second list begins with that of the first
  abbrev pub AllBegin : List (List A) → List (List A) → Type 0
  AllBegin xs ys = (k : ℕ) → Begins (at xs k) (at ys k)

module _ {L : Type 0} where
  -- the logs as the core has them: the trees of the marks, and no claim
  abbrev pub core_of : List (List (Marked L)) → Core L
  core_of logs = record { logs = map (map plain) logs; claims = 0 }

  -- the mark stands where its identity says
  abbrev pub StandsIn : List (List (Marked L)) → Marked L → Type 0
  StandsIn logs m = slice_get (at logs (id_of m).0) (id_of m).1 ≡ Some m

  abbrev pub StandsHere : List (List (Marked L)) → Tree-F (Node L) (Marked L) → Type 0
  StandsHere logs node = StandsIn logs (roll-Tree (Node L) node)

  -- a mark is known where it stands in the logs, and its parts are known
  abbrev pub KnownIn : List (List (Marked L)) → Marked L → Type 0
  KnownIn logs = every-Tree (Node L) (StandsHere logs)

  -- all marks of a list are known
  abbrev pub AllKnownIn : List (List (Marked L)) → List (Marked L) → Type 0
  AllKnownIn logs ms = (i : ℕ) (m : Marked L) → slice_get ms i ≡ Some m → KnownIn logs m

  -- The logs of an interner with n shards: those that some run of the core leaves. Each mark has its own place as its
  -- identity and its tree's hash stored with it, and each part of a mark stands where its identity says.
  pub record AreLogs (f : L → ℕ) (n : ℕ) (logs : List (List (Marked L))) : Type 0 where
    pub some : 0 < n
    pub wide : length logs ≡ n
    pub run : (events : List (Event L)) × (answers : List Answer) × Runs f (first_core n) events answers (core_of logs)
    pub ids : (k i : ℕ) (m : Marked L) → slice_get (at logs k) i ≡ Some m → id_of m ≡ (k, i)
    pub hashes : (k i : ℕ) (m : Marked L) → slice_get (at logs k) i ≡ Some m → stored_hash m ≡ hash_at f m
    pub parts : (k i : ℕ) (m p : Marked L) → slice_get (at logs k) i ≡ Some m → Has (parts_of m) p → StandsIn logs p

  -- what a pass has seen are beginnings of the logs of an interner
  pub record AreSeen (f : L → ℕ) (n : ℕ) (seen : List (List (Marked L))) : Type 0 where
    pub all : List (List (Marked L))
    pub are : AreLogs f n all
    pub begins : AllBegin seen all
