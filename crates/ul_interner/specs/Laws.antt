-- The laws of the interner.
use Rattle.std.specs.Prelude.{◌≡◌, ◌≢◌, ℕ, ◌+◌, ◌<◌, ◌≤◌, ◌%◌, ◌++◌, List, [], ◌∷◌, map, length, slice_index, slice_set, Some, None}
use Rattle.std.specs.List.{slice_get}
use mathlib.Core.Option.{some}
use lib.ListN.{get_elem?}
use Rattle.atomic_table.specs.Table.{State, stepped, keeps, takes, gives}
use Rattle.ul_core.specs.declared.events.Event.{Event}
use Rattle.ul_core.specs.declared.events.Event.TheVariants.{Publish}
use Rattle.ul_core.specs.Core.{Core, first_core, log_of}
use Rattle.ul_core.specs.Laws.{IsSound}
use Rattle.ul_core.specs.Steps.{Answer, Runs, Takes}
use Rattle.ul_core.specs.Trees.{Has, parts_of}
use Rattle.ul_interner.specs.declared.views.View.{View}
use Rattle.ul_interner.specs.Marked.{Marked, id_of, stored_hash, plain, hash_at}
use Rattle.ul_interner.specs.Known.{Held, Known, Knows, IsOneMark}
use Rattle.ul_interner.specs.Logs.{at, Begins, core_of, StandsIn, KnownIn, AreSeen}
use Rattle.ul_interner.specs.Rule.{Body, view, Fits, HasLogs, Kept}

module _ {L : Type 0} where
  -- The table shows a core that a run of events leaves: its logs are in order, each count word is the length of its log,
  -- each body at home has the trees of its log, and the logs of each view are beginnings of the core's.
  pub record Shows (f : L → ℕ) (n : ℕ) (s : State (Body L) (View L)) (c : Core L) : Type 0 where
    pub run : (events : List (Event L)) × (answers : List Answer) × Runs f (first_core n) events answers c
    pub sound : IsSound f c
    pub shards : length c.logs ≡ n
    pub counts : (k : ℕ) → k < n → slice_index s.words (n + k) ≡ length (log_of c k)
    pub bodies : (k : ℕ) → k < n → slice_index s.words k ≡ 0 → (b : List (Marked L)) × (get_elem? s.homes k ≡ some (some (Some b))) × (map plain b ≡ log_of c k)
    pub views : (j : ℕ) (v : View L) (k : ℕ) → get_elem? s.views j ≡ some v → Begins (map plain (at v.logs k)) (log_of c k)

  abbrev pub EachTableShowsCore : (L → ℕ) → Type 0
  EachTableShowsCore f = (n : ℕ) (s : State (Body L) (View L)) → Kept f n s → (c : Core L) × Shows f n s c

  -- A turn word is 0 or 1. Where it is 1, exactly one view holds the turn. Where it is 0, none does and the body is at home.
  pub record TakesTurns (n : ℕ) (s : State (Body L) (View L)) : Type 0 where
    pub bit : (k : ℕ) → k < n → slice_index s.words k ≤ 1
    pub held : (k : ℕ) → k < n → slice_index s.words k ≡ 1 → (j : ℕ) × (v : View L) × (get_elem? s.views j ≡ some v) × (v.holds ≡ Some k) × ((i : ℕ) (w : View L) → get_elem? s.views i ≡ some w → w.holds ≡ Some k → i ≡ j)
    pub free : (k : ℕ) → k < n → slice_index s.words k ≡ 0 → ((j : ℕ) (v : View L) → get_elem? s.views j ≡ some v → v.holds ≢ Some k) × ((b : List (Marked L)) × (get_elem? s.homes k ≡ some (some (Some b))))

  abbrev pub EachTableTakesTurns : (L → ℕ) → Type 0
  EachTableTakesTurns f = (n : ℕ) (s : State (Body L) (View L)) → Kept f n s → TakesTurns n s

  -- The seat number `id` with the view v, which holds the turn of shard k, may publish the mark x: x is of shard k and has
  -- the next place as its identity, no mark of the body in hand has its tree, and its parts stand in the logs of the view.
  pub record MayStore (f : L → ℕ) (n : ℕ) (s : State (Body L) (View L)) (id k : ℕ) (v : View L) (x : Marked L) : Type 0 where
    pub here : get_elem? s.views id ≡ some v
    pub holds : v.holds ≡ Some k
    pub long : k < length v.logs
    pub own : hash_at f x % n ≡ k
    pub id_is : id_of x ≡ (k, length v.hand)
    pub hash_is : stored_hash x ≡ hash_at f x
    pub fresh : (i : ℕ) (m : Marked L) → slice_get v.hand i ≡ Some m → plain m ≢ plain x
    pub parts : (p : Marked L) → Has (parts_of x) p → StandsIn v.logs p

  -- the view after the store
  abbrev pub grown_view : View L → ℕ → Marked L → View L
  grown_view v k x = view (slice_set v.logs k (v.hand ++ x ∷ [])) v.told v.holds (v.hand ++ x ∷ [])

  -- One event Publish is the store of a shard's count word: after it the table has logs that are those of the core after
  -- the event.
  abbrev pub EachStoreIsPublish : (L → ℕ) → Type 0
  EachStoreIsPublish f =
      (n : ℕ) (s : State (Body L) (View L)) (logs : List (List (Marked L))) (id k : ℕ) (v : View L) (x : Marked L) (held : List (ℕ × Body L)) → HasLogs f n logs s → MayStore f n s id k v x
      → (logs' : List (List (Marked L))) × HasLogs f n logs' (stepped s (n + k) (length v.hand + 1) id held (grown_view v k x) keeps) × Takes f (core_of logs) (Publish k (plain x)) None (core_of logs')

  -- The other steps leave the logs as they are: a load, after which the seat holds what it held and has seen beginnings of
  -- the logs; the taking and the giving back of a turn; and what split and join do to the views.
  pub record OthersKeepLogs (f : L → ℕ) (n : ℕ) (logs : List (List (Marked L))) (s : State (Body L) (View L)) : Type 0 where
    pub load : (id i : ℕ) (held : List (ℕ × Body L)) (v w : View L) → get_elem? s.views id ≡ some v → w.holds ≡ v.holds → Fits n logs s.words w → HasLogs f n logs (stepped s i (slice_index s.words i) id held w keeps)
    pub take : (id k : ℕ) (held : List (ℕ × Body L)) (v : View L) → get_elem? s.views id ≡ some v → v.holds ≡ None → k < n → slice_index s.words k ≡ 0
        → HasLogs f n logs (stepped s k 1 id held (view v.logs v.told (Some k) (at logs k)) (takes k (Some (at logs k))))
    pub give : (id k : ℕ) (v : View L) (more : List (ℕ × Body L)) → length s.homes ≡ n → get_elem? s.views id ≡ some v → v.holds ≡ Some k → HasLogs f n logs (stepped s k 0 id ((k, Some v.hand) ∷ more) (view v.logs v.told None []) gives)
    pub split : (id : ℕ) (v : View L) → get_elem? s.views id ≡ some v → HasLogs f n logs record { words = s.words; homes = s.homes; views = slice_set s.views id v ++ view v.logs [] None [] ∷ [] }
    pub join : (id other : ℕ) (v u : View L) → get_elem? s.views id ≡ some v → other ≢ id → get_elem? s.views other ≡ some u → u.holds ≡ None
        → HasLogs f n logs record { words = s.words; homes = s.homes; views = slice_set (slice_set s.views id (view v.logs u.logs v.holds v.hand)) other (view [] [] None []) }

  abbrev pub EachOtherStepKeepsLogs : (L → ℕ) → Type 0
  EachOtherStepKeepsLogs f = (n : ℕ) (logs : List (List (Marked L))) (s : State (Body L) (View L)) → HasLogs f n logs s → OthersKeepLogs f n logs s

  -- of marks that are known to one pass those of one identity are one, and so are those of one tree
  abbrev pub EachTreeHasOneMark : (L → ℕ) → Type 0
  EachTreeHasOneMark f = (n : ℕ) (logs : List (List (Marked L))) (a b : Marked L) → AreSeen f n logs → KnownIn logs a → KnownIn logs b → IsOneMark a b

-- what a pass knew it knows for good, and so does each pass that knows at least as much, by split or by join
abbrev pub EachKnownStays : Type 0 → Type 0
EachKnownStays L = (before after : Held L) (m : Marked L) → Knows before after → Known before m → Known after m

-- the parts of a known mark are known
abbrev pub EachPartIsKnown : Type 0 → Type 0
EachPartIsKnown L = (h : Held L) (m p : Marked L) (k : ℕ) → Known h m → slice_get (parts_of m) k ≡ Some p → Known h p
