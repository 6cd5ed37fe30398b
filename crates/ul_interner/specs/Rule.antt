-- The rule of the interner's table, for any number n of shards, and what each step tells. Word k is the turn of shard
-- k, word n + k its count, and slot k has its body.
use Rattle.std.specs.Prelude.{◌≡◌, ◌≢◌, ℕ, ◌+◌, ◌<◌, ◌≤◌, ◌++◌, List, [], ◌∷◌, map, length, slice_index, slice_set, cond, Option, Some, None}
use Rattle.std.proofs.Math.Dec.{ltb}
use mathlib.Core.Option.{some}
use lib.ListN.{get_elem?}
use Rattle.atomic_table.specs.Seated.{TableId}
use Rattle.atomic_table.specs.Table.{State, Me, Step}
use Rattle.ul_core.specs.declared.events.Event.{Event}
use Rattle.ul_core.specs.declared.events.Event.TheVariants.{Publish}
use Rattle.ul_core.specs.Core.{Core, first_core, log_of}
use Rattle.ul_core.specs.Steps.{Answer, Runs, Takes}
use Rattle.ul_interner.specs.Marked.{Marked, plain}
use Rattle.ul_interner.specs.Logs.{at, Begins, AllBegin, AreLogs, AreSeen}
use Rattle.ul_interner.specs.declared.views.View.{View}

-- a slot has a body, which is seen as the list of its marks
abbrev pub Body : Type 0 → Type 0
Body L = Option (List (Marked L))

-- the table of an interner with n shards has a turn word and a count word for each shard, and a slot
pub record IsTable (n : ℕ) (table : TableId) (key : ℕ) : Type 0 where
  pub some : 0 < n
  pub few : n ≤ 256
  pub words : table.words ≡ n + n
  pub slots : table.slots ≡ n
  pub told : key ≡ n

module _ {L : Type 0} where
  -- what a seat knows: the logs that it has seen, those that it was told of, the turn that it holds, and the body in its hand
  abbrev pub view : List (List (Marked L)) → List (List (Marked L)) → Option ℕ → List (Marked L) → View L
  view logs told holds hand = record { logs = logs; told = told; holds = holds; hand = hand }

  -- what a pass has seen and was told are beginnings of the logs; where it holds a turn, the body in its hand is the log
  pub record Fits (n : ℕ) (logs : List (List (Marked L))) (ws : List ℕ) (v : View L) : Type 0 where
    pub seen : AllBegin v.logs logs
    pub told : AllBegin v.told logs
    pub turn : (k : ℕ) → v.holds ≡ Some k → (k < n) × (slice_index ws k ≡ 1) × (v.hand ≡ at logs k)

  -- The table has these logs, one for each shard, which a run of the core leaves. A turn is 0 or 1. A count is the length
  -- of its log. Where a turn is 0, its body is at home and is the log; where it is 1, exactly one pass holds it.
  pub record HasLogs (f : L → ℕ) (n : ℕ) (logs : List (List (Marked L))) (s : State (Body L) (View L)) : Type 0 where
    pub are : AreLogs f n logs
    pub wide : length s.words ≡ n + n
    pub bit : (k : ℕ) → k < n → slice_index s.words k ≤ 1
    pub count : (k : ℕ) → k < n → slice_index s.words (n + k) ≡ length (at logs k)
    pub home : (k : ℕ) → k < n → slice_index s.words k ≡ 0 → get_elem? s.homes k ≡ some (some (Some (at logs k)))
    pub fits : (j : ℕ) (v : View L) → get_elem? s.views j ≡ some v → Fits n logs s.words v
    pub one : (i j k : ℕ) (v w : View L) → get_elem? s.views i ≡ some v → get_elem? s.views j ≡ some w → v.holds ≡ Some k → w.holds ≡ Some k → i ≡ j
    pub someone : (k : ℕ) → k < n → slice_index s.words k ≡ 1 → (j : ℕ) × (v : View L) × (get_elem? s.views j ≡ some v) × (v.holds ≡ Some k)

  -- the rule of the table: it has some logs
  abbrev pub Kept : (L → ℕ) → ℕ → State (Body L) (View L) → Type 0
  Kept f n s = (logs : List (List (Marked L))) × HasLogs f n logs s

  -- the turn is tried for: where it was 0, it is held, and the body comes with it
  abbrev pub TakesTurn : Step (Body L) → Me (Body L) (View L) → ℕ → Me (Body L) (View L) → Type 0
  TakesTurn st m r m' =
      (r ≡ 0 → (b : List (Marked L)) × (m' ≡ (view m.0.logs m.0.told (Some st.word) b, (st.word, Some b) ∷ m.1)))
      × (r ≢ 0 → m' ≡ m)

  -- the holder's log of the shard becomes the body's, which begins with it
  abbrev pub Looks : (L → ℕ) → Step (Body L) → Me (Body L) (View L) → ℕ → Me (Body L) (View L) → Type 0
  Looks f st m r m' = (k : ℕ) → m.0.holds ≡ Some k → (r ≡ length m.0.hand) × (m' ≡ (view (slice_set m.0.logs k m.0.hand) m.0.told m.0.holds m.0.hand, m.1))
      × Begins (at m.0.logs k) m.0.hand × AreSeen f st.slots m'.0.logs

  -- The event Publish of the core: a core that a run leaves takes the tree of the mark into the log of shard k. The log
  -- was `hand`, and the number that is stored is the new log's length.
  pub record IsPublish (f : L → ℕ) (n k : ℕ) (hand : List (Marked L)) (x : Marked L) (stored : ℕ) : Type 0 where
    pub before : Core L
    pub after : Core L
    pub run : (events : List (Event L)) × (answers : List Answer) × Runs f (first_core n) events answers before
    pub takes : Takes f before (Publish k (plain x)) None after
    pub log : log_of before k ≡ map plain hand
    pub count : stored ≡ length (log_of after k)

  -- one mark more is published
  abbrev pub Grows : (L → ℕ) → List (Marked L) → Step (Body L) → Me (Body L) (View L) → ℕ → Me (Body L) (View L) → Type 0
  Grows f items st m r m' = (k : ℕ) (x : Marked L) → m.0.holds ≡ Some k → items ≡ x ∷ []
      → (m' ≡ (view (slice_set m.0.logs k (m.0.hand ++ x ∷ [])) m.0.told m.0.holds (m.0.hand ++ x ∷ []), m.1)) × AreSeen f st.slots m'.0.logs × IsPublish f st.slots k m.0.hand x r

  -- the turn and the body go back
  abbrev pub Gives : Step (Body L) → Me (Body L) (View L) → ℕ → Me (Body L) (View L) → Type 0
  Gives st m r m' = (x : ℕ × Body L) (more : List (ℕ × Body L)) → m.1 ≡ x ∷ more → m' ≡ (view m.0.logs m.0.told None [], more)

  -- the longer log of each shard
  abbrev pub longer : List (Marked L) → List (Marked L) → List (Marked L)
  longer xs ys = cond (ltb (length xs) (length ys)) ys xs

  abbrev pub merged_logs : List (List (Marked L)) → List (List (Marked L)) → List (List (Marked L))
  merged_logs [] ys = []
  merged_logs (x ∷ xs) [] = x ∷ xs
  merged_logs (x ∷ xs) (y ∷ ys) = longer x y ∷ merged_logs xs ys

  -- what was told is taken in, and each log begins with what was seen and what was told of it
  abbrev pub Settles : (L → ℕ) → Step (Body L) → Me (Body L) (View L) → ℕ → Me (Body L) (View L) → Type 0
  Settles f st m r m' = (m' ≡ (view (merged_logs m.0.logs m.0.told) [] m.0.holds m.0.hand, m.1))
      × AllBegin m.0.logs m'.0.logs × (length m.0.told ≤ length m.0.logs → AllBegin m.0.told m'.0.logs) × AreSeen f st.slots m'.0.logs

  -- the seat once the turn of shard k is taken, with which this body comes
  abbrev pub me_with_turn : Me (Body L) (View L) → ℕ → List (Marked L) → Me (Body L) (View L)
  me_with_turn m k b = (view m.0.logs m.0.told (Some k) b, (k, Some b) ∷ [])

  -- the seat once it has looked at the count of shard k: its log is the body's
  abbrev pub me_with_look : Me (Body L) (View L) → ℕ → Me (Body L) (View L)
  me_with_look m k = (view (slice_set m.0.logs k m.0.hand) m.0.told m.0.holds m.0.hand, m.1)

  -- the seat once it has published the mark
  abbrev pub me_with_mark : Me (Body L) (View L) → ℕ → Marked L → Me (Body L) (View L)
  me_with_mark m k x = (view (slice_set m.0.logs k (m.0.hand ++ x ∷ [])) m.0.told m.0.holds (m.0.hand ++ x ∷ []), m.1)

  -- the seat has the slot k, with a body of these marks
  abbrev pub Carries : ℕ → List (Marked L) → Me (Body L) (View L) → Type 0
  Carries k hand m = m.1 ≡ (k, Some hand) ∷ []

  -- the seat has the slot k, and its value is taken out
  abbrev pub IsEmptied : ℕ → Me (Body L) (View L) → Type 0
  IsEmptied k m = m.1 ≡ (k, None) ∷ []

  -- a seat that holds no turn, and what it has seen
  pub record IsIdle (f : L → ℕ) (n : ℕ) (m : Me (Body L) (View L)) : Type 0 where
    pub free : m.1 ≡ []
    pub holds : m.0.holds ≡ None
    pub long : length m.0.logs ≡ n
    pub seen : AreSeen f n m.0.logs

  -- a view that holds the turn of shard k, and has looked
  pub record HasLooked (f : L → ℕ) (n k : ℕ) (v : View L) : Type 0 where
    pub holds : v.holds ≡ Some k
    pub below : k < n
    pub long : length v.logs ≡ n
    pub here : at v.logs k ≡ v.hand
    pub seen : AreSeen f n v.logs
