-- The laws of runs and of steps.
use Rattle.std.specs.Prelude.{◌≡◌, ◌≢◌, ℕ, ◌≤◌, List, [], ◌∷◌, ◌++◌, length, slice_get, Option, Some}
use Rattle.std.specs.List.{range_with_len}
use Rattle.ul_core.specs.declared.trees.Tree.{Tree}
use Rattle.ul_core.specs.declared.events.Event.{Event}
use Rattle.ul_core.specs.declared.events.Event.TheVariants.{Publish, Claim}
use Rattle.ul_core.specs.Trees.{Has}
use Rattle.ul_core.specs.Core.{Core, first_core, log_of, shard_of, Stands, IsPart}
use Rattle.ul_core.specs.Steps.{Answer, Steps, Takes, Runs, RunsAll, draws, taken_trees}

module _ {L : Type 0} where
  -- the second list begins with the first
  abbrev pub Begins : List (Tree L) → List (Tree L) → Type 0
  Begins xs ys = (rest : List (Tree L)) × (ys ≡ xs ++ rest)

  module _ (f : L → ℕ) where
    -- The logs of a core are in order: a tree has one place in all of them, it stands in its own shard's
    -- log, and so does each of its parts.
    pub record IsSound (s : Core L) : Type 0 where
      pub differ : (j k i m : ℕ) (t : Tree L) → slice_get (log_of s j) i ≡ Some t → slice_get (log_of s k) m ≡ Some t → (j ≡ k) × (i ≡ m)
      pub own : (k : ℕ) (t : Tree L) → Has (log_of s k) t → k ≡ shard_of f s t
      pub parts : (k : ℕ) (t p : Tree L) → Has (log_of s k) t → IsPart p t → Stands f s p

    -- whatever the events and the number of shards: the logs that they leave are in order
    abbrev pub EachRunIsSound : Type 0
    EachRunIsSound =
        (shards : ℕ) (events : List (Event L)) (answers : List Answer) (s : Core L) → 1 ≤ shards → Runs f (first_core shards) events answers s → (length s.logs ≡ shards) × IsSound s

    -- whatever comes after: each log begins with what it was, so a tree that has a place keeps it
    abbrev pub EachTreeStays : Type 0
    EachTreeStays =
        (s s' : Core L) (events : List (Event L)) (answers : List Answer) → 1 ≤ length s.logs → Runs f s events answers s'
        → (k : ℕ) → Begins (log_of s k) (log_of s' k) × ((i : ℕ) (t : Tree L) → slice_get (log_of s k) i ≡ Some t → slice_get (log_of s' k) i ≡ Some t)

    -- each log is what it was, and then the trees that were taken for its shard, in order
    abbrev pub EachLogIsWhatWasTaken : Type 0
    EachLogIsWhatWasTaken =
        (s s' : Core L) (events : List (Event L)) (answers : List Answer) → 1 ≤ length s.logs → Runs f s events answers s' → (k : ℕ) → log_of s' k ≡ log_of s k ++ taken_trees k events answers

    -- the draws are the numbers from 0 to below the claim number, each once and in order
    abbrev pub EachNumberIsDrawnOnce : Type 0
    EachNumberIsDrawnOnce =
        (shards : ℕ) (events : List (Event L)) (answers : List Answer) (s : Core L) → Runs f (first_core shards) events answers s → draws answers ≡ range_with_len 0 s.claims

    -- two runs of one list of events that found memory take equally many, and leave one core
    abbrev pub EachRunHasOneEnd : Type 0
    EachRunHasOneEnd =
        (s s₁ s₂ : Core L) (events : List (Event L)) (m n : ℕ) → RunsAll f s events m s₁ → RunsAll f s events n s₂ → (m ≡ n) × (s₁ ≡ s₂)

    -- a run goes on by one step
    abbrev pub EachRunGoesOn : Type 0
    EachRunGoesOn =
        (s s' s'' : Core L) (events : List (Event L)) (answers : List Answer) (e : Event L) (a : Answer)
        → Runs f s events answers s' → Steps f s' e a s'' → Runs f s (events ++ e ∷ []) (answers ++ a ∷ []) s''

    -- a run from logs that are in order, and not from the beginning alone, leaves logs that are in order
    abbrev pub EachSoundCoreStays : Type 0
    EachSoundCoreStays =
        (s s' : Core L) (events : List (Event L)) (answers : List Answer)
        → 1 ≤ length s.logs → IsSound s → Runs f s events answers s' → (length s'.logs ≡ length s.logs) × IsSound s'

    -- What a step that is taken leaves: a publication its tree at the end of its own shard's log, each other log
    -- as it was, and the claim number too; a claim all logs. (A refusal leaves the whole core.)
    pub record EachStepKeepsLogs : Type 0 where
      pub own : (s s' : Core L) (k : ℕ) (t : Tree L) (answer : Option ℕ)
          → 1 ≤ length s.logs → Takes f s (Publish k t) answer s' → log_of s' k ≡ log_of s k ++ t ∷ []
      pub other : (s s' : Core L) (k j : ℕ) (t : Tree L) (answer : Option ℕ)
          → Takes f s (Publish k t) answer s' → j ≢ k → log_of s' j ≡ log_of s j
      pub number : (s s' : Core L) (k : ℕ) (t : Tree L) (answer : Option ℕ)
          → Takes f s (Publish k t) answer s' → s'.claims ≡ s.claims
      pub claim : (s s' : Core L) (answer : Option ℕ) → Takes f s Claim answer s' → s'.logs ≡ s.logs
