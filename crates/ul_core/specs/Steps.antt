-- What one event does to the core, and what a list of events does.
use Rattle.std.specs.Prelude.{◌≡◌, ◌≢◌, ℕ, ◌+◌, ◌<◌, ◌^◌, ◌-◌, List, [], ◌∷◌, ◌++◌, slice_set, Option, Some, None, Result, Ok, Err, All, count_by, is_ok, ◌==◌, if◌then◌else◌}
use Rattle.ul_core.specs.declared.trees.Tree.{Tree}
use Rattle.ul_core.specs.declared.events.Event.{Event}
use Rattle.ul_core.specs.declared.events.Event.TheVariants.{Publish, Claim}
use Rattle.ul_core.specs.declared.events.EventFault.{EventFault}
use Rattle.ul_core.specs.declared.events.EventFault.TheVariants.{Shard, Known, Part, Full, NoMemory}
use Rattle.ul_core.specs.Core.{Core, log_of, shard_of, Stands, IsPart}

-- what a step answers: nothing, the number that was drawn, or why the event is refused
abbrev pub Answer : Type 0
Answer = Result (Option ℕ) EventFault

-- the answer isn't want of memory
abbrev pub HadMemory : Answer → Type 0
HadMemory a = a ≢ Err NoMemory

-- the numbers drawn, in order
abbrev pub draws : List Answer → List ℕ
draws [] = []
draws (Ok (Some n) ∷ answers) = n ∷ draws answers
draws (Ok None ∷ answers) = draws answers
draws (Err fault ∷ answers) = draws answers

module _ {L : Type 0} where
  -- the trees that were taken for a shard, in order
  abbrev pub taken_trees : ℕ → List (Event L) → List Answer → List (Tree L)
  taken_trees k [] answers = []
  taken_trees k (e ∷ events) [] = []
  taken_trees k (Publish shard t ∷ events) (Ok answer ∷ answers) = (if shard == k then t ∷ [] else []) ++ taken_trees k events answers
  taken_trees k (Publish shard t ∷ events) (Err fault ∷ answers) = taken_trees k events answers
  taken_trees k (Claim ∷ events) (a ∷ answers) = taken_trees k events answers

  -- the core with one tree more at the end of a shard's log
  abbrev pub after_tree : Core L → ℕ → Tree L → Core L
  after_tree s k t = record s { logs = slice_set s.logs k (log_of s k ++ t ∷ []) }

  -- the core after one claim
  abbrev pub after_claim : Core L → Core L
  after_claim s = record s { claims = s.claims + 1 }

  module _ (f : L → ℕ) where
    -- A tree may be published: the shard is its own, the shard's log hasn't it, and each of its parts
    -- stands in the log of the part's own shard.
    pub record MayPublish (s : Core L) (shard : ℕ) (t : Tree L) : Type 0 where
      pub own : shard ≡ shard_of f s t
      pub fresh : ¬ Stands f s t
      pub parts : (p : Tree L) → IsPart p t → Stands f s p

    -- The event is taken: what it answers, and the core after it.
    abbrev pub Takes : Core L → Event L → Option ℕ → Core L → Type 0
    Takes s (Publish shard t) answer s' = MayPublish s shard t × (answer ≡ None) × (s' ≡ after_tree s shard t)
    Takes s Claim answer s' = (s.claims < 2 ^ 64 - 1) × (answer ≡ Some s.claims) × (s' ≡ after_claim s)

    -- The event is refused: the first cause that holds, in this order. Want of memory comes alone of a
    -- tree that may be published.
    abbrev pub Refuses : Core L → Event L → EventFault → Type 0
    Refuses s (Publish shard t) Shard = shard ≢ shard_of f s t
    Refuses s (Publish shard t) Known = (shard ≡ shard_of f s t) × Stands f s t
    Refuses s (Publish shard t) Part = (shard ≡ shard_of f s t) × ¬ Stands f s t × ((p : Tree L) × IsPart p t × ¬ Stands f s p)
    Refuses s (Publish shard t) Full = ⊥
    Refuses s (Publish shard t) NoMemory = MayPublish s shard t
    Refuses s Claim Full = s.claims ≡ 2 ^ 64 - 1
    Refuses s Claim Shard = ⊥
    Refuses s Claim Known = ⊥
    Refuses s Claim Part = ⊥
    Refuses s Claim NoMemory = ⊥

    -- One step: an event, its answer, and the core after it. A refusal changes nothing.
    abbrev pub Steps : Core L → Event L → Answer → Core L → Type 0
    Steps s e (Ok answer) s' = Takes s e answer s'
    Steps s e (Err fault) s' = Refuses s e fault × (s' ≡ s)

    -- A run: the events one after another, with the answer of each, and the core that they leave.
    abbrev pub Runs : Core L → List (Event L) → List Answer → Core L → Type 0
    Runs s [] [] s' = s' ≡ s
    Runs s [] (a ∷ answers) s' = ⊥
    Runs s (e ∷ events) [] s' = ⊥
    Runs s (e ∷ events) (a ∷ answers) s' = (mid : Core L) × Steps s e a mid × Runs mid events answers s'

    -- All events were stepped, none wanted memory, and so many were taken.
    pub record RunsAll (s : Core L) (events : List (Event L)) (taken : ℕ) (s' : Core L) : Type 0 where
      pub answers : List Answer
      pub run : Runs s events answers s'
      pub memory : All HadMemory answers
      pub count : taken ≡ count_by is_ok answers

    -- The events before some event were stepped, and that event wants memory.
    pub record RunsUntil (s : Core L) (events : List (Event L)) (s' : Core L) : Type 0 where
      pub before : List (Event L)
      pub next : Event L
      pub after : List (Event L)
      pub count : ℕ
      pub whole : events ≡ before ++ next ∷ after
      pub run : RunsAll s before count s'
      pub wants : Refuses s' next NoMemory
