-- The main theorem of the core: what every run of events keeps, whatever the number of shards.
use Rattle.std.specs.Prelude.{ℕ}
use Rattle.ul_core.specs.Laws.{EachRunIsSound, EachTreeStays, EachLogIsWhatWasTaken, EachNumberIsDrawnOnce, EachRunHasOneEnd}

-- f is the hash of a label
pub record RunPromises {L : Type 0} (f : L → ℕ) : Type 0 where
  -- no tree stands twice, each stands in its own shard's log, and so does each part of it
  pub sound : EachRunIsSound f
  -- a tree that has a place keeps it
  pub stays : EachTreeStays f
  -- a log is what it was and the trees that were taken for its shard, in order
  pub logs : EachLogIsWhatWasTaken f
  -- the draws are the numbers from 0 on, each once and in order
  pub numbers : EachNumberIsDrawnOnce f
  -- where memory is found, the events alone say what is taken and what they leave
  pub one_end : EachRunHasOneEnd f
