-- The main theorem of the interner, whatever the number of shards and however many threads make marks. What `make` answers
-- stands in its own contract.
use Rattle.std.specs.Prelude.{◌≡◌, ◌↔◌, ℕ}
use Rattle.ul_interner.specs.Marked.{Marked, id_of, plain}
use Rattle.ul_interner.specs.Known.{Held, Known}
use Rattle.ul_interner.specs.Logs.{AreSeen}
use Rattle.ul_interner.specs.Laws.{EachTableShowsCore, EachTableTakesTurns, EachStoreIsPublish, EachOtherStepKeepsLogs, EachKnownStays, EachPartIsKnown}

-- f is the hash of a label
pub record InternerPromises {L : Type 0} (f : L → ℕ) : Type 0 where
  -- of marks that are known to a pass the identities are equal exactly where the trees are
  pub one_identity : (shards : ℕ) (h : Held L) (a b : Marked L) → AreSeen f shards h.logs → Known h a → Known h b → (id_of a ≡ id_of b) ↔ (plain a ≡ plain b)
  -- what a pass knew it knows for good, over make, split and join
  pub stays : EachKnownStays L
  -- the parts of a known mark are known
  pub parts : EachPartIsKnown L
  -- the table shows the logs of a core that a run of events leaves
  pub core : EachTableShowsCore f
  -- one publication is the store of a shard's count word
  pub publish : EachStoreIsPublish f
  -- each other step leaves the logs as they are
  pub others : EachOtherStepKeepsLogs f
  -- the turn of a shard is held by one pass, or by none, where the body is at home
  pub turns : EachTableTakesTurns f
