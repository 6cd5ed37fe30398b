-- The claim word and the core: a word of n shows a core that took n events Claim from its beginning, and has the claim number n.
use Rattle.std.specs.Prelude.{◌≡◌, ℕ, ◌<◌, ◌^◌, List, replicate, Some}
use Rattle.std.specs.List.{range_with_len}
use Rattle.ul_core.specs.declared.events.Event.TheVariants.{Claim}
use Rattle.ul_core.specs.Core.{Core, first_core}
use Rattle.ul_core.specs.Steps.{Answer, Runs, Takes, after_claim, draws}

-- The core that n events Claim led to from the beginning: its claim number is n, and they drew the numbers from 0 to below n, each once.
-- A Claim reads neither labels nor logs, so labels that are numbers and one shard stand for all.
pub record Shows (n : ℕ) : Type 0 where
  pub core : Core ℕ
  pub answers : List Answer
  pub run : Runs (λ (label : ℕ). label) (first_core 1) (replicate n Claim) answers core
  pub number : core.claims ≡ n
  pub drawn : draws answers ≡ range_with_len 0 n

-- n is drawn by one event Claim, at the core that n such events led to
pub record IsClaim (n : ℕ) : Type 0 where
  pub before : Shows n
  pub event : Takes (λ (label : ℕ). label) before.core Claim (Some n) (after_claim before.core)

module _ {L : Type 0} (f : L → ℕ) where
  -- whatever the labels and the number of shards: n events Claim from the beginning leave the claim number n and empty logs, and draw the numbers from 0 to below n, in order
  abbrev pub EachClaimIsNext : Type 0
  EachClaimIsNext =
      (shards n : ℕ) (answers : List Answer) (s : Core L) → n < 2 ^ 64 → Runs f (first_core shards) (replicate n Claim) answers s → (s ≡ record (first_core shards) { claims = n }) × (draws answers ≡ range_with_len 0 n)
