-- The main theorem of generations: what the fork answer has, whatever judges the regions. `fork_all` answers it, by its own
-- contract.
use Rattle.ul_generations.specs.declared.outcomes.Outcome.{Outcome}
use Rattle.ul_generations.specs.Laws.{AnswerOnce, ForksEnd, FewGenerations, LeavesAreDone, LeavesPart, LeavesInOrder, RefusedIsRefused}

-- may says which regions may be asked about, IsOutcome which outcomes a region may have
pub record ForkPromises {S D F : Type 0} (may : S → Type 0) (IsOutcome : S → Outcome S D F → Type 0) : Type 0 where
  -- where a region has at most one outcome, there is at most one answer
  pub once : AnswerOnce IsOutcome
  -- where each region that may be judged has an outcome, there is an answer
  pub end : ForksEnd may IsOutcome
  -- at most 2,048 generations are judged
  pub few : FewGenerations IsOutcome
  -- each leaf is done
  pub done : LeavesAreDone IsOutcome
  -- the leaves part the region: whatever is in it is in one of them
  pub part : LeavesPart IsOutcome
  -- the leaves stand in path order
  pub order : LeavesInOrder IsOutcome
  -- a refused region is refused, and lies in the region
  pub refusal : RefusedIsRefused IsOutcome
