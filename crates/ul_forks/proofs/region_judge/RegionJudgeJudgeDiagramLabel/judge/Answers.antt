use Rattle.std.proofs.Common.{subst}
use Rattle.ul_interner.specs.Known.{Knows}
use Rattle.ul_region.specs.Truths.{PassView}
use Rattle.ul_forks.proofs.Judging.{known_still}
use Rattle.ul_forks.proofs.region_judge.RegionJudgeJudgeDiagramLabel.judge.Goals as goal

pub returns-clause-known : goal.returns-clause-known
returns-clause-known g c = known_still c.judge_in-judged.new.algebra c.join.new.pass c.judge_in-judged.result
    (subst (λ (p : PassView). Knows p c.join.new.pass) c.end-own.ensures c.join.ensures.others) c.judge_in-judged.ensures.known
