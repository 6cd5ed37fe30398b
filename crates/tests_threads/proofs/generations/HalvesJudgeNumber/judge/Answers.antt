use Rattle.ul_interner.proofs.ForCallers.{known_stays, knows_then}
use Rattle.tests_threads.proofs.generations.HalvesJudgeNumber.judge.Goals as goal

pub returns-in_err-right-clause-learns : goal.returns-in_err-right-clause-learns
returns-in_err-right-clause-learns g c = knows_then c.args.pass.now c.make_range.new.pass c.make_range-2.new.pass c.make_range.ensures.learns c.make_range-2.ensures.learns

pub returns-clause-learns : goal.returns-clause-learns
returns-clause-learns g c = knows_then c.args.pass.now c.make_range.new.pass c.make_range-2.new.pass c.make_range.ensures.learns c.make_range-2.ensures.learns

pub returns-clause-known : goal.returns-clause-known
returns-clause-known g c = (known_stays c.make_range.new.pass c.make_range-2.new.pass c.make_range-2.ensures.learns c.in_ok-left.left.mark c.in_ok-left.ensures.known, c.in_ok-right.ensures.known)
