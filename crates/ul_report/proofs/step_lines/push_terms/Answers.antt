use Rattle.std.proofs.Common.{arith}
use Rattle.std.proofs.lemmas.Grind.{common_steps}
use Rattle.ul_report.proofs.Written.{term_at}
use Rattle.ul_report.proofs.step_lines.push_terms.Goals as goal

pub push_next-requires : goal.push_next-requires
push_next-requires c = term_at c.args.problem.now c.args.terms.now c.loop-term.term-index c.term-item.result c.requires (grind (arith, common_steps)) (grind (arith, common_steps))
