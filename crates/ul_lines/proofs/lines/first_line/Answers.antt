use Rattle.std.proofs.Common.{sym}
use Rattle.ul_lines.proofs.TextLines.{cut_some, cut_none}
use Rattle.ul_lines.proofs.lines.first_line.Goals as goal

pub split_at-requires-in-Some : goal.split_at-requires-in-Some
split_at-requires-in-Some c = (cut_some c.args.text.now c.in-Some.line.now c.in-Some.field-0-1.now (sym c.in-Some.ensures)).within

pub returns-in-None-clause-cut : goal.returns-in-None-clause-cut
returns-in-None-clause-cut c = rw (c.split_at.ensures.front, c.split_at.ensures.back) (cut_none c.args.text.now c.requires (sym c.in-None.ensures)).cut

pub returns-in-Some-clause-cut : goal.returns-in-Some-clause-cut
returns-in-Some-clause-cut c = rw (c.split_at-in-Some.ensures.front, c.split_at-in-Some.ensures.back) (cut_some c.args.text.now c.in-Some.line.now c.in-Some.field-0-1.now (sym c.in-Some.ensures)).cut
