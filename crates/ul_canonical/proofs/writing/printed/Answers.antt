use Rattle.std.proofs.Common.{sym, ◌∙◌}
use Rattle.std.proofs.lemmas.List.Sums.{AllPass-from_list_all}
use Rattle.ul_canonical.proofs.Told.{Tells-weaker, all_printed, not_printed}
use Rattle.ul_canonical.proofs.writing.printed.Goals as goal

pub returns-then-not-are_printable : goal.returns-then-not-are_printable
returns-then-not-are_printable c = not_printed c.args.diagrams.now (sym c.are_printable.ensures ∙ c.if-not-are_printable.true)

pub returns : goal.returns
returns c = Tells-weaker _ _ (all_printed c.args.diagrams.now (sym c.are_printable.ensures ∙ c.if-not-are_printable.false)) c.lines_text.result c.lines_text.ensures

pub lines_text-requires-clause-printed : goal.lines_text-requires-clause-printed
lines_text-requires-clause-printed c = AllPass-from_list_all _ c.args.diagrams.now (sym c.are_printable.ensures ∙ c.if-not-are_printable.false)
