use Rattle.std.proofs.Common.{string_bytes}
use Rattle.std.proofs.lemmas.Result.{on_ok_weaker}
use Rattle.ul_marker_text.proofs.Behind.{lower_joined}
use Rattle.ul_marker_text.proofs.printing.add_lower.Goals as goal

pub returns : goal.returns
returns c = on_ok_weaker c.add_bound.result (lower_joined (string_bytes c.args.out.now) _ c.args.start c.if-start-eq0.false) c.add_bound.ensures
