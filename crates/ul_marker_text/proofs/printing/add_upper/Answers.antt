use Rattle.std.proofs.Common.{string_bytes}
use Rattle.std.proofs.lemmas.Result.{on_ok_weaker}
use Rattle.ul_marker_text.proofs.Behind.{upper_joined}
use Rattle.ul_marker_text.proofs.printing.add_upper.Goals as goal

pub returns : goal.returns
returns c = on_ok_weaker c.add_bound.result (upper_joined (string_bytes c.args.out.now) _ c.args.end c.if-end-eq-END.false) c.add_bound.ensures
