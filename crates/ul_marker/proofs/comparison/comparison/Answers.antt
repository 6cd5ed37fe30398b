use Rattle.std.proofs.Common.{sym, subst}
use Rattle.ul_marker.specs.Readers.{Reads}
use Rattle.ul_marker.specs.Views.{marker_view}
use Rattle.ul_marker.proofs.Compared.{four_tokens, no_four_tokens, three_tokens}
use Rattle.ul_marker.proofs.comparison.comparison.Goals as goal

pub returns-in-len3 : goal.returns-in-len3
returns-in-len3 c =
    subst (Reads marker_view c.three.result)
    (sym (three_tokens c.args.tokens.now _ _ _ c.in-len3.len_at_least c.in-len3.len_below c.left-item.is c.middle-item.is c.right-item.is)) c.three.ensures

pub returns-else-not-is_not_in : goal.returns-else-not-is_not_in
returns-else-not-is_not_in c =
    subst (Reads marker_view c.in_sides.result)
    (sym (four_tokens c.args.tokens.now _ _ _ _ c.in-len4.len_at_least c.in-len4.len_below c.left-item-then-tokens-lt5.is c.first-item.is c.second-item.is c.right-item-then-tokens-lt5.is (sym c.if-not-is_not_in.ensures)))
    c.in_sides.ensures

pub returns-then-not-is_not_in : goal.returns-then-not-is_not_in
returns-then-not-is_not_in c =
    no_four_tokens c.args.tokens.now _ _ c.in-len4.len_at_least c.in-len4.len_below c.first-item.is c.second-item.is (sym c.if-not-is_not_in.ensures)
