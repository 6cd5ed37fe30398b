use Rattle.std.proofs.Common.{sym, ◌∙◌}
use Rattle.ul_reach.proofs.Listing.{none_more, one_more}
use Rattle.ul_reach.proofs.order.put_unless.Goals as goal

pub returns-then-is_listed : goal.returns-then-is_listed
returns-then-is_listed c = none_more c.args.places.now.items c.args.is_listed c.args.place c.if-is_listed.true

pub returns : goal.returns
returns c = one_more c.args.places.now.items _ c.args.is_listed c.args.place c.if-is_listed.false c.in_ok-push.ensures.items
