use Rattle.std.proofs.Common.{[], ◌<◌}
use Rattle.std.proofs.lemmas.List.Elements.{All-nil, All-cons}
use Rattle.ul_ranges.proofs.FormLaws.{members_kept}
use Rattle.ul_ranges.proofs.ordinals.Ordinals.one.Goals as goal

pub returns : goal.returns
returns c = members_kept _ _ _ (All-cons (λ m. m < c.args.size) c.args.member [] c.requires (All-nil (λ m. m < c.args.size))) c.one.ensures
