use Rattle.std.proofs.Common.{[], ◌<◌}
use Rattle.std.proofs.lemmas.List.Elements.{All-nil, All-cons}
use Rattle.ul_ranges.proofs.FormMaking.{ok_then, some_blocks, no_blocks}
use Rattle.ul_ranges.proofs.forms.few_blocks.Goals as goal

pub blocks_of-requires : goal.blocks_of-requires
blocks_of-requires c = All-cons (λ m. m < c.args.size) c.in-Some.member [] (rw c.in-Some.is at c.requires.below) (All-nil (λ m. m < c.args.size))

pub returns-in-Some : goal.returns-in-Some
returns-in-Some c =
    ok_then c.blocks_of.result _ _ c.blocks_of.ensures (λ v h. rw c.in-Some.is
    (some_blocks c.args.size c.in-Some.member v.items (rw c.in-Some.is at c.requires.below) h))

pub returns-in-None : goal.returns-in-None
returns-in-None c = ok_then c.blocks_of-in-None.result _ _ c.blocks_of-in-None.ensures (λ v h. rw c.in-None.is (no_blocks c.args.size v.items h))
