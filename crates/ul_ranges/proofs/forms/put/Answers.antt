use Rattle.ul_ranges.specs.Operations.{word_by, flag_by}
use Rattle.ul_ranges.proofs.BlockLaws.{by_flagwise}
use Rattle.ul_ranges.proofs.FormMaking.{are_level, zipped_open, zipped_resealed}
use Rattle.ul_ranges.proofs.forms.put.Goals as goal

pub put_in_place-requires : goal.put_in_place-requires
put_in_place-requires c = are_level c.args.mine.now c.args.theirs.now c.requires

pub reseal-requires : goal.reseal-requires
reseal-requires c =
    zipped_open (word_by c.args.operation) (flag_by c.args.operation) (by_flagwise c.args.operation) c.args.mine.now c.args.theirs.now _ c.requires (c.put_in_place.ensures.done c.if-put_in_place.true)

pub returns-then-put_in_place-clause-ok : goal.returns-then-put_in_place-clause-ok
returns-then-put_in_place-clause-ok c =
    zipped_resealed (word_by c.args.operation) (flag_by c.args.operation) (by_flagwise c.args.operation) c.args.mine.now c.args.theirs.now _ _ c.requires (c.put_in_place.ensures.done c.if-put_in_place.true) c.reseal.ensures
