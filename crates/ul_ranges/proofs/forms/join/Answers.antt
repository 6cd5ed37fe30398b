use Rattle.std.proofs.Common.{refl}
use Rattle.ul_ranges.specs.Operations.{in_either}
use Rattle.ul_ranges.proofs.FormLaws.{word_joins}
use Rattle.ul_ranges.proofs.FormMaking.{many_large, has_blocks, sized_blocks, lent_blocks, word_made}
use Rattle.ul_ranges.proofs.forms.join.Goals as goal

pub sealed_by-requires-clause-large : goal.sealed_by-requires-clause-large
sealed_by-requires-clause-large c = many_large _ c.args.mine.now _ c.in-Many-Many.is-0 c.requires.left

pub sealed_by-requires-clause-left : goal.sealed_by-requires-clause-left
sealed_by-requires-clause-left c = has_blocks _ c.args.mine.now _ _ c.in-Many-Many.is-0 c.requires.left c.as_slice.ensures

pub sealed_by-requires-clause-right : goal.sealed_by-requires-clause-right
sealed_by-requires-clause-right c =
    sized_blocks _ c.args.theirs.now _ c.requires.same_size
    (has_blocks _ c.args.theirs.now _ _ c.in-Many-Many.is-1 c.requires.right c.as_slice-in-Many-Many.ensures)

pub sealed_by-requires-in_default-clause-left : goal.sealed_by-requires-in_default-clause-left
sealed_by-requires-in_default-clause-left c = lent_blocks _ c.args.mine.now _ _ refl c.in_ok-xs-in_default.ensures c.as_slice-in_default.ensures.value

pub sealed_by-requires-in_default-clause-right : goal.sealed_by-requires-in_default-clause-right
sealed_by-requires-in_default-clause-right c =
    lent_blocks _ c.args.theirs.now _ _ c.requires.same_size c.in_ok-ys-in_default.ensures c.as_slice-in_default-2.ensures.value

pub returns-in-Word-Word : goal.returns-in-Word-Word
returns-in-Word-Word c =
    word_made c.in-Word-Word.size _ in_either c.args.mine.now c.args.theirs.now c.in-Word-Word.x c.in-Word-Word.y _ c.in-Word-Word.is-0 c.in-Word-Word.is-1 c.requires
    (word_joins c.in-Word-Word.size _ c.in-Word-Word.x c.in-Word-Word.y)
