use Rattle.std.proofs.Common.{sym, zero-add}
use Rattle.std.proofs.lemmas.List.FromFn.{map-range_with_len_more}
use Rattle.ul_ranges.specs.Marks.{front_word}
use Rattle.ul_ranges.proofs.forms.front_blocks.Goals as goal

pub loop-place-preserved : goal.loop-place-preserved
loop-place-preserved c =
    let n = c.loop-place.place in
    rw (c.in_ok-push.ensures.items, c.loop-place.invariant, c.front_word.ensures) (sym (map-range_with_len_more (λ j. front_word c.args.count j) 0 n n (zero-add n)))
