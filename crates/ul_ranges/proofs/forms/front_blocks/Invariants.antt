use Rattle.std.proofs.Common.{◌≡◌}
use Rattle.std.specs.Prelude.{map}
use Rattle.std.specs.List.{range_with_len}
use Rattle.ul_ranges.specs.Marks.{front_word}
use Rattle.ul_ranges.proofs.forms.front_blocks.Given as goal

abbrev pub invariant-loop-place : goal.invariant-loop-place
invariant-loop-place l = l.blocks.items ≡ map (λ j. front_word l.count j) (range_with_len 0 l.place)
