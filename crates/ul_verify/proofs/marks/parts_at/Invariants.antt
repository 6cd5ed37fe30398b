use Rattle.std.proofs.Common.{◌≡◌, take}
use Rattle.ul_verify.specs.Marks.{found_at}
use Rattle.ul_verify.proofs.marks.parts_at.Given as goal

abbrev pub invariant-loop-place : goal.invariant-loop-place
invariant-loop-place l = l.parts.items ≡ found_at l.marks (take l.place-index l.places)
