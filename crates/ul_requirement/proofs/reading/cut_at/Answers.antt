use Rattle.std.proofs.Common.{◌<◌, arith, sym, length, drop}
use Rattle.std.proofs.lemmas.List.{take_rest, drop-drop}
use Rattle.ul_requirement.proofs.Cutting.{cut-none, cut-some}
use Rattle.ul_requirement.proofs.reading.cut_at.Goals as goal

pub returns-then-n-input : goal.returns-then-n-input
returns-then-n-input c =
    sym (cut-none c.args.byte c.args.input.now (λ k lt. c.place_of-n.ensures.before k (omega arith)))

pub returns : goal.returns
returns c =
    let xs = c.args.input.now in
    let n = c.place_of-n.result in
    let lt : n < length xs = omega arith in
    rw (take_rest xs n, take_rest (drop n xs) 1, drop-drop 1 n xs) (sym (cut-some c.args.byte xs n lt c.place_of-n.ensures.before (c.place_of-n.ensures.found lt)))
