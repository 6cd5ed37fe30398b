use Rattle.std.proofs.Common.{ℕ, List, ◌+◌, ◌<◌, length, arith, set, get_or, subst, sym}
use Rattle.std.proofs.lemmas.List.{get_or_default}
use Rattle.ul_ranges.specs.Operations.{word_by}
use Rattle.ul_ranges.proofs.BlockLaws.{by_flagwise}
use Rattle.ul_ranges.proofs.WordLaws.{IsPut, put_start, put_next, put_four, put_end}
use Rattle.ul_ranges.proofs.words.put_words.Goals as goal

pub loop-done-init : goal.loop-done-init
loop-done-init c = (put_start _ _ _, omega arith)

pub loop-done-preserved : goal.loop-done-preserved
loop-done-preserved c = (
  subst (λ (l : List ℕ). IsPut (word_by c.args.operation) c.args.mine.now c.args.theirs.now l (c.loop-done.done + 4)) (sym c.put_lanes.ensures)
      (put_four (word_by c.args.operation) c.args.mine.now c.args.theirs.now c.loop-done.mine c.loop-done.done c.loop-done.invariant.0 (omega arith) c.requires),
  omega arith,
)

pub loop-j-preserved : goal.loop-j-preserved
loop-j-preserved c =
    let inside : c.loop-j.j < length c.loop-j.mine = let n = c.loop-j.invariant.count in omega arith in
    subst (λ (x : ℕ). IsPut (word_by c.args.operation) c.args.mine.now c.args.theirs.now (set c.loop-j.mine c.loop-j.j x) (c.loop-j.j + 1)) (sym c.word_by.ensures)
    (put_next (word_by c.args.operation) c.args.mine.now c.args.theirs.now c.loop-j.mine c.loop-j.j (get_or c.loop-j.mine c.loop-j.j 0) c.loop-j.invariant (omega arith)
    (get_or_default c.loop-j.mine c.loop-j.j 0 (get_or c.loop-j.mine c.loop-j.j 0) inside))

pub returns : goal.returns
returns c = put_end (word_by c.args.operation) c.args.mine.now c.args.theirs.now c.loop-j.mine c.loop-j.j (by_flagwise c.args.operation).nothing c.loop-j.invariant (omega arith) c.requires
