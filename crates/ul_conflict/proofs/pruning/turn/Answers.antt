use Rattle.std.proofs.Common.{◌≡◌, ◌++◌, subst, sym, ℕ, length, slice_get, Some, arith, ◌<◌}
use Rattle.ul_conflict.specs.Needed.{IsMarked}
use Rattle.ul_conflict.proofs.PrunedSteps.{pruned_keep, marked_read}
use Rattle.ul_conflict.proofs.pruning.turn.Goals as goal

pub returns-clause-pruned : goal.returns-clause-pruned
returns-clause-pruned c =
    let e : c.len-place.result ≡ length c.args.pruned.now.numbers.items = (let y = c.len-place.ensures in omega arith) in
    pruned_keep c.args.problem.now (c.args.held.now ++ c.args.learned.now) c.args.marks.now c.args.pruned.now c.keep.new.pruned c.step_at.result.now
    c.requires.right c.requires.parts c.requires.pruned
    (subst (λ (k : ℕ). slice_get (c.args.held.now ++ c.args.learned.now) k ≡ Some c.step_at.result.now) e c.step_at.ensures)
    (subst (λ (k : ℕ). IsMarked c.args.marks.now k) e (marked_read c.args.marks.now c.len-place.result (subst (λ (k : ℕ). k < length c.args.marks.now) (sym e) c.requires.marked) c.if-not-marks-place.false))
    c.in_ok-keep.ensures
