use Rattle.std.proofs.Common.{arith, inl, inr}
use Rattle.ul_ranges.proofs.Merging.{step_below, step_above, step_same, finished}
use Rattle.ul_ranges.proofs.cuts.merged.Goals as goal
use Rattle.ul_ranges.proofs.cuts.merged.Goals.{then-x-y, else-x-y, then-merge-test+else-j-ys, else-merge-test}

pub merge-preserved-then-y-x : goal.merge-preserved-then-y-x
merge-preserved-then-y-x c =
    elim c.if-x-y.branch [
      | then-x-y w ↦ rw w.i-is (record {
        left = omega arith;
        right = omega arith;
        whole = step_same _ _ c.merge.i c.merge.j c.merge.all.items c.merge.invariant.whole c.merge-test.true c.if-j-ys.true c.min.result
            c.push.new.self.items c.in_ok-push.ensures.items c.min.ensures (let y = c.if-y-x.true in let x = w.if-x-y.true in omega arith);
      })
      | else-x-y w ↦ rw w.i-is (record {
        left = omega arith;
        right = omega arith;
        whole = step_above _ _ c.merge.i c.merge.j c.merge.all.items c.merge.invariant.whole c.merge-test.true c.if-j-ys.true c.min.result
            c.push.new.self.items c.in_ok-push.ensures.items c.min.ensures w.if-x-y.false;
      })
    ]

pub merge-preserved : goal.merge-preserved
merge-preserved c =
    elim c.if-x-y.branch [
      | then-x-y w ↦ rw w.i-is (record {
        left = omega arith;
        right = omega arith;
        whole = step_below _ _ c.merge.i c.merge.j c.merge.all.items c.merge.invariant.whole c.merge-test.true c.if-j-ys.true c.min.result
            c.push.new.self.items c.in_ok-push.ensures.items c.min.ensures c.if-y-x.false;
      })
      | else-x-y w ↦ absurd (let y = c.if-y-x.false in let x = w.if-x-y.false in omega arith)
    ]

pub returns : goal.returns
returns c =
    finished _ _ c.merge.i c.merge.j c.merge.all.items _ _ c.merge.invariant.whole c.in_ok-extend_from_slice.ensures.items
    c.in_ok-extend_from_slice-2.ensures.items (elim c.merge-test.branch [
      | then-merge-test+else-j-ys w ↦ inr w.if-j-ys.false
      | else-merge-test w ↦ inl w.merge-test.false
    ]) c.requires.xs c.requires.ys
