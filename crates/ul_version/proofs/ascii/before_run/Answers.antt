use Rattle.std.proofs.Common.{◌-◌, arith, sym, ◌∙◌}
use Rattle.ul_version.proofs.ByteRuns.{before_all-skip, before_all-stop, before_all-none}
use Rattle.ul_version.proofs.ascii.before_run.Goals as goal
use Rattle.ul_version.proofs.ascii.before_run.Goals.{then-loop-end-test+else-has, else-loop-end-test}

pub loop-end-preserved : goal.loop-end-preserved
loop-end-preserved g c =
    let n = c.loop-end.end in
    let test = g.C.ByteClass.has c.args.class.now in record {
      inside = omega arith;
      same = c.loop-end.invariant.same
          ∙ before_all-skip test c.args.text.now n (n - 1) (omega arith) c.loop-end.invariant.inside (sym c.if-has.ensures);
    }

pub returns : goal.returns
returns g c =
    let xs = c.args.text.now in
    let n = c.loop-end.end in
    let test = g.C.ByteClass.has c.args.class.now in
    elim c.loop-end-test.branch [
      | then-loop-end-test+else-has w ↦
          sym (c.loop-end.invariant.same ∙ before_all-stop test xs n (n - 1) (omega arith) c.loop-end.invariant.inside (sym w.if-has.ensures))
      | else-loop-end-test w ↦ sym (c.loop-end.invariant.same ∙ before_all-none test xs n (omega arith))
    ]
