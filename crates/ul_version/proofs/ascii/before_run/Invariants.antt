use Rattle.std.proofs.Common.{◌≡◌, ◌≤◌, length, take}
use Rattle.ul_version.specs.Ascii.{before_all}
use Rattle.ul_version.proofs.ascii.before_run.Given as goal

abbrev pub invariant-loop-end : goal.invariant-loop-end
invariant-loop-end g l = record {
  inside : l.end ≤ length l.text;
  same : before_all (g.C.ByteClass.has l.class) l.text ≡ before_all (g.C.ByteClass.has l.class) (take l.end l.text);
}

abbrev pub decreases-loop-end : goal.decreases-loop-end
decreases-loop-end g l = l.end
