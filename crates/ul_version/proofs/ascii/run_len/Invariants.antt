use Rattle.std.proofs.Common.{◌≡◌, ◌+◌, drop}
use Rattle.ul_version.specs.Ascii.{run_length}
use Rattle.ul_version.proofs.ascii.run_len.Given as goal

abbrev pub invariant-loop-i : goal.invariant-loop-i
invariant-loop-i g l =
    run_length (g.C.ByteClass.has l.class) l.text ≡ l.i + run_length (g.C.ByteClass.has l.class) (drop l.i l.text)
