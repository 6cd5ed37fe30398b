use Rattle.std.proofs.Common.{◌≡◌, drop}
use Rattle.std.specs.List.{list_all}
use Rattle.ul_version.proofs.ascii.is_run.Given as goal

abbrev pub invariant-loop-i : goal.invariant-loop-i
invariant-loop-i g l = list_all (g.C.ByteClass.has l.class) l.text ≡ list_all (g.C.ByteClass.has l.class) (drop l.i l.text)
