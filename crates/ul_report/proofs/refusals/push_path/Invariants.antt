use Rattle.std.proofs.Common.{◌≡◌, ◌++◌, drop, map, string_bytes}
use Rattle.ul_report.specs.Texts.{digit}
use Rattle.ul_report.proofs.refusals.push_path.Given as goal

abbrev pub invariant-loop-step : goal.invariant-loop-step
invariant-loop-step l = string_bytes l.out ++ map digit (drop l.step-index l.path) ≡ string_bytes l.fn.out ++ map digit l.path
