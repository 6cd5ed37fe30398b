use Rattle.std.proofs.Common.{◌≡◌, ◌+◌, ◌++◌, ◌≤◌, All, drop, flat_map, length}
use Rattle.ul_merge.specs.Runs.{IsCut, run_of}
use Rattle.ul_merge.proofs.runs.cuts_of.Given as goal

abbrev pub invariant-loop : goal.invariant-loop
invariant-loop l = record {
  count : length l.cuts.items + 1 ≡ l.counter;
  within : l.start ≤ length l.groups;
  all : flat_map (run_of l.groups) l.cuts.items ++ drop l.start l.groups ≡ l.groups;
  cuts : All (IsCut (length l.groups)) l.cuts.items;
}
