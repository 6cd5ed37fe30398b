use Rattle.std.proofs.Common.{◌≡◌, ◌++◌, drop, map}
use Rattle.ul_merge.specs.Rows.{aim_of, aim_rows}
use Rattle.ul_merge.proofs.targets.aims_of.Given as goal

abbrev pub invariant-loop-place : goal.invariant-loop-place
invariant-loop-place l = map aim_of l.aims.items ++ aim_rows l.place (map (λ q. q.now) (drop l.place l.requirements)) ≡ aim_rows 0 (map (λ q. q.now) l.requirements)
