use Rattle.std.proofs.Common.{◌≡◌, ◌++◌, drop, map}
use Rattle.ul_merge.specs.Edges.{picked}
use Rattle.ul_merge.specs.declared.targets.Use.{Use}
use Rattle.ul_merge.proofs.edges.truths_at.Given as goal

abbrev pub invariant-loop-one : goal.invariant-loop-one
invariant-loop-one l = l.marks.items ++ picked l.truths (map (λ (u : Use). u.requirement) (drop l.one-index l.uses)) ≡ picked l.truths (map (λ (u : Use). u.requirement) l.uses)
