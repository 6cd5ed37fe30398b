use Rattle.std.specs.Prelude.{◌≡◌, ◌≤◌, ◌++◌, ℕ, suc, length}
use Rattle.ul_conflict.specs.Needed.{IsMarked, ArePartsMarked}
use Rattle.ul_conflict.proofs.pruning.needed.Given as goal

abbrev pub invariant-loop-place : goal.invariant-loop-place
invariant-loop-place l = record {
  within : l.place ≤ l.count;
  counted : length l.marks.items ≡ l.count;
  last : (k : ℕ) → l.count ≡ suc k → IsMarked l.marks.items k;
  parts : ArePartsMarked (l.held ++ l.learned) l.place l.marks.items;
}

abbrev pub decreases-loop-place : goal.decreases-loop-place
decreases-loop-place l = l.place
