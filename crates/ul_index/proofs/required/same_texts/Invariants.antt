use Rattle.std.proofs.Common.{◌≡◌, drop}
use Rattle.ul_index.specs.Answers.{required_by}
use Rattle.ul_index.proofs.required.same_texts.Given as goal

abbrev pub invariant-loop-k : goal.invariant-loop-k
invariant-loop-k l =
    required_by (drop l.k l.some) ≡ required_by (drop l.k l.others) → required_by l.some ≡ required_by l.others
