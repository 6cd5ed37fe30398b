use Rattle.std.proofs.Common.{◌≡◌, drop}
use Rattle.ul_index.specs.Serves.{choice_of}
use Rattle.ul_merge.proofs.choices.version_in.Given as goal

abbrev pub invariant-loop-pick : goal.invariant-loop-pick
invariant-loop-pick l = choice_of (drop l.pick-index l.picks) l.node ≡ choice_of l.picks l.node
