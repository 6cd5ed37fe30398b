use Rattle.std.proofs.Common.{◌≡◌, length}
use Rattle.ul_blame.specs.Turns.{AreSome}
use Rattle.ul_blame.proofs.blame.last_ahead.Given as goal

abbrev pub invariant-loop-k : goal.invariant-loop-k
invariant-loop-k l = record { long : length l.last.items ≡ l.k; some : AreSome l.flags l.last.items }
