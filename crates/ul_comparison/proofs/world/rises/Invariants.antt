use Rattle.std.proofs.Common.{◌≡◌, drop, take}
use Rattle.std.specs.Prelude.{All}
use Rattle.ul_comparison.specs.Atoms.{IsAtom}
use Rattle.ul_comparison.specs.Rising.{rises, rises_after}
use Rattle.ul_comparison.proofs.world.rises.Given as goal

abbrev pub invariant-loop-atom : goal.invariant-loop-atom
invariant-loop-atom l = record {
  rises : rises_after l.last (drop l.atom-index l.rest) ≡ rises l.atoms;
  seen : All IsAtom (take l.atom-index l.rest);
}
