use Rattle.std.proofs.Common.{◌-◌, arith, drop, length, subst, take}
use Rattle.std.proofs.lemmas.Grind.{common_steps}
use Rattle.std.proofs.lemmas.List.Elements.{All-more}
use Rattle.ul_comparison.specs.Atoms.{AtomFields, IsAtom}
use Rattle.ul_comparison.proofs.Rises.{all_from}
use Rattle.ul_comparison.proofs.world.rises.Goals as goal

pub loop-atom-preserved : goal.loop-atom-preserved
loop-atom-preserved c = record {
  rises = grind (arith, common_steps);
  seen =
      All-more IsAtom (take (length c.args.atoms.now - 1) (drop 1 c.args.atoms.now)) c.loop-atom.atom-index c.atom-item.result c.loop-atom-test.true
      c.loop-atom.invariant.seen (subst (λ (a : AtomFields). IsAtom a) c.atom-item.is c.comes_before.ensures.other);
}

pub returns-clause-atoms : goal.returns-clause-atoms
returns-clause-atoms c _ =
    all_from c.args.atoms.now c.first-item.result c.loop-atom.atom-index c.in-len1-up.len_at_least c.first-item.is (rw (← c.first.view_is) c.first.invariant)
    c.loop-atom-test.false c.loop-atom.invariant.seen
