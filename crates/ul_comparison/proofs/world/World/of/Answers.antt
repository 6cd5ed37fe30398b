use Rattle.std.proofs.Common.{◌≡◌, sym, ◌∙◌, ap, subst, rules, arith, length, true≢false}
use Rattle.std.proofs.lemmas.List.{length-map}
use Rattle.std.specs.Prelude.{All, List}
use Rattle.ul_comparison.specs.Atoms.{AtomFields, IsAtom}
use Rattle.ul_comparison.specs.Rising.{rises}
use Rattle.ul_comparison.proofs.Rises.{rise, risen}
use Rattle.ul_comparison.proofs.world.World.of.Goals as goal
use Rattle.ul_comparison.proofs.world.World.of.Goals.{then-len-ne8-via-then-len-ne8, then-len-ne8-via-else-len-ne8+then-not-rises}

pub returns-then-len-ne8-clause-refused : goal.returns-then-len-ne8-clause-refused
returns-then-len-ne8-clause-refused c _ eight increasing = elim c.then-len-ne8.branch [
  | then-len-ne8-via-then-len-ne8 w ↦ w.if-len-ne8.true (c.len.ensures ∙ eight)
  | then-len-ne8-via-else-len-ne8+then-not-rises w ↦
      true≢false (sym (risen c.args.truths.items increasing) ∙ sym (ap rises w.deref.ensures.value) ∙ sym w.rises.ensures.rises ∙ w.if-not-rises.true)
]

pub invariant_of-result : goal.invariant_of-result
invariant_of-result c = record {
  major = search rules;
  minor = search rules;
  patch = search rules;
  texts = let eight : length c.args.texts.items ≡ 8 = omega arith in length-map c.args.texts.items _ ∙ eight;
  atoms = subst (λ (atoms : List AtomFields). All IsAtom atoms) c.deref.ensures.value (c.rises.ensures.atoms c.if-not-rises.false);
  increasing = rise c.args.truths.items (sym (ap rises c.deref.ensures.value) ∙ sym c.rises.ensures.rises ∙ c.if-not-rises.false);
}
