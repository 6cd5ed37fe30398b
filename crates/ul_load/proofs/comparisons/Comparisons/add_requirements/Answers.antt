use Rattle.std.proofs.Common.{List, ◌∙◌, ap, refl}
use Rattle.std.specs.BTreeSet.{insert_key}
use Rattle.ul_comparison.specs.Atoms.{AtomFields, atom_cmp}
use Rattle.ul_requirement.specs.Truth.{atoms_of_requirement}
use Rattle.ul_load.specs.Loading.{comparisons_with}
use Rattle.ul_load.specs.Views.{atoms_view}
use Rattle.ul_load.proofs.Sets.{fold_next}
use Rattle.ul_load.proofs.comparisons.Comparisons.add_requirements.Goals as goal

pub loop-requirement-preserved : goal.loop-requirement-preserved
loop-requirement-preserved c =
    fold_next (insert_key atom_cmp) (λ (atoms : List AtomFields). atoms) atoms_of_requirement (λ xs ys. refl) c.args.requirements.now c.loop-requirement.requirement-index c.requirement-item.result _ _
    c.loop-requirement-test.true c.requirement-item.is (c.in_ok-add.ensures ∙ ap (comparisons_with (atoms_view c.loop-requirement.self)) c.in_ok-atoms.ensures)
    ∙ c.loop-requirement.invariant
