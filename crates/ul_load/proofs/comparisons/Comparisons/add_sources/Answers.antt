use Rattle.std.proofs.Common.{List, ◌∙◌, refl}
use Rattle.std.specs.BTreeSet.{insert_key}
use Rattle.ul_comparison.specs.Atoms.{AtomFields, atom_cmp}
use Rattle.ul_project.specs.Lists.{Named}
use Rattle.ul_project.specs.Sources.{SourceFields}
use Rattle.ul_load.specs.Views.{atoms_of_sources}
use Rattle.ul_load.proofs.Sets.{fold_next}
use Rattle.ul_load.proofs.comparisons.Comparisons.add_sources.Goals as goal

pub loop-named-preserved : goal.loop-named-preserved
loop-named-preserved c =
    fold_next (insert_key atom_cmp) (λ (atoms : List AtomFields). atoms) (λ (named : Named (List SourceFields)). atoms_of_sources named.1) (λ xs ys. refl)
    c.args.sources.now c.loop-named.named-index c.named-item.result _ _ c.loop-named-test.true c.named-item.is c.in_ok-add_name.ensures
    ∙ c.loop-named.invariant
