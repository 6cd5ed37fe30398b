use Rattle.std.proofs.Common.{List, ◌∙◌, refl}
use Rattle.std.specs.BTreeSet.{insert_key}
use Rattle.ul_comparison.specs.Atoms.{AtomFields, atom_cmp}
use Rattle.ul_requirement.specs.Truth.{atoms_in}
use Rattle.ul_project.specs.Sources.{SourceFields}
use Rattle.ul_load.proofs.Sets.{fold_next}
use Rattle.ul_load.proofs.comparisons.Comparisons.add_sources_of.Goals as goal

pub loop-source-preserved : goal.loop-source-preserved
loop-source-preserved c =
    fold_next (insert_key atom_cmp) (λ (atoms : List AtomFields). atoms) (λ (s : SourceFields). atoms_in s.condition) (λ xs ys. refl)
    c.args.sources.now c.loop-source.source-index c.source-item.result _ _ c.loop-source-test.true c.source-item.is c.in_ok-add_source.ensures
    ∙ c.loop-source.invariant
