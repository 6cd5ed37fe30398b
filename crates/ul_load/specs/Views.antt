-- What the code's progress stands for.
use Rattle.std.specs.Prelude.{List, map}
use Rattle.std.specs.List.{flat_map}
use Rattle.ul_comparison.specs.Atoms.{AtomFields}
use Rattle.ul_requirement.specs.Truth.{atoms_in}
use Rattle.ul_project.specs.Sources.{SourceFields}
use Rattle.ul_load.specs.Loading.{ProgressFields}
use Rattle.ul_load.specs.declared.comparisons.Comparisons.{Comparisons}
use Rattle.ul_load.specs.declared.progress.Progress.{Progress}

-- the comparisons of a set, in order
abbrev pub atoms_view : Comparisons → List AtomFields
atoms_view set = map (λ k. k.atom) set.keys.keys

-- the opaque comparisons of the conditions of a name's sources
abbrev pub atoms_of_sources : List SourceFields → List AtomFields
atoms_of_sources = flat_map (λ s. atoms_in s.condition)

-- the progress as plain data
abbrev pub progress_view : Progress → ProgressFields
progress_view p = record {
  names = p.names.keys;
  packages = p.packages.items;
  bytes = p.bytes;
  entries = p.entries;
  comparisons = atoms_view p.comparisons;
}
