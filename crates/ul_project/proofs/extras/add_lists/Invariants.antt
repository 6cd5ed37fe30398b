use Rattle.std.proofs.Common.{◌≡◌, ◌++◌, map}
use Rattle.ul_project.specs.Extras.{extra_requirements, extra_size}
use Rattle.ul_project.specs.Lists.{names_of}
use Rattle.ul_project.proofs.extras.add_lists.Given as goal

abbrev pub invariant-loop-name : goal.invariant-loop-name
invariant-loop-name l = record {
  requirements : l.requirements.items ++ extra_requirements l.name-iterator ≡ l.fn.requirements.items ++ extra_requirements l.fn.lists.entries;
  extras : l.extras.items ++ names_of l.name-iterator ≡ names_of l.fn.lists.entries;
  sizes : l.sizes.items ++ map extra_size l.name-iterator ≡ map extra_size l.fn.lists.entries;
}
