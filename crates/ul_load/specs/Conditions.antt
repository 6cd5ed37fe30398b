-- What loading begins with for a project: the comparisons of its sources' conditions count as its own.
use Rattle.std.specs.Prelude.{List, filter_map}
use Rattle.std.specs.List.{flat_map}
use Rattle.ul_comparison.specs.Formulas.{Formula}
use Rattle.ul_project.specs.Fields.{ProjectFields}
use Rattle.ul_project.specs.Lists.{Named}
use Rattle.ul_project.specs.Sources.{SourceFields}
use Rattle.ul_load.specs.Loading.{Beginning, beginning_of}

-- the conditions of the sources of names, in order
abbrev pub conditions_of : List (Named (List SourceFields)) → List Formula
conditions_of = flat_map (λ named. filter_map (λ s. s.condition) named.1)

-- what loading begins with
abbrev pub beginning : ProjectFields → Beginning
beginning p = beginning_of p.package p.environments (conditions_of p.sources) p.constraints p.overrides
