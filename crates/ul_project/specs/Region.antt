-- The worlds that a project supports.
use Rattle.std.specs.Prelude.{List, [], ◌∷◌, ◌&&◌, Bool, true}
use Rattle.std.specs.List.{list_any}
use Rattle.ul_version.specs.Fields.{plain}
use Rattle.ul_specifier.specs.Clauses.{ClauseFields}
use Rattle.ul_specifier.specs.Meaning.{meets_list}
use Rattle.ul_comparison.specs.Formulas.{Formula}
use Rattle.ul_comparison.specs.Truth.{marker_holds, python_release}
use Rattle.ul_comparison.specs.Worlds.{WorldFields}

-- the world's interpreter meets `requires-python`
abbrev pub meets_python : List ClauseFields → WorldFields → Bool
meets_python python w = meets_list python (plain (python_release true w))

-- an environment holds with the empty extra
abbrev pub holds_bare : WorldFields → Formula → Bool
holds_bare w m = marker_holds m w []

-- some environment holds
abbrev pub some_holds : List Formula → WorldFields → Bool
some_holds environments w = list_any (holds_bare w) environments

-- some environment holds, or there is none
abbrev pub in_environments : List Formula → WorldFields → Bool
in_environments [] w = true
in_environments (m ∷ ms) w = some_holds (m ∷ ms) w

-- the project supports the world: its interpreter meets `requires-python`, and some environment holds
abbrev pub is_supported : List ClauseFields → List Formula → WorldFields → Bool
is_supported python environments w = meets_python python w && in_environments environments w
