-- Which versions of a name specifiers permit.
use Rattle.std.specs.Prelude.{◌≡◌, ◌<◌, ◌^◌, ℕ, List, Bool, Some, length, map, slice_get}
use Rattle.ul_problem.specs.Problems.{Increases, VersionBefore}
use Rattle.ul_specifier.specs.Clauses.{ClauseFields}
use Rattle.ul_specifier.specs.Meaning.{meets_list}
use Rattle.ul_prepared.specs.declared.prepared.NameFacts.{NameFacts}
use Rattle.ul_prepared.specs.declared.permitted.SetOf.{SetOf}

-- the set has the versions of the name at a place that meet the specifiers
pub record IsPermitted (names : List NameFacts) (name : ℕ) (specifiers : List ClauseFields) (set : List Bool) : Type 0 where
  pub facts : NameFacts
  pub at : slice_get names name ≡ Some facts
  pub is : set ≡ map (meets_list specifiers) facts.versions

-- a set that was found for a name and specifiers
abbrev pub IsSetOf : List NameFacts → SetOf → Type 0
IsSetOf names s = IsPermitted names s.name s.specifiers.now s.set

-- a name's versions rise, and are fewer than places can tell
pub record IsRising (f : NameFacts) : Type 0 where
  pub few : length f.versions < 2 ^ 32
  pub rising : Increases VersionBefore f.versions
