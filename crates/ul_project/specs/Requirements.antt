-- Lists of requirements (PEP 508, PEP 621).
use Rattle.std.specs.Prelude.{ℕ, List, [], ◌∷◌, Bool, true, false, Option, Some, None, Ok, Err, ◌||◌, if◌then◌else◌}
use Rattle.toml.specs.Data.{Data}
use Rattle.ul_comparison.specs.Formulas.{Formula}
use Rattle.ul_marker.specs.Parts.{asks_extra}
use Rattle.ul_requirement.specs.Fields.{RequirementFields}
use Rattle.ul_requirement.specs.Reading as grammar
use Rattle.ul_requirement.specs.Reading.{reading_of}
use Rattle.ul_project.specs.Results.{◌>>=◌, each_from, or_fault}
use Rattle.ul_project.specs.Shapes.{Reading, optional_items_at, requirement_fault, text_at, unsupported}
use Rattle.ul_project.specs.declared.path.Place.{Place}
use Rattle.ul_project.specs.declared.path.ProjectPath.{ProjectPath}
use Rattle.ul_project.specs.declared.path.ProjectPath.TheVariants.{Whole, Entry}
use Rattle.ul_project.specs.declared.profile.Profile.{Profile}
use Rattle.ul_project.specs.declared.profile.Profile.TheVariants.{Strict, Wide}

-- a requirement by a URL: the profile `strict` doesn't support it; for `wide` it is what it requires
abbrev pub address_read : Profile → ProjectPath → Option RequirementFields → Reading RequirementFields
address_read Strict path required = Err (unsupported path)
address_read Wide path required = or_fault (requirement_fault path) required

-- the requirement of a reading
abbrev pub requirement_read : Profile → ProjectPath → grammar.Reading → Reading RequirementFields
requirement_read profile path (grammar.requirement q) = Ok q
requirement_read profile path (grammar.by_url required) = address_read profile path required
requirement_read profile path grammar.unread = Err (requirement_fault path)

-- an entry that is a requirement: a text, and then one with a reading that the profile has
unfoldable pub requirement_at : Profile → Place → ℕ → Data → Reading RequirementFields
requirement_at profile place i d =
    text_at (Entry place i) (Some d) >>= λ text. requirement_read profile (Entry place i) (reading_of text)

-- the requirements of an array, where there is one; the first entry that is refused answers
unfoldable pub requirements_at : Profile → Place → Option Data → Reading (List RequirementFields)
requirements_at profile place value = optional_items_at (Whole place) value >>= each_from (requirement_at profile place) 0

-- ---- constraints and overrides

-- a comparison with `extra` stands in the marker
abbrev pub may_ask_extra : Option Formula → Bool
may_ask_extra None = false
may_ask_extra (Some m) = asks_extra m

-- the requirement has extras
abbrev pub has_extras : {A : Type 0} → List A → Bool
has_extras [] = false
has_extras (x ∷ xs) = true

-- the requirement has extras, or its marker asks for one
abbrev pub speaks_of_extras : RequirementFields → Bool
speaks_of_extras q = has_extras q.extras || may_ask_extra q.marker

-- a requirement that speaks of no extra
abbrev pub without_extras : ProjectPath → RequirementFields → Reading RequirementFields
without_extras path q = if speaks_of_extras q then Err (unsupported path) else Ok q

-- an entry that is a constraint or an override: a requirement without extras whose marker asks for none
unfoldable pub bound_at : Profile → Place → ℕ → Data → Reading RequirementFields
bound_at profile place i d = requirement_at profile place i d >>= without_extras (Entry place i)

-- the constraints, or the overrides, of an array, where there is one
unfoldable pub bounds_at : Profile → Place → Option Data → Reading (List RequirementFields)
bounds_at profile place value = optional_items_at (Whole place) value >>= each_from (bound_at profile place) 0
