-- What the answers of the readers say.
use Rattle.std.specs.Prelude.{◌≡◌, ℕ, List, Option, Some, None, Result, Ok, Err, String, Vec, map, option_map}
use Rattle.std.specs.BTreeMap.{BTreeMap}
use Rattle.std.specs.Borrow.{Bor}
use Rattle.std.specs.declared.alloc.Global.{Global}
use Rattle.toml.specs.Data.{Data, Members, no_members}
use Rattle.toml.specs.View.{items_view, table_view, view}
use Rattle.toml.specs.declared.value.Value.{Value}
use Rattle.ul_comparison.specs.Formulas.{Formula}
use Rattle.ul_marker.specs.Views.{marker_view}
use Rattle.ul_marker.specs.declared.marker.Marker.{Marker}
use Rattle.ul_comparison.specs.Worlds.{IsWorld, WorldFields}
use Rattle.ul_requirement.specs.Fields.{RequirementFields}
use Rattle.ul_tree.specs.Joining.{truths_of}
use Rattle.ul_tree.specs.declared.tree.Tree.{Tree}
use Rattle.ul_project.specs.Fields.{ProjectFields}
use Rattle.ul_project.specs.Headline.{IsOf, IsNowhere}
use Rattle.ul_project.specs.ProjectFile.{FileFields, RequiredFields}
use Rattle.ul_project.specs.Region.{holds_bare}
use Rattle.ul_project.specs.Settings.{SettingsFields}
use Rattle.ul_project.specs.Shapes.{Reading, not_toml, requirement_fault, shape, unsupported}
use Rattle.ul_project.specs.Toml.{items_list}
use Rattle.ul_project.specs.declared.fault.ProjectFault.{ProjectFault}
use Rattle.ul_project.specs.declared.fault.ProjectFault.TheVariants.{NotToml, Shape, Requirement, Unsupported, EmptyRegion, NoMemory}
use Rattle.ul_project.specs.declared.path.ArrayPlace.{ArrayPlace}
use Rattle.ul_project.specs.declared.path.ArrayPlace.TheVariants as lent
use Rattle.ul_project.specs.declared.path.Place.{Place}
use Rattle.ul_project.specs.declared.path.Place.TheVariants as place
use Rattle.ul_project.specs.declared.reading.Required.{Required}

-- the result is the definition's answer; want of memory says nothing of it, and no reader judges the region
abbrev pub Gives : {X Y : Type 0} → (X → Y) → Result X ProjectFault → Reading Y → Type 0
Gives view (Ok x) answer = answer ≡ Ok (view x)
Gives view (Err NotToml) answer = answer ≡ Err not_toml
Gives view (Err (Shape path)) answer = answer ≡ Err (shape path)
Gives view (Err (Requirement path)) answer = answer ≡ Err (requirement_fault path)
Gives view (Err (Unsupported path)) answer = answer ≡ Err (unsupported path)
Gives view (Err EmptyRegion) answer = ⊥
Gives view (Err NoMemory) answer = Unit {0}

-- a value that may stand behind a reference
abbrev pub value_view : Option (Bor Value) → Option Data
value_view = option_map (λ v. view v.now)

-- the values of an array, which stand behind a reference
abbrev pub values_view : Bor (List Value) → List Data
values_view vs = items_list (items_view vs.now)

-- a table that may stand behind a reference; nothing is as the empty one
abbrev pub members_view : Option (Bor (BTreeMap (String Global) Value)) → Members
members_view None = no_members
members_view (Some table) = table_view table.now

-- the elements of a vector
abbrev pub list_view : {A Z : Type 0} → Vec A Z → List A
list_view v = v.items

-- the formulas of markers in a vector
abbrev pub formulas_view : {Z : Type 0} → Vec Marker Z → List Formula
formulas_view v = map marker_view v.items

-- trees have the truths of environments
abbrev pub HoldAsEnvironments : List Tree → List Marker → Type 0
HoldAsEnvironments trees environments =
    (w : WorldFields) (x : List ℕ) → IsWorld w → truths_of trees w x ≡ map (λ m. holds_bare w (marker_view m)) environments

-- what is answered of a file that was read
abbrev pub IsAnswerOf : FileFields → Result ProjectFields ProjectFault → Type 0
IsAnswerOf file (Ok p) = IsOf file p
IsAnswerOf file (Err NotToml) = ⊥
IsAnswerOf file (Err (Shape path)) = ⊥
IsAnswerOf file (Err (Requirement path)) = ⊥
IsAnswerOf file (Err (Unsupported path)) = ⊥
IsAnswerOf file (Err EmptyRegion) = IsNowhere file
IsAnswerOf file (Err NoMemory) = Unit {0}

-- the place of an array, whose name is lent
abbrev pub place_of : ArrayPlace → Place
place_of (lent.Key k) = place.Key k
place_of (lent.Extra name) = place.Extra name.now
place_of (lent.Group name) = place.Group name.now
place_of (lent.Sources name) = place.Sources name.now

-- what a file requires
abbrev pub required_view : Required → RequiredFields
required_view r = record { requirements = r.requirements.items; extras = r.extras.entries; groups = r.groups.entries }

-- the requirements of the group `dev`, and what is asked of the resolver
abbrev pub asked_view : {Z : Type 0} → Vec RequirementFields Z × SettingsFields → List RequirementFields × SettingsFields
asked_view asked = (asked.0.items, asked.1)

-- three lists of requirements
abbrev pub listed_view : {Y Z W : Type 0} → Vec RequirementFields Y × Vec RequirementFields Z × Vec RequirementFields W → List RequirementFields × List RequirementFields × List RequirementFields
listed_view listed = (listed.0.items, listed.1.items, listed.2.items)
