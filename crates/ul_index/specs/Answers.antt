-- What the answers of readers say.
use Rattle.std.specs.Prelude.{◌≡◌, ℕ, Bool, List, Option, Result, Ok, Err, Vec, option_map}
use Rattle.std.specs.Borrow.{Bor}
use Rattle.serde_json.specs.View.{view, items_view}
use Rattle.serde_json.specs.Data.{Data}
use Rattle.serde_json.specs.declared.value.Value.{Value}
use Rattle.ul_version.specs.Fields.{Fields}
use Rattle.ul_specifier.specs.Clauses.{ClauseFields}
use Rattle.ul_requirement.specs.Fields.{RequirementFields, FileFields, ReleaseFields}
use Rattle.ul_index.specs.Documents.{DocumentFault, not_json, requirement_in, shape, wrong_name}
use Rattle.ul_index.specs.Json.{items_list}
use Rattle.ul_index.specs.Results.{read_each}
use Rattle.ul_index.specs.Usable.{EntryFields}
use Rattle.ul_index.specs.declared.fault.IndexFault.{IndexFault}
use Rattle.ul_index.specs.declared.fault.IndexFault.TheVariants.{NotJson, Shape, WrongName, NoMemory}

-- the result is the definition's answer; want of memory says nothing of it
abbrev pub Gives : {X Y : Type 0} → (X → Y) → Result X IndexFault → Result Y DocumentFault → Type 0
Gives view (Ok x) answer = answer ≡ Ok (view x)
Gives view (Err NotJson) answer = answer ≡ Err not_json
Gives view (Err (Shape place)) answer = answer ≡ Err (shape place)
Gives view (Err WrongName) answer = answer ≡ Err wrong_name
Gives view (Err NoMemory) answer = Unit {0}

-- a value that may stand behind a reference
abbrev pub value_view : Option (Bor Value) → Option Data
value_view = option_map (λ v. view v.now)

-- the values of an array, which stand behind a reference
abbrev pub values_view : Bor (List Value) → List Data
values_view vs = items_list (items_view vs.now)

-- a text that may stand behind a reference
abbrev pub text_view : Option (Bor (List ℕ)) → Option (List ℕ)
text_view = option_map (λ s. s.now)

-- requirements in a vector, if there are any
abbrev pub requirements_view : {Z : Type 0} → Option (Vec RequirementFields Z) → Option (List RequirementFields)
requirements_view = option_map (λ v. v.items)

-- files in a vector
abbrev pub files_view : {Z : Type 0} → Vec FileFields Z → List FileFields
files_view v = v.items

-- releases in a vector
abbrev pub releases_view : {Z : Type 0} → Vec ReleaseFields Z → List ReleaseFields
releases_view v = v.items

-- the requirements of values, where each is a text with a reading
abbrev pub required_by : List Value → Option (List RequirementFields)
required_by vs = read_each requirement_in (items_list (items_view vs))

-- the same of values that stand behind a reference
abbrev pub requirements_of_values : Bor (List Value) → Option (List RequirementFields)
requirements_of_values vs = required_by vs.now

-- an entry, by its parts
abbrev pub entry_with : Option Fields → Option (List ClauseFields) → Option (List RequirementFields) → Bool → List FileFields
    → Option (List ℕ) → EntryFields
entry_with version python requirements yanked files source =
    record { version = version; python = python; requirements = requirements; yanked = yanked; files = files; source = source }
