-- The project of a project file is given.
use Rattle.std.proofs.Common.{◌≡◌, ℕ, List, true, Result, Ok, Err, refl, inl, inr}
use Rattle.std.proofs.lemmas.Bool.{false_from_ne_true}
use Rattle.std.specs.Prelude.{codes}
use Rattle.ul_files.specs.Files.{FileMap}
use Rattle.ul_marker.specs.ReadingLaws.{ReadIsFormula}
use Rattle.ul_nodes.specs.Plain.{Plain}
use Rattle.ul_tree.specs.Regions.{HasTruth}
use Rattle.ul_index.specs.Regions.{Somewhere}
use Rattle.ul_project.specs.Fields.{ProjectFields}
use Rattle.ul_project.specs.Headline.{supported_by}
use Rattle.ul_project.specs.ProjectFile.{FileFields, file_of, project_with}
use Rattle.ul_project.specs.Shapes.{Fault}
use Rattle.ul_groups.specs.Expanded.{Expanding, expanded_project, refused}
use Rattle.ul_load.specs.Loading.{file_bytes}
use Rattle.ul_inputs.specs.Inputs.{answer, small_file}
use Rattle.ul_inputs.specs.Projects.{IsExpanded, IsProjectOf, fault_text, project_at, project_said}
use Rattle.ul_inputs.specs.Refused.{Refused, malformed}
use Rattle.laws_trees.specs.Decided.{Decided, RegionsDecide}
use Rattle.laws_trees.specs.Trees.{TruthTrees}
use Rattle.laws_trees.proofs.ForCallers.{always_has}
use Rattle.laws_given.proofs.ForCallers.{file_formulas}
use Rattle.laws_existence.specs.Inputs.{IsGiven}
use Rattle.laws_existence.proofs.Sequenced.{given_file, given_then}

-- what a project rests on: what is read of a marker is a formula, truths have trees, and what holds somewhere in a
-- region is decided
pub record ProjectLaws : Type 0 where
  pub reads : ReadIsFormula
  pub trees : TruthTrees
  pub decide : RegionsDecide

-- the bytes say a project, or a fault
abbrev Says : (path bytes : List ℕ) → Type 0
Says path bytes = (r : Result ProjectFields Refused) × IsProjectOf path bytes r

by_region : (path bytes : List ℕ) (file : FileFields) → file_of bytes ≡ Ok file → (t : Plain)
    → HasTruth t (supported_by file) → Decided (Somewhere (supported_by file) (λ w. true)) → Says path bytes
by_region path bytes file said t has (inl at) = (
  Ok (project_with t file),
  record {
    file = file;
    said = said;
    project = record { fields = refl; region = has; somewhere = (at.0, at.1, at.2) };
  },
)
by_region path bytes file said t has (inr none) = (
  Err (malformed path (codes "empty region")),
  inr (record {
    nowhere = record {
      file = file;
      said = said;
      nowhere = λ w is. false_from_ne_true (supported_by file w) (λ e. none (w, is, e, refl));
    };
    is = refl;
  }),
)

by_file : ProjectLaws → (path bytes : List ℕ) (read : Result FileFields Fault) → file_of bytes ≡ read → Says path bytes
by_file laws path bytes (Err f) is =
    (Err (malformed path (fault_text f)), inl (record { fault = f; first = is; is = refl }))
by_file laws path bytes (Ok file) is =
    let formulas = file_formulas laws.reads bytes file is in
    let tree = laws.trees.supported file.head.python file.settings.environments formulas in
    let at = laws.decide.somewhere (supported_by file) (λ w. true) tree (always_has true) in
    by_region path bytes file is tree.0 tree.1 at

expanded_given : (path : List ℕ) (x : Expanding ProjectFields)
    → (r : Result ProjectFields Refused) × IsExpanded path x r
expanded_given path (Ok p) = (Ok p, refl)
expanded_given path (Err (refused place)) = (_, refl)

said_given : ProjectLaws → (path bytes : List ℕ) (m : FileMap) → IsGiven (project_said path bytes) m
said_given laws path bytes m =
    given_then (answer (IsProjectOf path bytes)) (λ p. answer (IsExpanded path (expanded_project p))) m
    (by_file laws path bytes (file_of bytes) refl) (λ p gave. expanded_given path (expanded_project p))

-- the project of a project file is given
pub project_given : ProjectLaws → (path : List ℕ) (m : FileMap) → IsGiven (project_at path) m
project_given laws path m =
    given_then (small_file path) (project_said path) m (given_file (codes "file-bytes") file_bytes path m)
    (λ bytes gave. said_given laws path bytes m)
