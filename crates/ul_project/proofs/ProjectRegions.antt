-- The project of a file and a region; and a region that is false.
use Rattle.std.proofs.Common.{◌≡◌, ◌∙◌, ℕ, List, [], true, false, sym, ap, subst}
use Rattle.std.specs.Prelude.{Result, Ok, Err}
use Rattle.ul_comparison.specs.Worlds.{WorldFields, IsWorld}
use Rattle.ul_nodes.specs.Plain.{Plain, truth}
use Rattle.ul_tree.specs.Regions.{HasTruth}
use Rattle.ul_tree.specs.FirstParts.{is_false}
use Rattle.ul_tree.specs.Values.{tree_holds}
use Rattle.ul_tree.proofs.ForCallers.{false_is, holds_somewhere, no_extra, region_tree}
use Rattle.ul_project.specs.Answers.{Gives, IsAnswerOf}
use Rattle.ul_project.specs.Fields.{ProjectFields}
use Rattle.ul_project.specs.Headline.{IsAnswer, IsNowhere, IsOf, supported_by}
use Rattle.ul_project.specs.ProjectFile.{FileFields, file_of, project_with}
use Rattle.ul_project.specs.declared.fault.ProjectFault.{ProjectFault}
use Rattle.ul_project.specs.declared.fault.ProjectFault.TheVariants.{NotToml, Shape, Requirement, Unsupported, EmptyRegion, NoMemory}

held_by : (file : FileFields) (t : Plain) → HasTruth t (supported_by file) → (t ≡ truth false → ⊥) → (w : WorldFields) × IsWorld w × (supported_by file w ≡ true)
held_by file t h some =
    let s = holds_somewhere.without_extra t h.reduced some (no_extra.region t (region_tree t (supported_by file) h)) in
    (s.0, s.1, sym (h.truth s.0 [] s.1) ∙ s.2 [])

is_of : (file : FileFields) (t r : Plain) (p : ProjectFields) → p.region ≡ t → p ≡ project_with t file → HasTruth t (supported_by file) → (t ≡ truth false → ⊥) → IsOf file p
is_of file t r p e fields h some = record {
  fields = fields ∙ ap (λ z. project_with z file) (sym e);
  region = subst (λ z. HasTruth z (supported_by file)) (sym e) h;
  somewhere = held_by file t h some;
}

-- a project that has a file's parts and the region of its worlds
pub is_project : (file : FileFields) (t : Plain) (p : ProjectFields) → p ≡ project_with t file → HasTruth t (supported_by file) → (t ≡ truth false → ⊥) → IsOf file p
is_project file t p fields h some = is_of file t t p (ap (λ (q : ProjectFields). q.region) fields) fields h some

-- a false region is that of no world
pub is_nowhere : (file : FileFields) (t : Plain) → is_false t ≡ true → HasTruth t (supported_by file) → IsNowhere file
is_nowhere file t e h w is = sym (h.truth w [] is) ∙ ap (λ z. tree_holds z w []) (false_is t e)

-- a fault of the file is the answer
pub is_fault : {X : Type 0} (view : X → FileFields) (bytes : List ℕ) (fault : ProjectFault) → Gives view (Err fault) (file_of bytes) → IsAnswer bytes (Err fault)
is_fault view bytes NotToml h = h
is_fault view bytes (Shape path) h = h
is_fault view bytes (Requirement path) h = h
is_fault view bytes (Unsupported path) h = h
is_fault view bytes EmptyRegion h = absurd h
is_fault view bytes NoMemory h = tt

-- what is answered of the file that the bytes say is the answer
pub is_answer : (bytes : List ℕ) (file : FileFields) (r : Result ProjectFields ProjectFault) → file_of bytes ≡ Ok file → IsAnswerOf file r → IsAnswer bytes r
is_answer bytes file (Ok p) said h = record { file = file; said = said; project = h }
is_answer bytes file (Err NotToml) said h = absurd h
is_answer bytes file (Err (Shape path)) said h = absurd h
is_answer bytes file (Err (Requirement path)) said h = absurd h
is_answer bytes file (Err (Unsupported path)) said h = absurd h
is_answer bytes file (Err EmptyRegion) said h = record { file = file; said = said; nowhere = h }
is_answer bytes file (Err NoMemory) said h = tt
