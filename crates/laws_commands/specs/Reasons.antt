-- What `why` prints of a refused fork is accepted by `check`.
use Rattle.std.specs.Prelude.{◌≡◌, ◌≤◌, ℕ, List, ◌++◌, Bool, length, Option, None, Some, Ok}
use Rattle.ul_files.specs.Files.{FileMap, content}
use Rattle.ul_nodes.specs.Plain.{Plain}
use Rattle.ul_tree.specs.Regions.{region_of}
use Rattle.ul_index.specs.Serves.{Selection, Serves}
use Rattle.ul_forks.specs.Outcome.{starts_of}
use Rattle.ul_report.specs.Texts.{refusal_text}
use Rattle.ul_report_read.specs.Proofs.{IsTextOf}
use Rattle.ul_report_read.specs.declared.proof.Proof.{Proof}
use Rattle.ul_inputs.specs.Inputs.{text_bytes}
use Rattle.ul_inputs.specs.Resolutions.{IsResolution, ResolutionFields, resolution_in}
use Rattle.laws_frames.specs.Frames.{AgreeOn}
use Rattle.laws_given.specs.Given.{HasTexts}
use Rattle.ul_answers.specs.Answer.{accepted, derived}
use Rattle.ul_commands.specs.Asked.{check, why}
use Rattle.ul_commands.specs.Checking.{IsCheckAnswer}
use Rattle.ul_commands.specs.Commands.{command}
use Rattle.ul_commands.specs.Questions.{question_of}
use Rattle.ul_commands.specs.Reasons.{IsWhyAnswer}

-- the text that `why` prints of a fork with the lines of a derivation
abbrev pub reason_text : List Bool → Plain → List ℕ → List ℕ
reason_text path region steps = refusal_text path region ++ steps

-- the text is that of a derivation that `check` accepts
pub record HasAcceptedProof (r : ResolutionFields) (text : List ℕ) : Type 0 where
  pub proof : Proof
  pub is_text : IsTextOf text proof
  pub answer : IsCheckAnswer r proof (Ok accepted)

-- what `why` prints of a resolution with such names and versions, where a file may be so long, is a derivation file that
-- `check` accepts on the same resolution
abbrev pub ReasonsAreAccepted : Type 0
ReasonsAreAccepted = (r : ResolutionFields) (path : List Bool) (region : Plain) (steps : List ℕ)
    → IsResolution r → HasTexts r
    → IsWhyAnswer r (Ok (derived path region steps)) → length (reason_text path region steps) ≤ text_bytes
    → HasAcceptedProof r (reason_text path region steps)

-- so `check`, which reads no old lock, accepts what `why` printed before, with any old lock and any number of workers, put
-- into a file, where what is read for the project and the index folder is the same
abbrev pub FilesAreAccepted : Type 0
FilesAreAccepted = (project folder derivation : List ℕ) (old : Option (List ℕ)) (workers : ℕ) (before now : FileMap)
    (path : List Bool) (region : Plain) (steps : List ℕ)
    → (command (why project folder workers old) before).gives (Ok (derived path region steps))
    → AgreeOn (resolution_in project folder None before).reads before now
    → content now derivation ≡ Some (reason_text path region steps) → length (reason_text path region steps) ≤ text_bytes
    → (command (check project folder derivation) now).gives (Ok accepted)

-- the region of a derivation that `check` accepts is served by no selection
abbrev pub AcceptedAreUnserved : Type 0
AcceptedAreUnserved = (r : ResolutionFields) (x : Proof) → IsCheckAnswer r x (Ok accepted)
    → (s : Selection) → Serves r.wish.strategy r.catalog (starts_of (question_of r)) (region_of x.region) s → ⊥
