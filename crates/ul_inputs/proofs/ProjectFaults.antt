-- Refusals of project files.
use Rattle.std.proofs.Common.{ℕ, List, Err, refl, inl, inr}
use Rattle.ul_project.specs.Fields.{ProjectFields}
use Rattle.ul_project.specs.Headline.{IsAnswer}
use Rattle.ul_project.specs.Shapes as fault
use Rattle.ul_project.specs.declared.fault.ProjectFault.{ProjectFault}
use Rattle.ul_project.specs.declared.fault.ProjectFault.TheVariants.{NotToml, Shape, Requirement, Unsupported, EmptyRegion, NoMemory}
use Rattle.ul_groups.specs.Answers.{Gives}
use Rattle.ul_groups.specs.Expanded.{Expanding, refused}
use Rattle.ul_inputs.specs.Inputs.{only}
use Rattle.ul_inputs.specs.Projects.{IsExpanded, IsProjectOf, refused_project}
use Rattle.ul_inputs.specs.Refusals.{Answers, IsRefusalFor}
use Rattle.ul_inputs.specs.declared.refusal.Refusal.{Refusal}
use Rattle.ul_inputs.proofs.ForCallers.{refused_by, refused_none}

abbrev own : ProjectFields → ProjectFields
own p = p

pub said_fault : (path bytes : List ℕ) (f : ProjectFault) (e : Refusal) → IsAnswer bytes (Err f) → IsRefusalFor (refused_project path f) e
    → Answers {T = ProjectFields} (λ p. p) (Err e) (only (IsProjectOf path bytes))
said_fault path bytes NotToml e said is = refused_by own _ e (only (IsProjectOf path bytes)) is (inl (record { fault = fault.not_toml; first = said; is = refl }))
said_fault path bytes (Shape place) e said is = refused_by own _ e (only (IsProjectOf path bytes)) is (inl (record { fault = fault.shape place; first = said; is = refl }))
said_fault path bytes (Requirement place) e said is = refused_by own _ e (only (IsProjectOf path bytes)) is (inl (record { fault = fault.requirement_fault place; first = said; is = refl }))
said_fault path bytes (Unsupported place) e said is = refused_by own _ e (only (IsProjectOf path bytes)) is (inl (record { fault = fault.unsupported place; first = said; is = refl }))
said_fault path bytes EmptyRegion e said is = refused_by own _ e (only (IsProjectOf path bytes)) is (inr (record { nowhere = said; is = refl }))
said_fault path bytes NoMemory e said is = refused_none own e (only (IsProjectOf path bytes)) is

pub expanded_fault : (path : List ℕ) (expanding : Expanding ProjectFields) (f : ProjectFault) (e : Refusal)
    → Gives {X = ProjectFields} (λ p. p) (Err f) expanding → IsRefusalFor (refused_project path f) e
    → Answers {T = ProjectFields} (λ p. p) (Err e) (only (IsExpanded path expanding))
expanded_fault path expanding NotToml e said is = absurd said
expanded_fault path expanding (Shape place) e said is = rw said (refused_by own _ e (only (IsExpanded path (Err (refused place)))) is refl)
expanded_fault path expanding (Requirement place) e said is = absurd said
expanded_fault path expanding (Unsupported place) e said is = absurd said
expanded_fault path expanding EmptyRegion e said is = absurd said
expanded_fault path expanding NoMemory e said is = refused_none own e (only (IsExpanded path expanding)) is
