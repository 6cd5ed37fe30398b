-- What is answered to a file of markers.
use Rattle.std.proofs.Common.{ℕ, List, Result, Ok, Err, Vec, Global, refl}
use Rattle.ul_canonical.specs.Answers.{IsCanonical, Tells, unread, many_comparisons, many_paths, long_text}
use Rattle.ul_canonical.specs.declared.fault.CanonicalFault.{CanonicalFault}
use Rattle.ul_canonical.specs.declared.fault.CanonicalFault.TheVariants.{Line, TooManyComparisons, TooManyPaths, TooLong, NoMemory}
use Rattle.ul_answers.specs.Views.{view as answer_view}
use Rattle.ul_answers.specs.declared.answer.Answer.{Answer}
use Rattle.ul_answers.specs.declared.answer.Answer.TheVariants.{Canonical}
use Rattle.ul_inputs.specs.Inputs.{only}
use Rattle.ul_inputs.specs.Refusals.{Answers, IsRefusalFor}
use Rattle.ul_inputs.specs.declared.refusal.Refusal.{Refusal}
use Rattle.ul_inputs.proofs.ForCallers.{refused_by, refused_none}
use Rattle.ul_commands.specs.Markers.{IsMarkerAnswer, refused_fault}

-- the texts that are told
pub texts_told : (path bytes : List ℕ) (v : Vec ℕ Global) → Tells (IsCanonical bytes) (Ok v)
    → Answers answer_view (Ok (Canonical v)) (only (IsMarkerAnswer path bytes))
texts_told path bytes v h = record { texts = Ok v.items; canonical = h; is = refl }

-- why there are none
pub fault_told : (path bytes : List ℕ) (fault : CanonicalFault) (e : Refusal) → Tells (IsCanonical bytes) (Err fault)
    → IsRefusalFor (refused_fault path fault) e → Answers {T = Answer} answer_view (Err e) (only (IsMarkerAnswer path bytes))
fault_told path bytes (Line n) e h is =
    refused_by answer_view _ e (only (IsMarkerAnswer path bytes)) is (record { texts = Err (unread n); canonical = h; is = refl })
fault_told path bytes TooManyComparisons e h is =
    refused_by answer_view _ e (only (IsMarkerAnswer path bytes)) is (record { texts = Err many_comparisons; canonical = h; is = refl })
fault_told path bytes TooManyPaths e h is =
    refused_by answer_view _ e (only (IsMarkerAnswer path bytes)) is (record { texts = Err many_paths; canonical = h; is = refl })
fault_told path bytes TooLong e h is =
    refused_by answer_view _ e (only (IsMarkerAnswer path bytes)) is (record { texts = Err long_text; canonical = h; is = refl })
fault_told path bytes NoMemory e h is = refused_none answer_view e (only (IsMarkerAnswer path bytes)) is
