-- What `marker` prints.
use Rattle.std.proofs.Common.{◌≡◌, ◌∙◌, ℕ, List, Result, Ok, Err, sym, ap, subst}
use Rattle.std.specs.Prelude.{codes}
use Rattle.ul_load.specs.Loading.{file_bytes}
use Rattle.ul_canonical.specs.Answers.{IsCanonical, Refusal, unread, many_comparisons, many_paths, long_text}
use Rattle.ul_canonical.specs.Headline.{CanonicalMarkers}
use Rattle.ul_inputs.specs.Inputs.{answer, small_file}
use Rattle.ul_inputs.specs.Refused.{Refused}
use Rattle.ul_answers.specs.Answer as answers
use Rattle.ul_answers.specs.Printed.{printed}
use Rattle.ul_commands.specs.Asked.{marker}
use Rattle.ul_commands.specs.Markers.{IsMarkerAnswer, answer_of}
use Rattle.laws_commands.proofs.ForCallers.{file_read}
use Rattle.laws_promises.specs.Markers.{MarkersAreCanonical}
use Rattle.laws_promises.proofs.OfAnswers.{asked_answer, on_zero}

abbrev Found : Type 0
Found = Result answers.Answer Refused

-- texts that are printed with status 0 are told
told_texts : (path text : List ℕ) (texts : Result (List ℕ) Refusal) (a : Found) → a ≡ answer_of path texts → 0 ≡ (printed a).0 → text ≡ (printed a).1
    → Ok text ≡ texts
told_texts path text (Ok told) a is status e = ap (λ (t : List ℕ). Ok t) (e ∙ ap (λ (x : Found). (printed x).1) is)
told_texts path text (Err (unread n)) a is status e = let bad : 0 ≡ 3 = status ∙ ap (λ (x : Found). (printed x).0) is in absurd (cc)
told_texts path text (Err many_comparisons) a is status e = let bad : 0 ≡ 4 = status ∙ ap (λ (x : Found). (printed x).0) is in absurd (cc)
told_texts path text (Err many_paths) a is status e = let bad : 0 ≡ 4 = status ∙ ap (λ (x : Found). (printed x).0) is in absurd (cc)
told_texts path text (Err long_text) a is status e = let bad : 0 ≡ 4 = status ∙ ap (λ (x : Found). (printed x).0) is in absurd (cc)

pub markers_are_canonical : CanonicalMarkers → MarkersAreCanonical
markers_are_canonical law words m bytes text path q at prints =
    let asked = asked_answer words m 0 text (marker path) q prints in
    let on = on_zero (small_file path m) (λ b. answer (IsMarkerAnswer path b) m) asked.answer asked.gives asked.prints.0 in
    let same = file_read (codes "file-bytes") file_bytes m path bytes on.value at on.gave in
    let told = told_texts path text on.answers.texts asked.answer on.answers.is asked.prints.0 asked.prints.1 in
    law bytes text (subst (λ (b : List ℕ). IsCanonical b (Ok text)) same (subst (IsCanonical on.value) (sym told) on.answers.canonical))
