-- What `why` prints, and that `check` accepts it.
use Rattle.std.proofs.Common.{◌≡◌, ◌∙◌, ◌≤◌, ℕ, length, List, Bool, true, false, Option, Some, Result, Ok, ap, subst, refl}
use Rattle.ul_files.specs.Files.{FileMap}
use Rattle.ul_nodes.specs.Plain.{Plain}
use Rattle.ul_tree.specs.Paths.{is_printable}
use Rattle.ul_generations.specs.Generations.{leaves_are, refused_at, too_many}
use Rattle.ul_forks.specs.Headline.{ForkLaws, TreeAnswer, TreeRefusal}
use Rattle.ul_inputs.specs.Inputs.{answer, text_bytes}
use Rattle.ul_inputs.specs.Refused.{Refused}
use Rattle.ul_inputs.specs.Resolutions.{ResolutionFields, resolution_in}
use Rattle.ul_answers.specs.Answer as answers
use Rattle.ul_answers.specs.Printed.{printed}
use Rattle.ul_commands.specs.Asked.{check, why}
use Rattle.ul_commands.specs.Commands.{command}
use Rattle.ul_commands.specs.Questions.{IsForked, too_many_forks}
use Rattle.ul_commands.specs.Reasons.{AreStepsOf, DerivedWhere, GivesReason, IsWhyAnswer}
use Rattle.laws_commands.specs.Reasons.{FilesAreAccepted, reason_text}
use Rattle.laws_commands.specs.Refusals.{ReasonsOfFiles}
use Rattle.laws_promises.specs.Promises.{IsFirstRefused, PrintedAreAccepted, ReasonsAreRight}
use Rattle.laws_promises.proofs.OfLocks.{first_refused}
use Rattle.laws_promises.proofs.OfAnswers.{asked_answer, is_answer, no_one, on_one, other_status, refusal_is}

-- the answer is a fork with the lines of a derivation, and these are its bytes
pub record PrintsReason (project folder : List ℕ) (old : Option (List ℕ)) (m : FileMap) (a : Result answers.Answer Refused) (bytes : List ℕ) : Type 0 where
  pub resolution : ResolutionFields
  pub gave : (resolution_in project folder old m).gives (Ok resolution)
  pub path : List Bool
  pub region : Plain
  pub steps : List ℕ
  pub is : a ≡ Ok (answers.derived path region steps)
  pub text : bytes ≡ reason_text path region steps
  pub lines : AreStepsOf resolution region steps
  pub first : IsFirstRefused resolution path region

by_region : (project folder : List ℕ) (old : Option (List ℕ)) (m : FileMap) (r : ResolutionFields) (a : Result answers.Answer Refused) (bytes : List ℕ)
    → ForkLaws → (resolution_in project folder old m).gives (Ok r) → (fork : TreeRefusal) → IsForked r (refused_at fork)
    → (told : Bool) → DerivedWhere told r fork a → 1 ≡ (printed a).0 → bytes ≡ (printed a).1 → PrintsReason project folder old m a bytes
by_region project folder old m r a bytes laws gave fork forked true h status e = record {
  resolution = r;
  gave = gave;
  path = fork.path;
  region = fork.region;
  steps = h.lines;
  is = h.is;
  text = e ∙ (ap (λ x. (printed x).1) h.is
      ∙ refusal_is fork.region (reason_text fork.path fork.region h.lines) (status ∙ ap (λ x. (printed x).0) h.is));
  lines = h.steps;
  first = first_refused laws r fork forked;
}
by_region project folder old m r a bytes laws gave fork forked false h status e =
    absurd (other_status 1 4 a _ refl refl status h)

by_forks : (project folder : List ℕ) (old : Option (List ℕ)) (m : FileMap) (r : ResolutionFields) (a : Result answers.Answer Refused) (bytes : List ℕ)
    → ForkLaws → (resolution_in project folder old m).gives (Ok r) → (forked : TreeAnswer) → IsForked r forked → GivesReason r forked a
    → 1 ≡ (printed a).0 → bytes ≡ (printed a).1 → PrintsReason project folder old m a bytes
by_forks project folder old m r a bytes laws gave (leaves_are ls) forked h status e =
    absurd (other_status 1 0 a _ refl refl status h)
by_forks project folder old m r a bytes laws gave (refused_at fork) forked h status e =
    by_region project folder old m r a bytes laws gave fork forked (is_printable fork.region) h status e
by_forks project folder old m r a bytes laws gave (too_many n) forked h status e = absurd (no_one too_many_forks (status ∙ ap (λ x. (printed x).0) h))

pub printed_reason : ForkLaws → (project folder : List ℕ) (old : Option (List ℕ)) (workers : ℕ) (m : FileMap) (a : Result answers.Answer Refused) (bytes : List ℕ)
    → (command (why project folder workers old) m).gives a → 1 ≡ (printed a).0 → bytes ≡ (printed a).1 → PrintsReason project folder old m a bytes
printed_reason laws project folder old workers m a bytes gives status e =
    let on = on_one (resolution_in project folder old m) (λ r. answer (IsWhyAnswer r) m) a gives status in
    by_forks project folder old m on.value a bytes laws on.gave on.answers.forked on.answers.are_forks on.answers.gives status e

pub reasons_are_right : ForkLaws → ReasonsOfFiles → ReasonsAreRight
reasons_are_right laws law words m bytes project folder workers old q is =
    let asked = asked_answer words m 1 bytes (why project folder workers old) q is in
    let p = printed_reason laws project folder old workers m asked.answer bytes asked.gives asked.prints.0 asked.prints.1 in
    let gives = subst (λ (x : Result answers.Answer Refused). (command (why project folder workers old) m).gives x) p.is asked.gives in
    record {
      resolution = p.resolution;
      given = p.gave;
      path = p.path;
      region = p.region;
      steps = p.steps;
      is = p.text;
      lines = p.lines;
      first = p.first;
      unserved = law project folder old workers m p.resolution p.path p.region p.steps p.gave gives;
    }

pub printed_are_accepted : ForkLaws → FilesAreAccepted → PrintedAreAccepted
printed_are_accepted laws law words others before now bytes project folder derivation workers old q c is agree there few =
    let asked = asked_answer words before 1 bytes (why project folder workers old) q is in
    let p = printed_reason laws project folder old workers before asked.answer bytes asked.gives asked.prints.0 asked.prints.1 in
    let gives = subst (λ (x : Result answers.Answer Refused). (command (why project folder workers old) before).gives x) p.is asked.gives in
    is_answer others now (check project folder derivation) (Ok answers.accepted) c
    (law project folder derivation old workers before now p.path p.region p.steps gives agree (there ∙ ap (λ (x : List ℕ). Some x) p.text)
    (subst (λ (x : List ℕ). length x ≤ text_bytes) p.text few))
