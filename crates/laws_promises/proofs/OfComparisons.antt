-- What a printed lock asks is what its project and its documents ask.
use Rattle.std.proofs.Common.{◌≡◌, ◌∙◌, ℕ, List, Option, Result, Ok, ap, sym, subst, map}
use Rattle.ul_base.proofs.ForCallers.{contains_from_map}
use Rattle.ul_files.specs.Files.{FileMap}
use Rattle.ul_comparison.specs.Formulas.{Formula}
use Rattle.ul_nodes.specs.Plain.{Plain}
use Rattle.ul_tree.specs.Regions.{HasTruth}
use Rattle.ul_project.specs.Fields.{ProjectFields}
use Rattle.ul_project.specs.Region.{is_supported}
use Rattle.ul_specifier.specs.Clauses.{ClauseFields}
use Rattle.ul_lock.specs.declared.parts.Lock.{Lock}
use Rattle.ul_filter.specs.Comparisons.{HasAll, lock_atoms}
use Rattle.ul_sound.specs.Leaves.{LeafFields}
use Rattle.ul_inputs.specs.Refused.{Refused}
use Rattle.ul_inputs.specs.Resolutions.{ResolutionFields, resolution_in}
use Rattle.ul_answers.specs.Answer.{Answer, locked}
use Rattle.ul_answers.specs.Printed.{printed}
use Rattle.ul_commands.specs.Asked.{lock}
use Rattle.ul_commands.specs.Locking.{IsLockAnswer, leaf_fields}
use Rattle.ul_commands.specs.Questions.{question_of}
use Rattle.laws_given.proofs.ForCallers.{IsProjectFrom, expanded_by, resolution_from}
use Rattle.laws_comparisons.specs.Comparisons.{MergedAskTheirs, asked_atoms}
use Rattle.laws_commands.specs.Complete.{InputsAreAnswered, IsWithinLimits, LocksWithinLimits}
use Rattle.laws_promises.specs.Comparisons.{LocksAskTheirs}
use Rattle.laws_promises.proofs.OfAnswers.{asked_answer}
use Rattle.laws_promises.proofs.OfLocks.{text_of}

-- the region of a project that a file says has the truth that the file supports
record IsSupportedBy (p : ProjectFields) : Type 0 where
  bounds : List ClauseFields
  truth : HasTruth p.region (is_supported bounds p.environments)

of_project : (p : ProjectFields) → IsProjectFrom p → IsSupportedBy p
of_project p from =
    let file = from.said.file in
    let of_file = from.said.project in
    let by = expanded_by from.read p from.expanded in
    let named : file.settings.environments ≡ p.environments =
    sym (ap (λ (x : ProjectFields). x.environments) of_file.fields) ∙ ap (λ (x : ProjectFields). x.environments) by.is in
    let region : from.read.region ≡ p.region = ap (λ (x : ProjectFields). x.region) by.is in
    record {
      bounds = file.head.python;
      truth = subst (λ (ms : List Formula). HasTruth p.region (is_supported file.head.python ms)) named
          (subst (λ (t : Plain). HasTruth t (is_supported file.head.python file.settings.environments)) region of_file.region);
    }

-- equal answers have one lock
same_lock : (k l : Lock) (i j : ℕ) → (let a : Result Answer Refused = Ok (locked k i) in a) ≡ Ok (locked l j) → k ≡ l
same_lock k l i j e = cc

-- the lock of a resolution, within its limits, asks what the project and its documents ask
merged_asks : MergedAskTheirs → (project folder : List ℕ) (old : Option (List ℕ)) (m : FileMap) (r : ResolutionFields)
    (a : Result Answer Refused) → (resolution_in project folder old m).gives (Ok r) → (within : IsWithinLimits r a)
    → HasAll (asked_atoms r.project r.catalog) (lock_atoms within.locked.lock)
merged_asks law project folder old m r a gave within =
    let supported = of_project r.project (resolution_from project folder old m r gave).project in
    law (question_of r) r.project supported.bounds within.are_forks.counts within.leaves (map leaf_fields within.leaves)
    within.locked.lock supported.truth within.are_forks.answer
    (λ k listed. let found = contains_from_map leaf_fields within.leaves k listed in
    (found.0, found.1, ap (λ (x : LeafFields). x.region) found.2))
    within.locked.merged

-- and so does one that is answered with status 0
pub answered_asks : MergedAskTheirs → LocksWithinLimits → (project folder : List ℕ) (old : Option (List ℕ)) (m : FileMap)
    (r : ResolutionFields) (l : Lock) (forks : ℕ) → (resolution_in project folder old m).gives (Ok r)
    → IsLockAnswer r (Ok (locked l forks)) → 0 ≡ (printed (Ok (locked l forks))).0
    → HasAll (asked_atoms r.project r.catalog) (lock_atoms l)
answered_asks law limits project folder old m r l forks gave answer status =
    let within = (limits r (Ok (locked l forks)) answer).0 (sym status) in
    subst (λ (k : Lock). HasAll (asked_atoms r.project r.catalog) (lock_atoms k)) (same_lock _ l _ forks (sym within.is))
    (merged_asks law project folder old m r (Ok (locked l forks)) gave within)

pub locks_ask_theirs : MergedAskTheirs → InputsAreAnswered → LocksWithinLimits → LocksAskTheirs
locks_ask_theirs law inputs limits words m bytes project folder workers old r q is gave =
    let asked = asked_answer words m 0 bytes (lock project folder workers old) q is in
    let answered = inputs.lock project folder workers old m r asked.answer gave asked.gives in
    let within = (limits r asked.answer answered).0 (sym asked.prints.0) in
    record {
      lock = within.locked.lock;
      is = text_of within.locked.lock _ asked.answer bytes within.is asked.prints.0 asked.prints.1;
      asks = merged_asks law project folder old m r asked.answer gave within;
    }
