-- What is asked has one answer.
use Rattle.std.proofs.Common.{◌≡◌, ◌∙◌, ℕ, List, [], Bool, true, false, length, map, ◌++◌, Option, Some, None, Result, Ok, Err, refl, sym, ap, subst, inl, inr}
use Rattle.std.specs.Prelude.{codes}
use Rattle.std.specs.Fmt.{decimal}
use Rattle.ul_files.specs.Files.{FileMap}
use Rattle.ul_lines.specs.Lines.{lines_of}
use Rattle.ul_comparison.specs.Machines.{MachineFields}
use Rattle.ul_nodes.specs.Plain.{Plain as Tree}
use Rattle.ul_tree.specs.Paths.{is_printable}
use Rattle.ul_tree.specs.Regions.{region_of}
use Rattle.ul_problem.specs.Plain.{Plain as Problem}
use Rattle.ul_blame.specs.Texts.{IsCoreText, core_text}
use Rattle.ul_project.specs.Laws.{OneProject}
use Rattle.ul_load.specs.Laws.{TurnsAgree}
use Rattle.ul_load.specs.Loading.{file_bytes}
use Rattle.ul_canonical.proofs.ForCallers.{canonical_once}
use Rattle.ul_lock_read.specs.Laws.{OneFault as OneLockFault, OneTextOneLock}
use Rattle.ul_lock.specs.declared.parts.Lock.{Lock}
use Rattle.ul_lock_write.specs.Markers.{first_over, markers_of}
use Rattle.ul_region.specs.Problem.{IsProblemOf}
use Rattle.ul_generations.specs.Generations.{leaves_are, refused_at, too_many}
use Rattle.ul_forks.specs.Headline.{ForkLaws, TreeAnswer, TreeRefusal}
use Rattle.ul_forks.specs.Outcome.{starts_of}
use Rattle.ul_filter.specs.Comparisons.{machine_world}
use Rattle.ul_filter.specs.Headline.{is_supported_at}
use Rattle.ul_filter.proofs.ForCallers.{one_text}
use Rattle.ul_reach.specs.Headline.{RowPromises}
use Rattle.ul_reach.specs.declared.rows.Reached.{Reached}
use Rattle.ul_report_read.specs.Proofs.{AreProofLines, IsTextOf}
use Rattle.ul_report_read.specs.declared.proof.Proof.{Proof}
use Rattle.ul_report_judge.specs.Faults.{AcceptsNames, IsFirstBad}
use Rattle.ul_inputs.specs.Inputs.{Said, answer, large_file, said_on, small_file, text_bytes}
use Rattle.ul_inputs.specs.Refused.{Refused, malformed}
use Rattle.ul_inputs.specs.Locks.{kept_of, lock_at}
use Rattle.ul_inputs.specs.Machines.{machine_at}
use Rattle.ul_inputs.specs.Projects.{project_at}
use Rattle.ul_inputs.specs.Resolutions.{ResolutionFields, resolution_in, resolution_with}
use Rattle.ul_answers.specs.Answer as answers
use Rattle.ul_answers.specs.Answer.{Answer, rejected}
use Rattle.ul_answers.specs.Printed.{printed}
use Rattle.ul_lock_commands.specs.Environments.{GivesFor, GivesWhere, IsEnvAnswer}
use Rattle.ul_lock_commands.specs.Exports.{GivesRows, IsExportAnswer}
use Rattle.ul_lock_commands.specs.Words.{first_other, names_of}
use Rattle.ul_commands.specs.Asked.{usage, lock, why, relock, gen, env, export, marker, check, verify}
use Rattle.ul_commands.specs.Checking.{IsAccepted, IsCheckAnswer, IsProofOf, IsRejected, proof_at, proof_said}
use Rattle.ul_commands.specs.Commands.{command}
use Rattle.ul_commands.specs.Generating.{IsCounted, counted_for, generated_files, index_folder, project_path}
use Rattle.ul_commands.specs.Locking.{AreCoreLines, IsLockAnswer, LocksFor, RefusedWhere, answer_of, answer_where, leaf_fields, lock_of}
use Rattle.ul_commands.specs.Markers.{IsMarkerAnswer, answer_of as marker_answer}
use Rattle.ul_commands.specs.Questions.{question_of}
use Rattle.ul_commands.specs.Reasons.{DerivedWhere, GivesReason, IsWhyAnswer}
use Rattle.ul_commands.specs.Relocking.{IsRelockAnswer, unkept}
use Rattle.ul_commands.specs.Verifying.{IsVerifyAnswer}
use Rattle.laws_commands.specs.Answers.{AnswersAreEqual, AnswersAreOne, SameAnswer, WhyFollowsLock, reason_of, without_steps}
use Rattle.laws_commands.specs.Lower.{LowerLaws}
use Rattle.laws_commands.proofs.Inputs.{one_lock_at, one_machine_at, one_project_at, one_resolution_in, one_resolution_with}
use Rattle.laws_commands.proofs.Verified.{verify_once}
use Rattle.laws_commands.proofs.Ones.{IsOne, alike_on, one_file, one_on, related_on}

-- ---- derivation files

proof_ok : (x y : Proof) → x ≡ y → (let r : Result Proof Refused = Ok x in r) ≡ Ok y
proof_ok x y e = cc

proof_err : (e f : Refused) → e ≡ f → (let r : Result Proof Refused = Err e in r) ≡ Err f
proof_err e f h = cc

abbrev wrong_line : List ℕ → ℕ → Refused
wrong_line path n = malformed path (codes "line " ++ decimal n)

proof_lines : (text : List ℕ) (x : Proof) → IsTextOf text x → AreProofLines (lines_of text)
proof_lines text x t = (x, t.is_proof, ap lines_of t.same)

-- a text is at most one derivation's, or has at most one first wrong line
proof_once : LowerLaws → (path text : List ℕ) (a b : Result Proof Refused) → IsProofOf path text a → IsProofOf path text b → a ≡ b
proof_once laws path text (Ok x) (Ok y) g h = proof_ok x y (laws.proofs text x y g h)
proof_once laws path text (Ok x) (Err f) g h = absurd (laws.proof_faults.none (lines_of text) h.line (proof_lines text x g) h.first)
proof_once laws path text (Err e) (Ok y) g h = absurd (laws.proof_faults.none (lines_of text) g.line (proof_lines text y h) g.first)
proof_once laws path text (Err e) (Err f) g h =
    let same = laws.proof_faults.once (lines_of text) g.line h.line g.first h.first in
    proof_err e f (g.is ∙ (ap (wrong_line path) same ∙ sym h.is))

pub one_proof_at : LowerLaws → (path : List ℕ) (m : FileMap) → IsOne (proof_at path m)
one_proof_at laws path m =
    one_on (large_file path m) (λ text. proof_said path text m) (one_file (codes "text-bytes") text_bytes path m)
    (λ text. proof_once laws path text)

-- ---- resolutions

pub one_resolution : LowerLaws → (project folder : List ℕ) (old : Option (List ℕ)) (m : FileMap) → IsOne (resolution_in project folder old m)
one_resolution laws project folder old m = one_resolution_in laws.projects laws.turns laws.locks laws.lock_faults project folder old m

-- ---- the answers of each command

abbrev merged_as : ℕ → Lock → Result Answer Refused
merged_as n l = Ok (answer_of l n)

abbrev refused_as : TreeRefusal → List ℕ → Result Answer Refused
refused_as fork lines = Ok (answers.no_selection fork.path fork.region lines)

-- a region has one core, and so one text of it
one_core : LowerLaws → (r : ResolutionFields) (region : Tree) (xs ys : List ℕ) → AreCoreLines r region xs → AreCoreLines r region ys → xs ≡ ys
one_core laws r region xs ys g h =
    let p : g.problem ≡ h.problem = laws.problems r.catalog (starts_of (question_of r)) r.wish (region_of region) (region_of region) g.problem h.problem (λ w is. refl) g.of_region h.of_region in
    let t : IsCoreText h.problem xs = subst (λ (q : Problem). IsCoreText q xs) p g.text in
    t.are ∙ (ap (core_text h.problem) (laws.cores h.problem t.core h.text.core t.is_core h.text.is_core) ∙ sym h.text.are)

-- a refused fork has one core, or isn't told
fork_for : LowerLaws → (r : ResolutionFields) (told : Bool) (fork : TreeRefusal) (a b : Result Answer Refused) → RefusedWhere told r fork a → RefusedWhere told r fork b → a ≡ b
fork_for laws r true fork a b g h = g.is ∙ (ap (refused_as fork) (one_core laws r fork.region g.lines h.lines g.core h.core) ∙ sym h.is)
fork_for laws r false fork a b g h = g ∙ sym h

-- a fork answer has one lock, or one core
lock_for : LowerLaws → (r : ResolutionFields) (f : TreeAnswer) (a b : Result Answer Refused) → LocksFor r f a → LocksFor r f b → a ≡ b
lock_for laws r (leaves_are ls) a b g h =
    let same = laws.merges.once r.catalog r.project (map leaf_fields ls) g.lock h.lock g.merged h.merged in
    g.is ∙ (ap (merged_as (length ls)) same ∙ sym h.is)
lock_for laws r (refused_at fork) a b g h = fork_for laws r (is_printable fork.region) fork a b g h
lock_for laws r (too_many n) a b g h = g ∙ sym h

-- a resolution has one answer of `lock`
lock_once : LowerLaws → (r : ResolutionFields) (a b : Result Answer Refused) → IsLockAnswer r a → IsLockAnswer r b → a ≡ b
lock_once laws r a b g h =
    let forks = laws.forks.forks (question_of r) r.project.region in
    let same = (forks.once g.are_forks.counts h.are_forks.counts g.forked h.forked g.are_forks.answer h.are_forks.answer).1 in
    lock_for laws r h.forked a b (subst (λ f. LocksFor r f a) same g.locks) h.locks

one_lock_of : LowerLaws → (project folder : List ℕ) (old : Option (List ℕ)) (m : FileMap) → IsOne (lock_of project folder old m)
one_lock_of laws project folder old m =
    one_on (resolution_in project folder old m) (λ r. answer (IsLockAnswer r) m) (one_resolution laws project folder old m)
    (λ r. lock_once laws r)

-- where the old lock stays, `lock` isn't asked; and `lock` with its versions has one status
relock_once : LowerLaws → (r : ResolutionFields) (l : Lock) (a b : Result Answer Refused) → IsRelockAnswer r l a → IsRelockAnswer r l b → a ≡ b
relock_once laws r l a b (inl g) (inl h) = g.is ∙ sym h.is
relock_once laws r l a b (inl g) (inr (inl h)) = absurd (h.other g.kept)
relock_once laws r l a b (inl g) (inr (inr h)) = absurd (h.other g.kept)
relock_once laws r l a b (inr (inl g)) (inl h) = absurd (g.other h.kept)
relock_once laws r l a b (inr (inl g)) (inr (inl h)) = lock_once laws r a b g.answers h.answers
relock_once laws r l a b (inr (inl g)) (inr (inr h)) =
    absurd (h.status (ap (λ x. (printed x).0) (lock_once laws r h.again a h.answers g.answers) ∙ g.status))
relock_once laws r l a b (inr (inr g)) (inl h) = absurd (g.other h.kept)
relock_once laws r l a b (inr (inr g)) (inr (inl h)) =
    absurd (g.status (ap (λ x. (printed x).0) (lock_once laws r g.again b g.answers h.answers) ∙ h.status))
relock_once laws r l a b (inr (inr g)) (inr (inr h)) = lock_once laws (unkept r) a b g.anew h.anew

fork_reason : (r : ResolutionFields) (told : Bool) (fork : TreeRefusal) (a b : Result Answer Refused) → DerivedWhere told r fork a → DerivedWhere told r fork b → SameAnswer a b
fork_reason r true fork a b g h = ap without_steps g.is ∙ sym (ap without_steps h.is)
fork_reason r false fork a b g h = ap without_steps (g ∙ sym h)

-- a fork answer has one reason, steps aside
reason_for : (r : ResolutionFields) (f : TreeAnswer) (a b : Result Answer Refused) → GivesReason r f a → GivesReason r f b → SameAnswer a b
reason_for r (leaves_are ls) a b g h = ap without_steps (g ∙ sym h)
reason_for r (refused_at fork) a b g h = fork_reason r (is_printable fork.region) fork a b g h
reason_for r (too_many n) a b g h = ap without_steps (g ∙ sym h)

-- a resolution has one answer of `why`, steps aside
why_alike : LowerLaws → (r : ResolutionFields) (a b : Result Answer Refused) → IsWhyAnswer r a → IsWhyAnswer r b → SameAnswer a b
why_alike laws r a b g h =
    let forks = laws.forks.forks (question_of r) r.project.region in
    let same = (forks.once g.are_forks.counts h.are_forks.counts g.forked h.forked g.are_forks.answer h.are_forks.answer).1 in
    reason_for r h.forked a b (subst (λ f. GivesReason r f a) same g.gives) h.gives

abbrev rejected_at : ℕ → Result Answer Refused
rejected_at k = Ok (rejected k)

one_problem : LowerLaws → (r : ResolutionFields) (x : Proof) (p q : Problem)
    → IsProblemOf r.catalog (starts_of (question_of r)) r.wish (region_of x.region) p
    → IsProblemOf r.catalog (starts_of (question_of r)) r.wish (region_of x.region) q → p ≡ q
one_problem laws r x p q g h =
    laws.problems r.catalog (starts_of (question_of r)) r.wish (region_of x.region) (region_of x.region) p q (λ w is. refl) g h

not_both : LowerLaws → (r : ResolutionFields) (x : Proof) (a b : Result Answer Refused) → IsAccepted r x a → IsRejected r x b → ⊥
not_both laws r x a b g h =
    let same = one_problem laws r x g.problem h.problem g.of_region h.of_region in
    laws.none_bad h.problem x.steps h.step h.first (subst (λ p. AcceptsNames p x.steps) same g.accepts)

-- a derivation has one answer of `check`
check_once : LowerLaws → (r : ResolutionFields) (x : Proof) (a b : Result Answer Refused) → IsCheckAnswer r x a → IsCheckAnswer r x b → a ≡ b
check_once laws r x a b (inl g) (inl h) = g.is ∙ sym h.is
check_once laws r x a b (inl g) (inr h) = absurd (not_both laws r x a b g h)
check_once laws r x a b (inr g) (inl h) = absurd (not_both laws r x b a h g)
check_once laws r x a b (inr g) (inr h) =
    let same = one_problem laws r x g.problem h.problem g.of_region h.of_region in
    let step = laws.first_bad h.problem x.steps g.step h.step (subst (λ p. IsFirstBad p x.steps g.step) same g.first) h.first in
    g.is ∙ (ap rejected_at step ∙ sym h.is)

abbrev environment_of : List ℕ → Result Answer Refused
environment_of text = Ok (answers.environment text)

env_for : (l : Lock) (m : MachineFields) (words : List (List ℕ)) (o : Option (List ℕ)) (a b : Result Answer Refused)
    → GivesFor l m words o a → GivesFor l m words o b → a ≡ b
env_for l m words None a b g h =
    let same = one_text l (machine_world l m) (names_of words) g.text h.text g.lines h.lines in
    g.is ∙ (ap environment_of same ∙ sym h.is)
env_for l m words (Some word) a b g h = g ∙ sym h

env_where : (supported : Bool) (l : Lock) (m : MachineFields) (words : List (List ℕ)) (a b : Result Answer Refused)
    → GivesWhere supported l m words a → GivesWhere supported l m words b → a ≡ b
env_where false l m words a b g h = g ∙ sym h
env_where true l m words a b g h = env_for l m words (first_other l words) a b g h

-- a lock has one answer of `env` on a machine
env_once : (l : Lock) (m : MachineFields) (words : List (List ℕ)) (a b : Result Answer Refused) → IsEnvAnswer l m words a → IsEnvAnswer l m words b → a ≡ b
env_once l m words a b g h = env_where (is_supported_at l (machine_world l m)) l m words a b g h

abbrev exported_of : List Reached → Result Answer Refused
exported_of rows = Ok (answers.exported rows)

rows_for : RowPromises → (l : Lock) (words : List (List ℕ)) (o : Option (List ℕ)) (a b : Result Answer Refused)
    → GivesRows l words o a → GivesRows l words o b → a ≡ b
rows_for rows l words None a b g h = g.is ∙ (ap exported_of (rows.once l (names_of words) g.rows h.rows g.are h.are) ∙ sym h.is)
rows_for rows l words (Some word) a b g h = g ∙ sym h

-- a lock has one answer of `export`
export_once : RowPromises → (l : Lock) (words : List (List ℕ)) (a b : Result Answer Refused) → IsExportAnswer l words a → IsExportAnswer l words b → a ≡ b
export_once rows l words a b g h = rows_for rows l words (first_other l words) a b g h

-- where locks are one, so are their counts
counts_once : (locks : Said Answer) → IsOne locks → (a b : Result Answer Refused) → IsCounted locks a → IsCounted locks b → a ≡ b
counts_once locks one a b g h = g.is ∙ (ap counted_for (one g.found h.found g.gave h.gave) ∙ sym h.is)

-- ---- `why` and `lock`

-- both tell a refused fork, or neither does
fork_with : (r : ResolutionFields) (told : Bool) (fork : TreeRefusal) (a b : Result Answer Refused) → RefusedWhere told r fork a → DerivedWhere told r fork b
    → without_steps b ≡ reason_of a
fork_with r true fork a b g h = ap without_steps h.is ∙ sym (ap reason_of g.is)
fork_with r false fork a b g h = ap without_steps h ∙ sym (ap reason_of g)

-- whether or not a lock is written, no fork is refused
none_refused_for : (o : Option ℕ) (l : Lock) (n : ℕ) → reason_of (Ok (answer_where o l n)) ≡ Ok answers.none_refused
none_refused_for None l n = refl
none_refused_for (Some paths) l n = refl

-- a fork answer has the reason that its lock tells
reason_with : (r : ResolutionFields) (f : TreeAnswer) (a b : Result Answer Refused) → LocksFor r f a → GivesReason r f b → without_steps b ≡ reason_of a
reason_with r (leaves_are ls) a b g h =
    ap without_steps h ∙ sym (ap reason_of g.is ∙ none_refused_for (first_over (markers_of g.lock)) g.lock (length ls))
reason_with r (refused_at fork) a b g h = fork_with r (is_printable fork.region) fork a b g h
reason_with r (too_many n) a b g h = ap without_steps h ∙ sym (ap reason_of g)

why_with : ForkLaws → (r : ResolutionFields) (a b : Result Answer Refused) → IsLockAnswer r a → IsWhyAnswer r b → without_steps b ≡ reason_of a
why_with laws r a b g h =
    let forks = laws.forks (question_of r) r.project.region in
    let same = (forks.once g.are_forks.counts h.are_forks.counts g.forked h.forked g.are_forks.answer h.are_forks.answer).1 in
    reason_with r h.forked a b (subst (λ f. LocksFor r f a) same g.locks) h.gives

pub why_follows_lock : OneProject → TurnsAgree → OneTextOneLock → OneLockFault → ForkLaws → WhyFollowsLock
why_follows_lock projects turns locks faults forks project folder old j k m a b g h =
    related_on (λ x y. without_steps y ≡ reason_of x) (λ e. refl) (resolution_in project folder old m) (λ r. answer (IsLockAnswer r) m)
    (λ r. answer (IsWhyAnswer r) m) (one_resolution_in projects turns locks faults project folder old m) (λ r. why_with forks r) a b g h

-- ---- each command

one_relock : LowerLaws → (project folder : List ℕ) (workers : ℕ) (old : List ℕ) (m : FileMap) → IsOne (command (relock project folder workers old) m)
one_relock laws project folder workers old m =
    one_on (project_at project m)
    (λ p. said_on (lock_at old m) (λ l. said_on (resolution_with folder p (kept_of l) m) (λ r. answer (IsRelockAnswer r l) m)))
    (one_project_at laws.projects project m)
    (λ p.
    one_on (lock_at old m) (λ l. said_on (resolution_with folder p (kept_of l) m) (λ r. answer (IsRelockAnswer r l) m))
    (one_lock_at laws.locks laws.lock_faults old m)
    (λ l.
    one_on (resolution_with folder p (kept_of l) m) (λ r. answer (IsRelockAnswer r l) m) (one_resolution_with laws.turns folder p (kept_of l) m)
    (λ r. relock_once laws r l)))

one_env : LowerLaws → (path machine : List ℕ) (words : List (List ℕ)) (m : FileMap) → IsOne (command (env path machine words) m)
one_env laws path machine words m =
    one_on (lock_at path m) (λ l. said_on (machine_at machine m) (λ x. answer (IsEnvAnswer l x words) m)) (one_lock_at laws.locks laws.lock_faults path m)
    (λ l. one_on (machine_at machine m) (λ x. answer (IsEnvAnswer l x words) m) (one_machine_at machine m) (λ x. env_once l x words))

one_export : LowerLaws → (path : List ℕ) (words : List (List ℕ)) (m : FileMap) → IsOne (command (export path words) m)
one_export laws path words m =
    one_on (lock_at path m) (λ l. answer (IsExportAnswer l words) m) (one_lock_at laws.locks laws.lock_faults path m) (λ l. export_once laws.rows l words)

-- the bytes of a file of markers have one answer
marker_once : (path bytes : List ℕ) (a b : Result Answer Refused) → IsMarkerAnswer path bytes a → IsMarkerAnswer path bytes b → a ≡ b
marker_once path bytes a b g h = g.is ∙ (ap (marker_answer path) (canonical_once bytes g.texts h.texts g.canonical h.canonical) ∙ sym h.is)

one_marker : (path : List ℕ) (m : FileMap) → IsOne (command (marker path) m)
one_marker path m =
    one_on (small_file path m) (λ bytes. answer (IsMarkerAnswer path bytes) m) (one_file (codes "file-bytes") file_bytes path m)
    (λ bytes. marker_once path bytes)

one_check : LowerLaws → (project folder derivation : List ℕ) (m : FileMap) → IsOne (command (check project folder derivation) m)
one_check laws project folder derivation m =
    one_on (project_at project m)
    (λ p. said_on (proof_at derivation m) (λ x. said_on (resolution_with folder p [] m) (λ r. answer (IsCheckAnswer r x) m)))
    (one_project_at laws.projects project m)
    (λ p.
    one_on (proof_at derivation m) (λ x. said_on (resolution_with folder p [] m) (λ r. answer (IsCheckAnswer r x) m)) (one_proof_at laws derivation m)
    (λ x.
    one_on (resolution_with folder p [] m) (λ r. answer (IsCheckAnswer r x) m) (one_resolution_with laws.turns folder p [] m)
    (λ r. check_once laws r x)))

one_verify : LowerLaws → (project folder path : List ℕ) (m : FileMap) → IsOne (command (verify project folder path) m)
one_verify laws project folder path m =
    one_on (project_at project m)
    (λ p. said_on (lock_at path m) (λ l. said_on (resolution_with folder p [] m) (λ r. answer (IsVerifyAnswer r l) m)))
    (one_project_at laws.projects project m)
    (λ p.
    one_on (lock_at path m) (λ l. said_on (resolution_with folder p [] m) (λ r. answer (IsVerifyAnswer r l) m))
    (one_lock_at laws.locks laws.lock_faults path m)
    (λ l.
    one_on (resolution_with folder p [] m) (λ r. answer (IsVerifyAnswer r l) m) (one_resolution_with laws.turns folder p [] m)
    (λ r. verify_once r l)))

-- ---- all of them

pub answers_are_equal : LowerLaws → AnswersAreEqual
answers_are_equal laws usage m a b other g h = g ∙ sym h
answers_are_equal laws (lock project folder workers old) m a b other g h = one_lock_of laws project folder old m a b g h
answers_are_equal laws (why project folder workers old) m a b other g h = absurd other
answers_are_equal laws (relock project folder workers old) m a b other g h = one_relock laws project folder workers old m a b g h
answers_are_equal laws (gen seed size workers) m a b other g h =
    let files = generated_files seed size in
    counts_once (lock_of project_path index_folder None files) (one_lock_of laws project_path index_folder None files) a b g h
answers_are_equal laws (env path machine words) m a b other g h = one_env laws path machine words m a b g h
answers_are_equal laws (export path words) m a b other g h = one_export laws path words m a b g h
answers_are_equal laws (marker path) m a b other g h = one_marker path m a b g h
answers_are_equal laws (check project folder derivation) m a b other g h = one_check laws project folder derivation m a b g h
answers_are_equal laws (verify project folder path) m a b other g h = one_verify laws project folder path m a b g h

pub answers_are_one : LowerLaws → AnswersAreOne
answers_are_one laws (why project folder workers old) m a b g h =
    alike_on SameAnswer (λ e. refl) (resolution_in project folder old m) (λ r. answer (IsWhyAnswer r) m) (one_resolution laws project folder old m)
    (λ r. why_alike laws r) a b g h
answers_are_one laws usage m a b g h = ap without_steps (answers_are_equal laws usage m a b tt g h)
answers_are_one laws (lock project folder workers old) m a b g h =
    ap without_steps (answers_are_equal laws (lock project folder workers old) m a b tt g h)
answers_are_one laws (relock project folder workers old) m a b g h =
    ap without_steps (answers_are_equal laws (relock project folder workers old) m a b tt g h)
answers_are_one laws (gen seed size workers) m a b g h = ap without_steps (answers_are_equal laws (gen seed size workers) m a b tt g h)
answers_are_one laws (env path machine words) m a b g h = ap without_steps (answers_are_equal laws (env path machine words) m a b tt g h)
answers_are_one laws (export path words) m a b g h = ap without_steps (answers_are_equal laws (export path words) m a b tt g h)
answers_are_one laws (marker path) m a b g h = ap without_steps (answers_are_equal laws (marker path) m a b tt g h)
answers_are_one laws (check project folder derivation) m a b g h =
    ap without_steps (answers_are_equal laws (check project folder derivation) m a b tt g h)
answers_are_one laws (verify project folder path) m a b g h =
    ap without_steps (answers_are_equal laws (verify project folder path) m a b tt g h)
