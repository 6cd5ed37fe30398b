-- What is asked and answered, by the status.
use Rattle.std.proofs.Common.{◌≡◌, ◌∙◌, ℕ, List, Bool, true, false, true≢false, cond, nat_eq, eq-eqb, Option, Some, None, Result, Ok, Err, refl, sym, ap, subst, inl, inr}
use Rattle.std.specs.Prelude.{codes, length, nat_le}
use Rattle.ul_files.specs.Files.{FileMap}
use Rattle.ul_tree.specs.Paths.{is_printable}
use Rattle.ul_nodes.specs.Plain.{Plain}
use Rattle.ul_inputs.specs.Inputs.{GoesOn, Said, said_on, text_bytes}
use Rattle.ul_inputs.specs.Refused.{Refused, limit, malformed}
use Rattle.ul_answers.specs.Answer as answers
use Rattle.ul_answers.specs.Printed.{lock_output, printed, refusal_output, refused_output}
use Rattle.ul_commands.specs.Asked.{Asked}
use Rattle.ul_commands.specs.Commands.{command}
use Rattle.laws_commands.specs.Workers.{WorkersDontMatter, with_workers}
use Rattle.laws_existence.specs.Answers.{AnswersExist}
use Rattle.ul_program.specs.Answer.{IsAnswer, IsAskedAnswer}
use Rattle.ul_program.specs.Words.{question}
use Rattle.laws_promises.specs.Promises.{QuestionsAreAnswered, WorkersChangeNothing}

-- the answer to what the words ask
pub asked_answer : (words : List (List ℕ)) (m : FileMap) (status : ℕ) (bytes : List ℕ) (asked : Asked) → question words ≡ asked
    → IsAnswer words m status bytes → IsAskedAnswer m asked status bytes
unfolding IsAnswer
asked_answer words m status bytes asked e is = subst (λ (x : Asked). IsAskedAnswer m x status bytes) e is

-- what is answered is printed
pub is_answer : (words : List (List ℕ)) (m : FileMap) (asked : Asked) (a : Result answers.Answer Refused) → question words ≡ asked
    → (command asked m).gives a → IsAnswer words m (printed a).0 (printed a).1
unfolding IsAnswer
is_answer words m asked a q gives =
    subst (λ (x : Asked). IsAskedAnswer m x (printed a).0 (printed a).1) (sym q) (record { answer = a; gives = gives; prints = (refl, refl) })

-- each question has an answer, and so a status and bytes
pub questions_are_answered : AnswersExist → QuestionsAreAnswered
questions_are_answered exist words m =
    let a = exist (question words) m in
    ((printed a.0).0, (printed a.0).1, is_answer words m (question words) a.0 refl a.1)

-- ---- statuses

no_zero : (e : Refused) → 0 ≡ (refused_output e).0 → ⊥
no_zero (malformed file place) s = absurd (cc)
no_zero (limit name number) s = absurd (cc)

pub no_one : (e : Refused) → 1 ≡ (refused_output e).0 → ⊥
no_one (malformed file place) s = absurd (cc)
no_one (limit name number) s = absurd (cc)

-- an answer that has one status isn't an answer with another
pub other_status : (k n : ℕ) (a b : Result answers.Answer Refused) → nat_eq k n ≡ false → (printed b).0 ≡ n
    → k ≡ (printed a).0 → a ≡ b → ⊥
other_status k n a b differ is status same =
    let both : k ≡ n = status ∙ (ap (λ (x : Result answers.Answer Refused). (printed x).0) same ∙ is) in
    true≢false (sym (eq-eqb k n both) ∙ differ)

-- with status 0 no input was refused
pub on_zero : {A : Type 0} (first : Said A) (next : A → Said answers.Answer) (a : Result answers.Answer Refused)
    → (said_on first next).gives a → 0 ≡ (printed a).0 → GoesOn first.gives (λ x. (next x).gives) a
on_zero first next (Ok x) (inl bad) s = absurd bad
on_zero first next (Err e) (inl refused) s = absurd (no_zero e s)
on_zero first next a (inr on) s = on

-- and none was with status 1
pub on_one : {A : Type 0} (first : Said A) (next : A → Said answers.Answer) (a : Result answers.Answer Refused)
    → (said_on first next).gives a → 1 ≡ (printed a).0 → GoesOn first.gives (λ x. (next x).gives) a
on_one first next (Ok x) (inl bad) s = absurd bad
on_one first next (Err e) (inl refused) s = absurd (no_one e s)
on_one first next a (inr on) s = on

-- a lock that is written is its text
pub written_is : (o : Option ℕ) (text : List ℕ) → 0 ≡ (lock_output o text).0 → (lock_output o text).1 ≡ text
written_is (Some n) text e = absurd (cc e)
written_is None text e = by_length (nat_le (length text) text_bytes) e
  where
    by_length : (b : Bool) → 0 ≡ (cond b (0, text) (refused_output (limit (codes "text-bytes") text_bytes))).0
        → (cond b (0, text) (refused_output (limit (codes "text-bytes") text_bytes))).1 ≡ text
    by_length true e = refl
    by_length false e = absurd (cc e)

-- and has not status 1
pub written_not_one : (o : Option ℕ) (text : List ℕ) → 1 ≡ (lock_output o text).0 → ⊥
written_not_one (Some n) text e = absurd (cc e)
written_not_one None text e = by_length (nat_le (length text) text_bytes) e
  where
    by_length : (b : Bool) → 1 ≡ (cond b (0, text) (refused_output (limit (codes "text-bytes") text_bytes))).0 → ⊥
    by_length true e = absurd (cc e)
    by_length false e = absurd (cc e)

-- a refusal that is printed is its text
pub refusal_is : (region : Plain) (text : List ℕ) → 1 ≡ (refusal_output region text).0 → (refusal_output region text).1 ≡ text
refusal_is region text e = by_printable (is_printable region) e
  where
    by_printable : (b : Bool) → 1 ≡ (cond b (1, text) (refused_output (limit (codes "marker-paths") 4096))).0
        → (cond b (1, text) (refused_output (limit (codes "marker-paths") 4096))).1 ≡ text
    by_printable true e = refl
    by_printable false e = absurd (cc e)

-- ---- workers

pub workers_change_nothing : WorkersDontMatter → WorkersChangeNothing
unfolding IsAnswer
workers_change_nothing law words others n m status bytes e =
    let same = (law (question words) n m).gives in
    let there : IsAnswer words m status bytes → IsAnswer others m status bytes = λ is.
    subst (λ (x : Asked). IsAskedAnswer m x status bytes) (sym e) (record { answer = is.answer; gives = (same is.answer).0 is.gives; prints = is.prints }) in
    let back : IsAnswer others m status bytes → IsAnswer words m status bytes = λ is.
    let at : IsAskedAnswer m (with_workers n (question words)) status bytes = subst (λ (x : Asked). IsAskedAnswer m x status bytes) e is in
    record { answer = at.answer; gives = (same at.answer).1 at.gives; prints = at.prints } in
    (there, back)
