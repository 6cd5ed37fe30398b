-- How `lock`, `why` and `relock` end where their inputs are read.
use Rattle.std.proofs.Common.{◌≡◌, ◌∙◌, ◌⊎◌, ℕ, List, Bool, true, false, cond, Option, Some, None, Result, Ok, refl, sym, ap, subst, inl, inr}
use Rattle.std.specs.Prelude.{codes, length, nat_le}
use Rattle.ul_requirement.specs.declared.wish.Strategy.TheVariants.{Deep}
use Rattle.ul_nodes.specs.Plain.{Plain}
use Rattle.ul_tree.specs.Paths.{is_printable}
use Rattle.ul_generations.specs.Generations.{leaves_are, refused_at, too_many}
use Rattle.ul_forks.specs.Headline.{ForkLaws, TreeAnswer, TreeRefusal}
use Rattle.ul_lock.specs.declared.parts.Lock.{Lock}
use Rattle.ul_lock_write.specs.Markers.{first_over, markers_of}
use Rattle.ul_lock_write.specs.Texts.{lock_text}
use Rattle.ul_files.specs.Files.{FileMap}
use Rattle.ul_inputs.specs.Catalogs.{catalog_in}
use Rattle.ul_inputs.specs.Inputs.{◌>>=◌, just, text_bytes}
use Rattle.ul_inputs.specs.Locks.{old_lock}
use Rattle.ul_inputs.specs.Projects.{project_at}
use Rattle.ul_inputs.specs.Refused.{Refused, limit}
use Rattle.ul_inputs.specs.Resolutions.{IsResolution, ResolutionFields, resolution_in, resolution_of, resolution_with}
use Rattle.laws_given.specs.Given.{GivenIsResolution}
use Rattle.laws_given.proofs.ForCallers.{on_ok}
use Rattle.ul_answers.specs.Answer as answers
use Rattle.ul_answers.specs.Printed.{Output, lock_output, output_of, printed, refusal_output, refused_output}
use Rattle.ul_commands.specs.Asked.{lock, relock, why}
use Rattle.ul_commands.specs.Laws.{ForksAreUnserved}
use Rattle.ul_commands.specs.Locking.{LocksFor, RefusedWhere, answer_where}
use Rattle.ul_commands.specs.Questions.{IsForked, question_of, too_many_forks}
use Rattle.ul_commands.specs.Reasons.{DerivedWhere, GivesReason}
use Rattle.ul_commands.specs.Relocking.{IsRelockAnswer, refreshed, unkept}
use Rattle.ul_commands.proofs.ForCallers.{unkept_is}
use Rattle.laws_commands.specs.Complete.{InputsAreAnswered}
use Rattle.laws_promises.specs.Endings.{DeepRefusesNoFork, EndsByOne, IsServedEverywhere, LocksEnd, ReasonsEnd, RelocksEnd, limit_line}
use Rattle.laws_promises.proofs.OfAnswers.{asked_answer, no_one, written_not_one}
use Rattle.laws_promises.proofs.OfLocks.{lock_not_one}

abbrev Found : Type 0
Found = Result answers.Answer Refused

-- an output ends so
abbrev Ends : Output → Type 0
Ends o = EndsByOne o.0 o.1

text_ends : (text : List ℕ) → (b : Bool) → Ends (cond b (0, text) (refused_output (limit (codes "text-bytes") text_bytes)))
text_ends text true = inl refl
text_ends text false = inr (inr (refl, inr (inr refl)))

lock_ends : (o : Option ℕ) (text : List ℕ) → Ends (lock_output o text)
lock_ends (Some n) text = inr (inr (refl, inr (inl refl)))
lock_ends None text = text_ends text (nat_le (length text) text_bytes)

merged_ends : (o : Option ℕ) (l : Lock) (forks : ℕ) → Ends (output_of (answer_where o l forks))
merged_ends None l forks = lock_ends (first_over (markers_of l)) (lock_text l)
merged_ends (Some paths) l forks = inr (inr (refl, inr (inl refl)))

refusal_ends : (region : Plain) (text : List ℕ) → Ends (refusal_output region text)
refusal_ends region text = by_printable (is_printable region)
  where
    by_printable : (b : Bool) → Ends (cond b (1, text) (refused_output (limit (codes "marker-paths") 4096)))
    by_printable true = inr (inl refl)
    by_printable false = inr (inr (refl, inr (inl refl)))

-- an answer that is this ends as this does
as_this : (a b : Found) → a ≡ b → Ends (printed b) → Ends (printed a)
as_this a b is ends = subst (λ (x : Found). Ends (printed x)) (sym is) ends

fork_ends : (r : ResolutionFields) (told : Bool) (fork : TreeRefusal) (a : Found) → RefusedWhere told r fork a → Ends (printed a)
fork_ends r true fork a h = as_this a _ h.is (refusal_ends fork.region _)
fork_ends r false fork a h = as_this a _ h (inr (inr (refl, inr (inl refl))))

locks_for_end : (r : ResolutionFields) (f : TreeAnswer) (a : Found) → LocksFor r f a → Ends (printed a)
locks_for_end r (leaves_are ls) a h = as_this a _ h.is (merged_ends (first_over (markers_of h.lock)) h.lock (length ls))
locks_for_end r (refused_at fork) a h = fork_ends r (is_printable fork.region) fork a h
locks_for_end r (too_many n) a h = as_this a _ h (inr (inr (refl, inl refl)))

derived_ends : (r : ResolutionFields) (told : Bool) (fork : TreeRefusal) (a : Found) → DerivedWhere told r fork a → Ends (printed a)
derived_ends r true fork a h = as_this a _ h.is (refusal_ends fork.region _)
derived_ends r false fork a h = as_this a _ h (inr (inr (refl, inr (inl refl))))

reason_ends : (r : ResolutionFields) (f : TreeAnswer) (a : Found) → GivesReason r f a → Ends (printed a)
reason_ends r (leaves_are ls) a h = as_this a _ h (inl refl)
reason_ends r (refused_at fork) a h = derived_ends r (is_printable fork.region) fork a h
reason_ends r (too_many n) a h = as_this a _ h (inr (inr (refl, inl refl)))

-- what is printed ends as the answer does
prints_end : (a : Found) (status : ℕ) (text : List ℕ) → status ≡ (printed a).0 → text ≡ (printed a).1 → Ends (printed a)
    → EndsByOne status text
prints_end a status text s t ends =
    subst (λ (n : ℕ). EndsByOne n text) (sym s) (subst (λ (x : List ℕ). EndsByOne (printed a).0 x) (sym t) ends)

pub locks_end : InputsAreAnswered → LocksEnd
locks_end inputs words m status text project folder workers old r q gave is =
    let asked = asked_answer words m status text (lock project folder workers old) q is in
    let found = inputs.lock project folder workers old m r asked.answer gave asked.gives in
    prints_end asked.answer status text asked.prints.0 asked.prints.1 (locks_for_end r found.forked asked.answer found.locks)

pub reasons_end : InputsAreAnswered → ReasonsEnd
reasons_end inputs words m status text project folder workers old r q gave is =
    let asked = asked_answer words m status text (why project folder workers old) q is in
    let found = inputs.why project folder workers old m r asked.answer gave asked.gives in
    prints_end asked.answer status text asked.prints.0 asked.prints.1 (reason_ends r found.forked asked.answer found.gives)

-- the old lock that stays is a lock that is written
relock_ends : (r : ResolutionFields) (l : Lock) (a : Found) → IsRelockAnswer r l a → Ends (printed a)
relock_ends r l a (inl h) =
    let stays = refreshed r.catalog l in as_this a _ h.is (lock_ends (first_over (markers_of stays)) (lock_text stays))
relock_ends r l a (inr (inl h)) = locks_for_end r h.answers.forked a h.answers.locks
relock_ends r l a (inr (inr h)) = locks_for_end (unkept r) h.anew.forked a h.anew.locks

pub relocks_end : InputsAreAnswered → RelocksEnd
relocks_end inputs words m status text project folder old workers l r q read gave is =
    let asked = asked_answer words m status text (relock project folder workers old) q is in
    let found = inputs.relock project folder workers old m l r asked.answer read gave asked.gives in
    prints_end asked.answer status text asked.prints.0 asked.prints.1 (relock_ends r l asked.answer found)

-- ---- `deep`

-- no fork is refused where each world has a selection
none_refused : ForkLaws → ForksAreUnserved → (r : ResolutionFields) → IsResolution r → r.wish.strategy ≡ Deep
    → IsServedEverywhere r → (fork : TreeRefusal) → IsForked r (refused_at fork) → ⊥
none_refused laws unserved r is deep served fork forked =
    let none = unserved r fork is forked in
    let w = none.world.0 in
    let inside = ((laws.forks (question_of r) r.project.region).refusal forked.counts fork forked.answer).inside w none.world.1 none.world.2 in
    let has = served w none.world.1 inside in
    none.at_worlds deep w none.world.1 none.world.2 has.0 has.1

deep_lock : (r : ResolutionFields) (f : TreeAnswer) (a : Found) → ((fork : TreeRefusal) → IsForked r (refused_at fork) → ⊥)
    → IsForked r f → LocksFor r f a → 1 ≡ (printed a).0 → ⊥
deep_lock r (leaves_are ls) a none forked h one =
    lock_not_one (first_over (markers_of h.lock)) h.lock (length ls) (one ∙ ap (λ (x : Found). (printed x).0) h.is)
deep_lock r (refused_at fork) a none forked h one = none fork forked
deep_lock r (too_many n) a none forked h one = no_one too_many_forks (one ∙ ap (λ (x : Found). (printed x).0) h)

-- the wish of what files give is the project's
wishes : (project folder : List ℕ) (old : Option (List ℕ)) (m : FileMap) (r : ResolutionFields) → (resolution_in project folder old m).gives (Ok r)
    → r.wish.strategy ≡ r.project.strategy
wishes project folder old m r gave =
    let found = on_ok (project_at project) (λ p. old_lock old >>= λ kept. resolution_with folder p kept) m r gave in
    let kept = on_ok (old_lock old) (resolution_with folder found.value) m r found.answers in
    let on = on_ok (catalog_in folder found.value) (λ c. just (Ok (resolution_of found.value kept.value c))) m r kept.answers in
    let is : r ≡ resolution_of found.value kept.value on.value = same_value r (resolution_of found.value kept.value on.value) on.answers in
    ap (λ (x : ResolutionFields). x.wish.strategy) is ∙ sym (ap (λ (x : ResolutionFields). x.project.strategy) is)
  where
    same_value : (x y : ResolutionFields) → (let a : Result ResolutionFields Refused = Ok x in a) ≡ Ok y → x ≡ y
    same_value x y e = cc

deep_relock : ForkLaws → ForksAreUnserved → (r : ResolutionFields) → IsResolution r → r.project.strategy ≡ Deep → IsServedEverywhere r
    → r.wish.strategy ≡ Deep → (l : Lock) (a : Found) → IsRelockAnswer r l a → 1 ≡ (printed a).0 → ⊥
deep_relock laws unserved r is project_deep served deep l a (inl h) one =
    let stays = refreshed r.catalog l in
    written_not_one (first_over (markers_of stays)) (lock_text stays) (one ∙ ap (λ (x : Found). (printed x).0) h.is)
deep_relock laws unserved r is project_deep served deep l a (inr (inl h)) one =
    deep_lock r h.answers.forked a (none_refused laws unserved r is deep served) h.answers.are_forks h.answers.locks one
deep_relock laws unserved r is project_deep served deep l a (inr (inr h)) one =
    deep_lock (unkept r) h.anew.forked a (none_refused laws unserved (unkept r) (unkept_is r is) project_deep served)
    h.anew.are_forks h.anew.locks one

abbrev GoesWell : Output → Type 0
GoesWell o = (o.0 ≡ 0) ⊎ (o.1 ≡ limit_line (codes "forks") 2048)

deep_why : (r : ResolutionFields) (f : TreeAnswer) (a : Found) → ((fork : TreeRefusal) → IsForked r (refused_at fork) → ⊥)
    → IsForked r f → GivesReason r f a → GoesWell (printed a)
deep_why r (leaves_are ls) a none forked h = subst (λ (x : Found). GoesWell (printed x)) (sym h) (inl refl)
deep_why r (refused_at fork) a none forked h = absurd (none fork forked)
deep_why r (too_many n) a none forked h = subst (λ (x : Found). GoesWell (printed x)) (sym h) (inr refl)

well_printed : (a : Found) (status : ℕ) (text : List ℕ) → status ≡ (printed a).0 → text ≡ (printed a).1 → GoesWell (printed a)
    → (status ≡ 0) ⊎ (text ≡ limit_line (codes "forks") 2048)
well_printed a status text s t (inl h) = inl (s ∙ h)
well_printed a status text s t (inr h) = inr (t ∙ h)

pub deep_refuses_no_fork : InputsAreAnswered → GivenIsResolution → ForkLaws → ForksAreUnserved → DeepRefusesNoFork
deep_refuses_no_fork inputs given laws unserved = record {
  lock = λ words m status text project folder workers old r q gave deep served is one.
      let asked = asked_answer words m status text (lock project folder workers old) q is in
      let found = inputs.lock project folder workers old m r asked.answer gave asked.gives in
      let none = none_refused laws unserved r (given project folder old m r gave) deep served in
      deep_lock r found.forked asked.answer none found.are_forks found.locks (sym one ∙ asked.prints.0);
  why = λ words m status text project folder workers old r q gave deep served is.
      let asked = asked_answer words m status text (why project folder workers old) q is in
      let found = inputs.why project folder workers old m r asked.answer gave asked.gives in
      let none = none_refused laws unserved r (given project folder old m r gave) deep served in
      well_printed asked.answer status text asked.prints.0 asked.prints.1 (deep_why r found.forked asked.answer none found.are_forks found.gives);
  relock = λ words m status text project folder old workers l r q read gave deep served is one.
      let asked = asked_answer words m status text (relock project folder workers old) q is in
      let found = inputs.relock project folder workers old m l r asked.answer read gave asked.gives in
      deep_relock laws unserved r (given project folder (Some old) m r gave) (sym (wishes project folder (Some old) m r gave) ∙ deep)
      served deep l asked.answer found (sym one ∙ asked.prints.0);
}
