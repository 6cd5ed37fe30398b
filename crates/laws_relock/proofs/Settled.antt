-- A lock that `lock` or `relock` gives of files is settled, and what holds of a settled lock.
use Rattle.std.proofs.Common.{◌≡◌, ◌∙◌, ◌≤◌, ℕ, List, [], length, Option, Some, None, Result, Ok, refl, sym, ap, subst, inl, inr}
use Rattle.ul_files.specs.Files.{FileMap, content}
use Rattle.ul_index.specs.Catalogs.{Packages}
use Rattle.ul_project.specs.Fields.{ProjectFields}
use Rattle.ul_lock.specs.WellFormed.{IsWellFormed}
use Rattle.ul_lock.specs.declared.parts.Lock.{Lock}
use Rattle.ul_lock_read.specs.Laws.{TextIsLocks}
use Rattle.ul_lock_write.specs.Markers.{first_over, markers_of}
use Rattle.ul_lock_write.specs.Texts.{lock_text}
use Rattle.ul_verified.specs.Headline.{VerifiedPromises}
use Rattle.ul_inputs.specs.Inputs.{text_bytes}
use Rattle.ul_inputs.specs.Locks.{Kept, kept_of, lock_at}
use Rattle.ul_inputs.specs.Projects.{project_at}
use Rattle.ul_inputs.specs.Refused.{Refused}
use Rattle.ul_inputs.specs.Resolutions.{ResolutionFields, resolution_in, resolution_of, resolution_with}
use Rattle.ul_answers.specs.Answer.{Answer, locked, verified}
use Rattle.ul_commands.specs.Asked.{verify}
use Rattle.ul_commands.specs.Commands.{command}
use Rattle.ul_commands.specs.Locking.{IsLockAnswer}
use Rattle.laws_frames.specs.Frames.{AgreeOn, InputsByWhatIsRead}
use Rattle.laws_commands.specs.Printed.{PrintedLaws}
use Rattle.laws_commands.proofs.ForCallers.{answered_verified, answered_well, ok_same, read_of, read_well, text_read}
use Rattle.ul_commands.specs.Relocking.{IsKept, IsRelockAnswer, fork_count, refreshed, relock_of, relock_on, relock_with, unkept}
use Rattle.laws_relock.specs.Answered.{FilesAreDocuments, RootsListNoOther}
use Rattle.laws_relock.specs.Settled.{IsSettled, LocksAreSettled, RelocksAreSettled, SettledPromises}
use Rattle.laws_relock.proofs.Refreshed.{lists_to, refreshed_same, refreshed_twice, verified_to, well_formed_to}

-- the laws on which this rests
pub record SettledLaws : Type 0 where
  pub printed : PrintedLaws
  pub files : FilesAreDocuments
  pub extras : RootsListNoOther

-- ---- what is read, whatever an old lock keeps

-- the documents of an index folder give a resolution with other kept versions too
pub made_with : (folder : List ℕ) (p : ProjectFields) (kept : List Kept) (c : Packages) (m : FileMap)
    → (resolution_with folder p [] m).gives (Ok (resolution_of p [] c))
    → (resolution_with folder p kept m).gives (Ok (resolution_of p kept c))
made_with folder p kept c m (inl h) = absurd h
made_with folder p kept c m (inr h) =
    let same = ok_same ResolutionFields (resolution_of p [] c) (resolution_of p [] h.value) h.answers in
    inr (record {
      value = h.value;
      gave = h.gave;
      answers = ap (λ (r : ResolutionFields). Ok (resolution_of p kept r.catalog)) same;
    })

-- the resolution of the same files without an old lock
pub given_anew : (project folder : List ℕ) (old : Option (List ℕ)) (m : FileMap) (r : ResolutionFields)
    → (resolution_in project folder old m).gives (Ok r) → (resolution_in project folder None m).gives (Ok (unkept r))
given_anew project folder old m r gave =
    let read = read_of project folder old m r gave in
    subst (λ (s : ResolutionFields). (resolution_in project folder None m).gives (Ok (unkept s))) (sym read.is)
    (inr (record {
      value = read.fields;
      gave = read.said;
      answers = inr (record { value = []; gave = refl; answers = read.made });
    }))

-- a lock is kept, whatever versions an old lock keeps
pub kept_anew : (r : ResolutionFields) (l : Lock) → IsKept r l → IsKept (unkept r) l
kept_anew r l h = record { verified = h.verified; extras = h.extras; paths = h.paths; bytes = h.bytes }

-- ---- locks that are answered

settled_by : (project folder : List ℕ) (old : Option (List ℕ)) (m : FileMap) (r : ResolutionFields) (l : Lock)
    → (resolution_in project folder old m).gives (Ok r) → IsWellFormed l → IsKept r l → refreshed r.catalog l ≡ l
    → IsSettled project folder m l
settled_by project folder old m r l gave well kept same = record {
  resolution = unkept r;
  given = given_anew project folder old m r gave;
  well_formed = well;
  kept = kept_anew r l kept;
  same = same;
}

-- a lock that is answered
pub answered_settled : SettledLaws → (project folder : List ℕ) (old : Option (List ℕ)) (m : FileMap) (r : ResolutionFields)
    (l : Lock) (forks : ℕ)
    → (resolution_in project folder old m).gives (Ok r) → IsLockAnswer r (Ok (locked l forks))
    → length (lock_text l) ≤ text_bytes → IsSettled project folder m l
answered_settled laws project folder old m r l forks gave answer few =
    let is = laws.printed.resolution project folder old m r gave in
    let same = refreshed_same r.catalog l (laws.files r l forks answer) in
    settled_by project folder old m r l gave (answered_well laws.printed project folder old m r l forks gave answer)
    (record {
      verified = answered_verified laws.printed project folder old m r l forks gave answer;
      extras = laws.extras r l forks is answer;
      paths = ap (λ k. first_over (markers_of k)) same ∙ laws.printed.printable r l forks answer;
      bytes = subst (λ k. length (lock_text k) ≤ text_bytes) (sym same) few;
    })
    same

pub locks_are_settled : SettledLaws → LocksAreSettled
locks_are_settled laws project folder old m l forks (inl h) few = absurd h
locks_are_settled laws project folder old m l forks (inr h) few =
    answered_settled laws project folder old m h.value l forks h.gave h.answers few

-- ---- locks that are kept

-- an old lock that stays, with the files of today
pub kept_settled : SettledLaws → (project folder old : List ℕ) (m : FileMap) (r : ResolutionFields) (l : Lock)
    → (resolution_in project folder (Some old) m).gives (Ok r) → IsWellFormed l → IsKept r l
    → IsSettled project folder m (refreshed r.catalog l)
kept_settled laws project folder old m r l gave well kept =
    let c = r.catalog in
    let twice = refreshed_twice c l in
    settled_by project folder (Some old) m r (refreshed c l) gave
    (well_formed_to c (laws.printed.had project folder (Some old) m r gave).files l well)
    (record {
      verified = verified_to c l r.project kept.verified;
      extras = lists_to c l r.project kept.extras;
      paths = ap (λ k. first_over (markers_of k)) twice ∙ kept.paths;
      bytes = subst (λ k. length (lock_text k) ≤ text_bytes) (sym twice) kept.bytes;
    })
    twice

-- what `relock` read, and its answer
pub record IsRelocked (project folder old : List ℕ) (m : FileMap) (a : Result Answer Refused) : Type 0 where
  pub fields : ProjectFields
  pub said : (project_at project m).gives (Ok fields)
  pub lock : Lock
  pub read : (lock_at old m).gives (Ok lock)
  pub resolution : ResolutionFields
  pub made : (resolution_with folder fields (kept_of lock) m).gives (Ok resolution)
  pub answers : IsRelockAnswer resolution lock a

-- it read what `lock` with the old lock reads
pub relocked_gave : (project folder old : List ℕ) (m : FileMap) (a : Result Answer Refused) (h : IsRelocked project folder old m a)
    → (resolution_in project folder (Some old) m).gives (Ok h.resolution)
relocked_gave project folder old m a h = inr (record {
  value = h.fields;
  gave = h.said;
  answers = inr (record {
    value = kept_of h.lock;
    gave = inr (record { value = h.lock; gave = h.read; answers = refl });
    answers = h.made;
  });
})

-- what it read for an answer that isn't a refused input
relocked_on : (project folder old : List ℕ) (m : FileMap) (x : Answer) (p : ProjectFields) (l : Lock)
    → (project_at project m).gives (Ok p) → (lock_at old m).gives (Ok l) → (relock_with folder p l m).gives (Ok x)
    → IsRelocked project folder old m (Ok x)
relocked_on project folder old m x p l said read (inl h) = absurd h
relocked_on project folder old m x p l said read (inr h) = record {
  fields = p;
  said = said;
  lock = l;
  read = read;
  resolution = h.value;
  made = h.gave;
  answers = h.answers;
}

relocked_behind : (project folder old : List ℕ) (m : FileMap) (x : Answer) (p : ProjectFields)
    → (project_at project m).gives (Ok p) → (relock_on folder old p m).gives (Ok x) → IsRelocked project folder old m (Ok x)
relocked_behind project folder old m x p said (inl h) = absurd h
relocked_behind project folder old m x p said (inr h) = relocked_on project folder old m x p h.value said h.gave h.answers

pub relocked_of : (project folder old : List ℕ) (m : FileMap) (x : Answer) → (relock_of project folder old m).gives (Ok x)
    → IsRelocked project folder old m (Ok x)
relocked_of project folder old m x (inl h) = absurd h
relocked_of project folder old m x (inr h) = relocked_behind project folder old m x h.value h.gave h.answers

lock_same : (k l : Lock) (m n : ℕ) → (let a : Result Answer Refused = Ok (locked k m) in a) ≡ Ok (locked l n) → l ≡ k
lock_same k l m n e = cc

by_answer : SettledLaws → (project folder old : List ℕ) (m : FileMap) (l : Lock) (forks : ℕ)
    (h : IsRelocked project folder old m (Ok (locked l forks)))
    → IsRelockAnswer h.resolution h.lock (Ok (locked l forks)) → length (lock_text l) ≤ text_bytes → IsSettled project folder m l
by_answer laws project folder old m l forks h (inl kept) few =
    subst (IsSettled project folder m)
    (lock_same l (refreshed h.resolution.catalog h.lock) forks (fork_count h.lock.forks) kept.is)
    (kept_settled laws project folder old m h.resolution h.lock (relocked_gave project folder old m (Ok (locked l forks)) h)
    (read_well old m h.lock h.read) kept.kept)
by_answer laws project folder old m l forks h (inr (inl again)) few =
    answered_settled laws project folder (Some old) m h.resolution l forks
    (relocked_gave project folder old m (Ok (locked l forks)) h) again.answers few
by_answer laws project folder old m l forks h (inr (inr anew)) few =
    answered_settled laws project folder None m (unkept h.resolution) l forks
    (given_anew project folder (Some old) m h.resolution (relocked_gave project folder old m (Ok (locked l forks)) h)) anew.anew few

pub relocks_are_settled : SettledLaws → RelocksAreSettled
relocks_are_settled laws project folder old m l forks gives few =
    let h = relocked_of project folder old m (locked l forks) gives in
    by_answer laws project folder old m l forks h h.answers few

-- ---- what holds of a settled lock

-- its text is read as the lock
pub lock_read : TextIsLocks → (project folder path : List ℕ) (m : FileMap) (l : Lock) → IsSettled project folder m l
    → content m path ≡ Some (lock_text l) → (lock_at path m).gives (Ok l)
lock_read texts project folder path m l h at =
    text_read texts m path l h.well_formed (ap (λ k. first_over (markers_of k)) (sym h.same) ∙ h.kept.paths) at
    (subst (λ k. length (lock_text k) ≤ text_bytes) h.same h.kept.bytes)

-- what was read of the project and the index, and the lock that is kept for it
record IsReadAs (project folder : List ℕ) (m : FileMap) (l : Lock) : Type 0 where
  fields : ProjectFields
  said : (project_at project m).gives (Ok fields)
  catalog : Packages
  made : (resolution_with folder fields [] m).gives (Ok (resolution_of fields [] catalog))
  kept : IsKept (resolution_of fields [] catalog) l
  same : refreshed catalog l ≡ l

read_as : (project folder : List ℕ) (m : FileMap) (l : Lock) → IsSettled project folder m l → IsReadAs project folder m l
read_as project folder m l h =
    let read = read_of project folder None m h.resolution h.given in
    record {
      fields = read.fields;
      said = read.said;
      catalog = read.catalog;
      made = read.made;
      kept = subst (λ (r : ResolutionFields). IsKept (unkept r) l) read.is (kept_anew h.resolution l h.kept);
      same = subst (λ (r : ResolutionFields). refreshed r.catalog l ≡ l) read.is h.same;
    }

stays : TextIsLocks → (project folder path : List ℕ) (m : FileMap) (l : Lock) → IsSettled project folder m l
    → content m path ≡ Some (lock_text l) → (relock_of project folder path m).gives (Ok (locked l (fork_count l.forks)))
stays texts project folder path m l h at =
    let read = read_as project folder m l h in
    inr (record {
      value = read.fields;
      gave = read.said;
      answers = inr (record {
        value = l;
        gave = lock_read texts project folder path m l h at;
        answers = inr (record {
          value = resolution_of read.fields (kept_of l) read.catalog;
          gave = made_with folder read.fields (kept_of l) read.catalog m read.made;
          answers = inl (record {
            kept = record { verified = read.kept.verified; extras = read.kept.extras; paths = read.kept.paths; bytes = read.kept.bytes };
            is = ap (λ k. Ok (locked k (fork_count l.forks))) (sym read.same);
          });
        });
      });
    })

is_verified : TextIsLocks → (project folder path : List ℕ) (m : FileMap) (l : Lock) → IsSettled project folder m l
    → content m path ≡ Some (lock_text l) → (command (verify project folder path) m).gives (Ok verified)
is_verified texts project folder path m l h at =
    let read = read_as project folder m l h in
    inr (record {
      value = read.fields;
      gave = read.said;
      answers = inr (record {
        value = l;
        gave = lock_read texts project folder path m l h at;
        answers = inr (record {
          value = resolution_of read.fields [] read.catalog;
          gave = read.made;
          answers = inl (record { verified = read.kept.verified; is = refl });
        });
      });
    })

-- it is settled beside other files, where those which are read for the project and the index are the same
pub settled_moves : InputsByWhatIsRead → (project folder : List ℕ) (before now : FileMap) (l : Lock)
    → AgreeOn (resolution_in project folder None before).reads before now
    → IsSettled project folder before l → IsSettled project folder now l
settled_moves inputs project folder before now l agree settled = record {
  resolution = settled.resolution;
  given = ((inputs.resolution project folder None before now agree).gives (Ok settled.resolution)).0 settled.given;
  well_formed = settled.well_formed;
  kept = settled.kept;
  same = settled.same;
}

pub settled_promises : InputsByWhatIsRead → TextIsLocks → VerifiedPromises → SettledPromises
settled_promises inputs texts promises = record {
  moves = settled_moves inputs;
  stays = stays texts;
  verified = is_verified texts;
  sound = λ project folder m l h.
      promises.sound h.resolution.catalog h.resolution.project l h.well_formed h.kept.verified;
}
