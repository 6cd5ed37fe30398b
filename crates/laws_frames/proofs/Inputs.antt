-- Each input depends on what it reads alone.
use Rattle.std.proofs.Common.{◌∙◌, ℕ, List, Option, Some, None, Result, Ok, Err, refl, sym, ap, inl, inr}
use Rattle.std.specs.Prelude.{codes}
use Rattle.ul_project.specs.Fields.{ProjectFields}
use Rattle.ul_groups.specs.Adjusted.{catalog_for}
use Rattle.ul_groups.specs.Expanded.{expanded_project}
use Rattle.ul_load.specs.Laws.{LoadingEnds, TurnsAgree}
use Rattle.ul_load.specs.Loading.{file_bytes}
use Rattle.ul_inputs.specs.Inputs.{Input, IsRefusal, ◌>>=◌, answer, bounded, file_at, just, large_file, present, present_file, small_file, text_bytes}
use Rattle.ul_inputs.specs.Refused.{Refused}
use Rattle.ul_inputs.specs.Catalogs.{beginning, catalog_in, documents}
use Rattle.ul_inputs.specs.Locks.{Kept, kept_of, lock_at, lock_said, old_lock}
use Rattle.ul_inputs.specs.Machines.{machine_at, machine_said}
use Rattle.ul_inputs.specs.Projects.{IsExpanded, IsProjectOf, project_at, project_said}
use Rattle.ul_inputs.specs.Resolutions.{resolution_in, resolution_of, resolution_with}
use Rattle.laws_frames.specs.Frames.{InputsByWhatIsRead, IsByWhatIsRead, SayTheSame}
use Rattle.laws_frames.proofs.Loading.{loads_both}

-- ---- one input after another

refusals_same : {A B : Type 0} (first other : Result A Refused → Type 0) → ((a : Result A Refused) → first a → other a)
    → (r : Result B Refused) → IsRefusal first r → IsRefusal other r
refusals_same first other on (Ok x) h = absurd h
refusals_same first other on (Err e) h = on (Err e) h

-- an input that reads nothing
pub by_values : {A : Type 0} (gives : Result A Refused → Type 0) → IsByWhatIsRead (answer gives)
by_values gives m n agree = record { gives = λ a. ((λ h. h), (λ h. h)); reads = λ path. ((λ h. h), (λ h. h)) }

-- one after another
pub goes_on : {A B : Type 0} (first : Input A) (next : A → Input B) → IsByWhatIsRead first
    → ((x : A) → IsByWhatIsRead (next x)) → IsByWhatIsRead (first >>= next)
goes_on {A} {B} first next one each m n agree =
    let same = one m n (λ path read. agree path (inl read)) in
    let behind : (x : A) → (first m).gives (Ok x) → SayTheSame (next x m) (next x n) =
    λ x gave. each x m n (λ path read. agree path (inr (record { value = x; gave = gave; read = read }))) in
    record {
      gives = λ r. (there same behind r, back same behind r);
      reads = λ path. (read_there same behind path, read_back same behind path);
    }
  where
    there : SayTheSame (first m) (first n) → ((x : A) → (first m).gives (Ok x) → SayTheSame (next x m) (next x n))
        → (r : Result B Refused) → ((first >>= next) m).gives r → ((first >>= next) n).gives r
    there same behind r (inl h) = inl (refusals_same (first m).gives (first n).gives (λ a. (same.gives a).0) r h)
    there same behind r (inr h) = inr (record {
      value = h.value;
      gave = (same.gives (Ok h.value)).0 h.gave;
      answers = ((behind h.value h.gave).gives r).0 h.answers;
    })

    back : SayTheSame (first m) (first n) → ((x : A) → (first m).gives (Ok x) → SayTheSame (next x m) (next x n))
        → (r : Result B Refused) → ((first >>= next) n).gives r → ((first >>= next) m).gives r
    back same behind r (inl h) = inl (refusals_same (first n).gives (first m).gives (λ a. (same.gives a).1) r h)
    back same behind r (inr h) =
        let gave = (same.gives (Ok h.value)).1 h.gave in
        inr (record { value = h.value; gave = gave; answers = ((behind h.value gave).gives r).1 h.answers })

    read_there : SayTheSame (first m) (first n) → ((x : A) → (first m).gives (Ok x) → SayTheSame (next x m) (next x n))
        → (path : List ℕ) → ((first >>= next) m).reads path → ((first >>= next) n).reads path
    read_there same behind path (inl h) = inl ((same.reads path).0 h)
    read_there same behind path (inr h) = inr (record {
      value = h.value;
      gave = (same.gives (Ok h.value)).0 h.gave;
      read = ((behind h.value h.gave).reads path).0 h.read;
    })

    read_back : SayTheSame (first m) (first n) → ((x : A) → (first m).gives (Ok x) → SayTheSame (next x m) (next x n))
        → (path : List ℕ) → ((first >>= next) n).reads path → ((first >>= next) m).reads path
    read_back same behind path (inl h) = inl ((same.reads path).1 h)
    read_back same behind path (inr h) =
        let gave = (same.gives (Ok h.value)).1 h.gave in
        inr (record { value = h.value; gave = gave; read = ((behind h.value gave).reads path).1 h.read })

-- ---- files

by_file : (name : List ℕ) (most : ℕ) (path : List ℕ) → IsByWhatIsRead (file_at name most path)
by_file name most path m n agree =
    let same = ap (bounded name most) (agree path refl) in
    record { gives = λ r. ((λ h. h ∙ sym same), (λ h. h ∙ same)); reads = λ read. ((λ h. h), (λ h. h)) }

pub by_present : (name : List ℕ) (most : ℕ) (path : List ℕ) → IsByWhatIsRead (present_file name most path)
by_present name most path =
    goes_on (file_at name most path) (λ found. just (present path found)) (by_file name most path) (λ found. by_values _)

by_project : (path : List ℕ) → IsByWhatIsRead (project_at path)
by_project path =
    goes_on (small_file path) (project_said path) (by_present (codes "file-bytes") file_bytes path)
    (λ bytes. goes_on (answer (IsProjectOf path bytes)) (λ p. answer (IsExpanded path (expanded_project p))) (by_values _) (λ p. by_values _))

by_lock : (path : List ℕ) → IsByWhatIsRead (lock_at path)
by_lock path = goes_on (large_file path) (lock_said path) (by_present (codes "text-bytes") text_bytes path) (λ text. by_values _)

by_old_lock : (old : Option (List ℕ)) → IsByWhatIsRead (old_lock old)
by_old_lock None = by_values _
by_old_lock (Some path) = goes_on (lock_at path) (λ l. just (Ok (kept_of l))) (by_lock path) (λ l. by_values _)

by_machine : (path : List ℕ) → IsByWhatIsRead (machine_at path)
by_machine path =
    goes_on (small_file path) (machine_said path) (by_present (codes "file-bytes") file_bytes path) (λ bytes. by_values _)

-- ---- catalogs

by_documents : TurnsAgree → LoadingEnds → (folder : List ℕ) (p : ProjectFields) → IsByWhatIsRead (documents folder p)
by_documents turns ends folder p m n agree =
    let same = loads_both turns ends m n folder (beginning p) agree in
    record {
      gives = λ r. (
        λ h. record { found = h.found; answered = (h.answered.0, (same (h.answered.0, h.found)).0 h.answered.1); is = h.is },
        λ h. record { found = h.found; answered = (h.answered.0, (same (h.answered.0, h.found)).1 h.answered.1); is = h.is },
      );
      reads = λ path. ((λ h. (h.0, (same h.0).0 h.1, h.2)), (λ h. (h.0, (same h.0).1 h.1, h.2)));
    }

by_catalog : TurnsAgree → LoadingEnds → (folder : List ℕ) (p : ProjectFields) → IsByWhatIsRead (catalog_in folder p)
by_catalog turns ends folder p =
    goes_on (documents folder p) (λ c. just (Ok (catalog_for p c))) (by_documents turns ends folder p)
    (λ c. by_values _)

by_resolution_with : TurnsAgree → LoadingEnds → (folder : List ℕ) (p : ProjectFields) (kept : List Kept)
    → IsByWhatIsRead (resolution_with folder p kept)
by_resolution_with turns ends folder p kept =
    goes_on (catalog_in folder p) (λ c. just (Ok (resolution_of p kept c))) (by_catalog turns ends folder p) (λ c. by_values _)

by_resolution : TurnsAgree → LoadingEnds → (project folder : List ℕ) (old : Option (List ℕ))
    → IsByWhatIsRead (resolution_in project folder old)
by_resolution turns ends project folder old =
    goes_on (project_at project) (λ p. old_lock old >>= λ kept. resolution_with folder p kept) (by_project project)
    (λ p. goes_on (old_lock old) (λ kept. resolution_with folder p kept) (by_old_lock old)
    (λ kept. by_resolution_with turns ends folder p kept))

pub by_what_is_read : TurnsAgree → LoadingEnds → InputsByWhatIsRead
by_what_is_read turns ends = record {
  project = by_project;
  lock = by_lock;
  old_lock = by_old_lock;
  machine = by_machine;
  catalog = by_resolution_with turns ends;
  resolution = by_resolution turns ends;
}
