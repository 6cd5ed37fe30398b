-- One turn of loading, and the last.
use Rattle.std.proofs.Common.{◌≡◌, ℕ, zero, suc, ◌≤◌, List, [], ◌∷◌, ◌++◌, length, Option, Some, None, option_map, Ok, Err, Contains, ap, refl, sym, append_assoc}
use Rattle.std.proofs.lemmas.List.Elements.{Contains-append_right}
use Rattle.ul_base.proofs.ForCallers.{contains_first}
use Rattle.ul_files.specs.Files.{FileMap}
use Rattle.ul_index.specs.Catalogs.{Packages}
use Rattle.ul_load.specs.Loading.{Beginning, Fault, Found, IsRead, LoadAnswer, ProgressFields, Traced, document_path, first_progress, go_on, load_from, next_name, next_progress, within}
use Rattle.ul_load.specs.Progressing.{HasNext, IsLoading}
use Rattle.ul_load.proofs.Limits.{is_below, is_past}

-- no name is left: the packages are all
pub last_turn : (m : FileMap) (folder : List ℕ) (s : ProgressFields) → length s.names ≤ length s.packages
    → load_from m folder (suc zero) s ≡ Some ([], Ok s.packages)
last_turn m folder s h = rw (is_past (length s.packages) (length s.names) h) refl

-- a turn that went well goes on with the next name
pub good_turn : (m : FileMap) (folder : List ℕ) (turns : ℕ) (s r : ProgressFields) (t : Traced Packages)
    → HasNext s → next_progress m folder s ≡ Ok r → load_from m folder turns r ≡ Some t
    → load_from m folder (suc turns) s ≡ Some (document_path folder (next_name s) ∷ t.0, t.1)
good_turn m folder turns s r t h went rest = rw (is_below (length s.packages) (length s.names) h, went, rest) refl

-- a turn that found a fault ends the loading
pub bad_turn : (m : FileMap) (folder : List ℕ) (s : ProgressFields) (f : Fault) → HasNext s → next_progress m folder s ≡ Err f
    → load_from m folder (suc zero) s ≡ Some (document_path folder (next_name s) ∷ [], Err f)
bad_turn m folder s f h found = rw (is_below (length s.packages) (length s.names) h, found) refl

-- the beginning is a beginning of loading
pub loads_first : (m : FileMap) (folder : List ℕ) (b : Beginning) (s : ProgressFields) → within (first_progress b) ≡ Ok s → IsLoading m folder b [] s
loads_first m folder b s is = record { rest = λ turns t e. (turns, rw (is, e) refl) }

-- a fault of the project itself is the answer
pub first_refused : (m : FileMap) (folder : List ℕ) (b : Beginning) (f : Fault) → within (first_progress b) ≡ Err f → LoadAnswer m folder b (Err f)
first_refused m folder b f is = ([], (zero, rw is refl))

-- what holds in the midst of loading holds after a turn that went well
pub loads_on : (m : FileMap) (folder : List ℕ) (b : Beginning) (paths : List (List ℕ)) (s r : ProgressFields) → HasNext s
    → next_progress m folder s ≡ Ok r → IsLoading m folder b paths s → IsLoading m folder b (paths ++ document_path folder (next_name s) ∷ []) r
loads_on m folder b paths s r h went kept = record {
  rest = λ turns t e. rw (append_assoc paths (document_path folder (next_name s) ∷ []) t.0)
      (kept.rest (suc turns) (document_path folder (next_name s) ∷ t.0, t.1) (good_turn m folder turns s r t h went e));
}

-- each name has its package: they are the answer
pub loaded : (m : FileMap) (folder : List ℕ) (b : Beginning) (paths : List (List ℕ)) (s : ProgressFields) → length s.names ≤ length s.packages
    → IsLoading m folder b paths s → LoadAnswer m folder b (Ok s.packages)
loaded m folder b paths s h kept = (paths ++ [], kept.rest (suc zero) ([], Ok s.packages) (last_turn m folder s h))

-- the fault of a turn is the answer
pub refused : (m : FileMap) (folder : List ℕ) (b : Beginning) (paths : List (List ℕ)) (s : ProgressFields) (f : Fault) → HasNext s
    → next_progress m folder s ≡ Err f → IsLoading m folder b paths s → LoadAnswer m folder b (Err f)
refused m folder b paths s f h found kept =
    (paths ++ document_path folder (next_name s) ∷ [], kept.rest (suc zero) (document_path folder (next_name s) ∷ [], Err f) (bad_turn m folder s f h found))

-- the path is the first of these
abbrev IsFirst : List ℕ → List (List ℕ) → Type 0
IsFirst path paths = (rest : List (List ℕ)) × (paths ≡ path ∷ rest)

first_of_rest : (path : List ℕ) (rest : Option (Traced Packages)) (t : Traced Packages)
    → option_map (λ u. ((path ∷ []) ++ u.0, u.1)) rest ≡ Some t → IsFirst path t.0
first_of_rest path None t h = cc
first_of_rest path (Some u) t h = let same : (path ∷ u.0, u.1) ≡ t = cc in (u.0, sym (ap (λ (x : Traced Packages). x.0) same))

first_found : (path : List ℕ) (found : Found ProgressFields) (next : ProgressFields → Option (Traced Packages)) (t : Traced Packages)
    → go_on (path ∷ []) found next ≡ Some t → IsFirst path t.0
first_found path (Ok s) next t h = first_of_rest path (next s) t h
first_found path (Err f) next t h = let same : (path ∷ [], Err f) ≡ t = cc in ([], sym (ap (λ (x : Traced Packages). x.0) same))

-- the document of the next name is read first
pub next_first : (m : FileMap) (folder : List ℕ) (turns : ℕ) (s : ProgressFields) (t : Traced Packages) → HasNext s
    → load_from m folder turns s ≡ Some t → IsFirst (document_path folder (next_name s)) t.0
next_first m folder zero s t h e = cc
next_first m folder (suc turns) s t h e =
    first_found (document_path folder (next_name s)) (next_progress m folder s) (load_from m folder turns) t (rw (is_below (length s.packages) (length s.names) h) at e)

-- so it is read
next_read : (m : FileMap) (folder : List ℕ) (turns : ℕ) (s : ProgressFields) (t : Traced Packages) → HasNext s
    → load_from m folder turns s ≡ Some t → Contains t.0 (document_path folder (next_name s))
next_read m folder turns s t h e =
    let is = next_first m folder turns s t h e in rw is.1 (contains_first (document_path folder (next_name s)) is.0)

-- and it is one of those that loading reads
pub reads_next : (m : FileMap) (folder : List ℕ) (b : Beginning) (paths : List (List ℕ)) (turns : ℕ) (s : ProgressFields) (t : Traced Packages) → HasNext s
    → load_from m folder turns s ≡ Some t → IsLoading m folder b paths s → IsRead m folder b (document_path folder (next_name s))
reads_next m folder b paths turns s t h e kept =
    ((paths ++ t.0, t.1), kept.rest turns t e, Contains-append_right paths t.0 (document_path folder (next_name s)) (next_read m folder turns s t h e))
