-- Loading ends, with one answer.
use Rattle.std.proofs.Common.{◌≡◌, ℕ, zero, suc, ◌+◌, ◌≤◌, List, [], ◌∷◌, ◌++◌, length, length-append, nat_lt, cond, Bool, true, false, Option, Some, None, option_map, Ok, Err, refl, ap, sym, ◌∙◌, arith}
use Rattle.std.proofs.lemmas.Bool.Decides.{nat_tests}
use Rattle.ul_files.specs.Files.{FileMap}
use Rattle.ul_requirement.specs.Fields.{PackageFields}
use Rattle.ul_index.specs.Catalogs.{Packages}
use Rattle.ul_load.specs.Laws.{LoadingEnds, TurnsAgree}
use Rattle.ul_load.specs.Loading.{Beginning, Found, Loads, ProgressFields, Traced, ◌>>=◌, document_path, first_progress, go_on, load_from, most_packages, next_name, next_progress, package_at, progress_with, within}
use Rattle.ul_load.specs.Progressing.{HasNext}
use Rattle.ul_load.proofs.Limits.{within_has}
use Rattle.ul_load.proofs.Turns.{bad_turn, first_refused, good_turn, last_turn, loads_first}

-- ---- one answer

one_rest : (paths : List (List ℕ)) (one other : Option (Traced Packages)) (t u : Traced Packages)
    → ((v w : Traced Packages) → one ≡ Some v → other ≡ Some w → v ≡ w)
    → option_map (λ v. (paths ++ v.0, v.1)) one ≡ Some t → option_map (λ v. (paths ++ v.0, v.1)) other ≡ Some u → t ≡ u
one_rest paths None other t u same h k = cc
one_rest paths (Some v) None t u same h k = cc
one_rest paths (Some v) (Some w) t u same h k =
    let one : (paths ++ v.0, v.1) ≡ t = cc in
    let other : (paths ++ w.0, w.1) ≡ u = cc in
    sym one ∙ ap (λ x. (paths ++ x.0, x.1)) (same v w refl refl) ∙ other

one_step : (paths : List (List ℕ)) (found : Found ProgressFields) (one other : ProgressFields → Option (Traced Packages)) (t u : Traced Packages)
    → ((s : ProgressFields) (v w : Traced Packages) → one s ≡ Some v → other s ≡ Some w → v ≡ w)
    → go_on paths found one ≡ Some t → go_on paths found other ≡ Some u → t ≡ u
one_step paths (Ok s) one other t u same h k = one_rest paths (one s) (other s) t u (same s) h k
one_step paths (Err f) one other t u same h k = cc

one_turn : (more : Bool) (last : Option (Traced Packages)) (paths : List (List ℕ)) (found : Found ProgressFields) (one other : ProgressFields → Option (Traced Packages)) (t u : Traced Packages)
    → ((s : ProgressFields) (v w : Traced Packages) → one s ≡ Some v → other s ≡ Some w → v ≡ w)
    → cond more (go_on paths found one) last ≡ Some t → cond more (go_on paths found other) last ≡ Some u → t ≡ u
one_turn true last paths found one other t u same h k = one_step paths found one other t u same h k
one_turn false last paths found one other t u same h k = cc

one_from : (m : FileMap) (folder : List ℕ) (few many : ℕ) (s : ProgressFields) (t u : Traced Packages)
    → load_from m folder few s ≡ Some t → load_from m folder many s ≡ Some u → t ≡ u
one_from m folder zero many s t u h k = cc
one_from m folder (suc few) zero s t u h k = cc
one_from m folder (suc few) (suc many) s t u h k =
    one_turn (nat_lt (length s.packages) (length s.names)) (Some ([], Ok s.packages)) (document_path folder (next_name s) ∷ []) (next_progress m folder s)
    (load_from m folder few) (load_from m folder many) t u (one_from m folder few many) h k

pub turns_agree : TurnsAgree
turns_agree m folder b few many t u h k =
    one_step [] (within (first_progress b)) (load_from m folder few) (load_from m folder many) t u (one_from m folder few many) h k

-- ---- an end

more_packages : (s r : ProgressFields) (found : Found (ℕ × PackageFields)) → (found >>= λ p. within (progress_with s p)) ≡ Ok r
    → (length r.packages ≡ length s.packages + 1) × (length r.names ≤ most_packages)
more_packages s r (Err f) h = cc
more_packages s r (Ok p) h =
    let has = within_has (progress_with s p) r h in
    rw (← has.0) (length-append s.packages (p.1 ∷ []), has.1)

-- what some number of turns gives from a progress on
abbrev Ends : FileMap → List ℕ → ProgressFields → Type 0
Ends m folder s = (turns : ℕ) × (t : Traced Packages) × (load_from m folder turns s ≡ Some t)

past : (s : ProgressFields) → nat_lt (length s.packages) (length s.names) ≡ false → length s.names ≤ length s.packages
past s e = grind (arith, nat_tests)

below : (s : ProgressFields) → nat_lt (length s.packages) (length s.names) ≡ true → HasNext s
below s e = grind (arith, nat_tests)

ends_by : (m : FileMap) (folder : List ℕ) (s : ProgressFields) (found : Found ProgressFields) → next_progress m folder s ≡ found → HasNext s
    → ((r : ProgressFields) → next_progress m folder s ≡ Ok r → Ends m folder r) → Ends m folder s
ends_by m folder s (Err f) is h on = (suc zero, (document_path folder (next_name s) ∷ [], Err f), bad_turn m folder s f h is)
ends_by m folder s (Ok r) is h on =
    let rest = on r is in
    (suc rest.0, (document_path folder (next_name s) ∷ rest.1.0, rest.1.1), good_turn m folder rest.0 s r rest.1 h is rest.2)

ends_if : (m : FileMap) (folder : List ℕ) (s : ProgressFields) (more : Bool) → nat_lt (length s.packages) (length s.names) ≡ more
    → ((r : ProgressFields) → next_progress m folder s ≡ Ok r → Ends m folder r) → Ends m folder s
ends_if m folder s true e on = ends_by m folder s (next_progress m folder s) refl (below s e) on
ends_if m folder s false e on = (suc zero, ([], Ok s.packages), last_turn m folder s (past s e))

-- from each progress with few names some number of turns suffices
pub ends_from : (m : FileMap) (folder : List ℕ) (left : ℕ) (s : ProgressFields) → most_packages ≤ length s.packages + left → length s.names ≤ most_packages
    → Ends m folder s
ends_from m folder zero s few names = (suc zero, ([], Ok s.packages), last_turn m folder s (omega arith))
ends_from m folder (suc left) s few names =
    ends_if m folder s (nat_lt (length s.packages) (length s.names)) refl
    (λ r is.
    let more = more_packages s r (package_at m folder (next_name s) s.bytes) is in
    ends_from m folder left r (omega (arith, more.0)) more.1)

ends_first : (m : FileMap) (folder : List ℕ) (b : Beginning) (found : Found ProgressFields) → within (first_progress b) ≡ found → (t : Traced Packages) × Loads m folder b t
ends_first m folder b (Err f) is = let answer = first_refused m folder b f is in ((answer.0, Err f), answer.1)
ends_first m folder b (Ok s) is =
    let has = within_has (first_progress b) s is in
    let rest = ends_from m folder most_packages s (omega arith) (rw (← has.0) has.1) in
    ((rest.1.0, rest.1.1), (loads_first m folder b s is).rest rest.0 rest.1 rest.2)

pub loading_ends : LoadingEnds
loading_ends m folder b = ends_first m folder b (within (first_progress b)) refl
