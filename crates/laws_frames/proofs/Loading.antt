-- Loading depends on the documents that it reads alone.
use Rattle.std.proofs.Common.{◌≡◌, ◌∙◌, ℕ, zero, suc, List, [], ◌∷◌, ◌++◌, length, cond, nat_lt, Bool, true, false, Option, Some, None, option_map, Ok, Err, Contains, refl, sym, ap, subst}
use Rattle.std.specs.Prelude.{◌↔◌}
use Rattle.ul_base.proofs.ForCallers.{contains_first, contains_later}
use Rattle.ul_files.specs.Files.{FileMap, content}
use Rattle.ul_index.specs.Catalogs.{Packages}
use Rattle.ul_load.specs.Laws.{LoadingEnds, TurnsAgree}
use Rattle.ul_load.specs.Loading.{Beginning, Found, IsRead, Loads, ProgressFields, Traced, ◌>>=◌, document_path, file_content, first_progress, go_on, load_from, next_name, next_progress, package_at, package_from, progress_with, within}
use Rattle.laws_frames.specs.Frames.{AgreeOn}

-- the maps have the same at each path of a list
abbrev AgreeOnAll : List (List ℕ) → FileMap → FileMap → Type 0
AgreeOnAll paths m n = AgreeOn (Contains paths) m n

-- the next package comes of its document alone
next_same : (m n : FileMap) (folder : List ℕ) (s : ProgressFields)
    → content n (document_path folder (next_name s)) ≡ content m (document_path folder (next_name s))
    → next_progress n folder s ≡ next_progress m folder s
unfolding package_at
next_same m n folder s same =
    ap (λ o. file_content (document_path folder (next_name s)) o
    >>= package_from (document_path folder (next_name s)) (next_name s) s.bytes
    >>= λ p. within (progress_with s p)) same

-- what follows a turn has its answer behind the path of the turn
rest_of : (path : List ℕ) (here there : Option (Traced Packages)) (t : Traced Packages)
    → ((u : Traced Packages) → here ≡ Some u → ((read : List ℕ) → Contains u.0 read → Contains t.0 read) → there ≡ Some u)
    → option_map (λ u. (path ∷ u.0, u.1)) here ≡ Some t → option_map (λ u. (path ∷ u.0, u.1)) there ≡ Some t
rest_of path None there t on e = absurd (cc)
rest_of path (Some u) there t on e =
    let is : (path ∷ u.0, u.1) ≡ t = cc in
    let rest = on u refl (λ read at. subst (λ (v : Traced Packages). Contains v.0 read) is (contains_later path u.0 read at)) in
    let behind = ap (option_map (λ (v : Traced Packages). (path ∷ v.0, v.1))) rest in
    behind ∙ e

-- a turn on the same document goes the same way
go_same : (path : List ℕ) (found : Found ProgressFields) (here there : ProgressFields → Option (Traced Packages)) (t : Traced Packages)
    → ((r : ProgressFields) (u : Traced Packages) → here r ≡ Some u → ((read : List ℕ) → Contains u.0 read → Contains t.0 read)
    → there r ≡ Some u)
    → go_on (path ∷ []) found here ≡ Some t → go_on (path ∷ []) found there ≡ Some t
go_same path (Ok r) here there t on e = rest_of path (here r) (there r) t (on r) e
go_same path (Err f) here there t on e = e

-- the path of a turn is read
path_read : (path : List ℕ) (found : Found ProgressFields) (here : ProgressFields → Option (Traced Packages)) (t : Traced Packages)
    → go_on (path ∷ []) found here ≡ Some t → Contains t.0 path
path_read path (Ok r) here t e = behind (here r) e
  where
    behind : (o : Option (Traced Packages)) → option_map (λ (u : Traced Packages). (path ∷ u.0, u.1)) o ≡ Some t → Contains t.0 path
    behind None h = absurd (cc)
    behind (Some u) h =
        let is : (path ∷ u.0, u.1) ≡ t = cc in subst (λ (v : Traced Packages). Contains v.0 path) is (contains_first path u.0)
path_read path (Err f) here t e =
    let is : (path ∷ [], Err f) ≡ t = cc in subst (λ (v : Traced Packages). Contains v.0 path) is (contains_first path [])

-- where a turn is made or not
turn_same : (more : Bool) (path : List ℕ) (found other : Found ProgressFields) (here there : ProgressFields → Option (Traced Packages))
    (last : Option (Traced Packages)) (t : Traced Packages)
    → (Contains t.0 path → other ≡ found)
    → ((r : ProgressFields) (u : Traced Packages) → here r ≡ Some u → ((read : List ℕ) → Contains u.0 read → Contains t.0 read)
    → there r ≡ Some u)
    → cond more (go_on (path ∷ []) found here) last ≡ Some t → cond more (go_on (path ∷ []) other there) last ≡ Some t
turn_same true path found other here there last t same on e =
    subst (λ (x : Found ProgressFields). go_on (path ∷ []) x there ≡ Some t) (sym (same (path_read path found here t e)))
    (go_same path found here there t on e)
turn_same false path found other here there last t same on e = e

-- so many turns from a progress on
from_same : (m n : FileMap) (folder : List ℕ) (turns : ℕ) (s : ProgressFields) (t : Traced Packages) → AgreeOnAll t.0 m n
    → load_from m folder turns s ≡ Some t → load_from n folder turns s ≡ Some t
from_same m n folder zero s t agree e = e
from_same m n folder (suc turns) s t agree e =
    let path = document_path folder (next_name s) in
    turn_same (nat_lt (length s.packages) (length s.names)) path (next_progress m folder s) (next_progress n folder s)
    (load_from m folder turns) (load_from n folder turns) (Some ([], Ok s.packages)) t
    (λ read. next_same m n folder s (agree path read))
    (λ r u is within. from_same m n folder turns r u (λ read at. agree read (within read at)) is) e

-- from the project on nothing is read first
first_same : (found : Found ProgressFields) (here there : ProgressFields → Option (Traced Packages)) (t : Traced Packages)
    → ((r : ProgressFields) (u : Traced Packages) → here r ≡ Some u → u.0 ≡ t.0 → there r ≡ Some u)
    → go_on [] found here ≡ Some t → go_on [] found there ≡ Some t
first_same (Err f) here there t on e = e
first_same (Ok r) here there t on e = behind (here r) refl e
  where
    behind : (o : Option (Traced Packages)) → here r ≡ o → option_map (λ (u : Traced Packages). ([] ++ u.0, u.1)) o ≡ Some t
        → option_map (λ (u : Traced Packages). ([] ++ u.0, u.1)) (there r) ≡ Some t
    behind None is h = absurd (cc)
    behind (Some u) is h =
        let same : u ≡ t = cc in
        ap (option_map (λ (v : Traced Packages). ([] ++ v.0, v.1))) (on r u is (ap (λ (v : Traced Packages). v.0) same)) ∙ h

-- what is loaded is loaded of each map that has the same at the paths which are read
pub loads_same : (m n : FileMap) (folder : List ℕ) (b : Beginning) (t : Traced Packages) → AgreeOnAll t.0 m n
    → Loads m folder b t → Loads n folder b t
loads_same m n folder b t agree (turns, e) = (
  turns,
  first_same (within (first_progress b)) (load_from m folder turns) (load_from n folder turns) t
      (λ r u is paths. from_same m n folder turns r u (λ read at. agree read (subst (λ (ps : List (List ℕ)). Contains ps read) paths at)) is) e,
)

-- and nothing else is
pub loads_both : TurnsAgree → LoadingEnds → (m n : FileMap) (folder : List ℕ) (b : Beginning) → AgreeOn (IsRead m folder b) m n
    → (t : Traced Packages) → Loads m folder b t ↔ Loads n folder b t
loads_both turns ends m n folder b agree t =
    let there : (u : Traced Packages) → Loads m folder b u → Loads n folder b u =
    λ u loads. loads_same m n folder b u (λ path at. agree path (u, loads, at)) loads in
    let back : Loads n folder b t → Loads m folder b t = λ loads.
    let found = ends m folder b in
    let same = there found.0 found.1 in
    subst (Loads m folder b) (turns n folder b same.0 loads.0 found.0 t same.1 loads.1) found.1 in
    (there t, back)
