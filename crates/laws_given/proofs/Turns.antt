-- What each turn of loading keeps is so of the catalog that is found.
use Rattle.std.proofs.Common.{◌≡◌, ◌<◌, ℕ, zero, suc, List, [], ◌∷◌, ◌++◌, length, nat_lt, cond, Bool, true, false, Option, Some, None, option_map, Ok, Err, refl, subst, arith}
use Rattle.std.proofs.lemmas.Bool.Decides.{nat_tests}
use Rattle.ul_files.specs.Files.{FileMap}
use Rattle.ul_requirement.specs.Fields.{PackageFields}
use Rattle.ul_index.specs.Catalogs.{Packages}
use Rattle.ul_load.specs.Loading.{Beginning, Fault, Found, LoadAnswer, ProgressFields, Traced, ◌>>=◌, document_path, first_progress, go_on, load_from, most_comparisons, most_packages, most_releases, next_name, next_progress, package_at, progress_with, too_many_comparisons, too_many_packages, too_many_releases, within}

by_tests : (a b c : Bool) (s r : ProgressFields) (e f g : Fault)
    → cond a (Err e) (cond b (Err f) (cond c (Err g) (Ok s))) ≡ Ok r → s ≡ r
by_tests true b c s r e f g h = cc
by_tests false true c s r e f g h = cc
by_tests false false true s r e f g h = cc
by_tests false false false s r e f g h = cc

-- progress within the limits is the progress
within_is : (s r : ProgressFields) → within s ≡ Ok r → s ≡ r
within_is s r h =
    by_tests (nat_lt most_releases s.entries) (nat_lt most_packages (length s.names))
    (nat_lt most_comparisons (length s.comparisons)) s r
    too_many_releases too_many_packages too_many_comparisons h

-- so it is of the catalog, if one is found
abbrev IsSo : (Packages → Type 0) → Found Packages → Type 0
IsSo P (Ok c) = P c
IsSo P (Err f) = Unit {0}

by_rest : (P : Packages → Type 0) (paths : List (List ℕ)) (rest : Option (Traced Packages)) (t : Traced Packages)
    → ((u : Traced Packages) → rest ≡ Some u → IsSo P u.1) → option_map (λ u. (paths ++ u.0, u.1)) rest ≡ Some t
    → IsSo P t.1
by_rest P paths None t all e = absurd (cc e)
by_rest P paths (Some u) t all e =
    let same : (paths ++ u.0, u.1) ≡ t = cc in subst (λ (x : Traced Packages). IsSo P x.1) same (all u refl)

by_step : (P : Packages → Type 0) (paths : List (List ℕ)) (found : Found ProgressFields)
    (next : ProgressFields → Option (Traced Packages)) (t : Traced Packages)
    → ((s : ProgressFields) → found ≡ Ok s → (u : Traced Packages) → next s ≡ Some u → IsSo P u.1)
    → go_on paths found next ≡ Some t → IsSo P t.1
by_step P paths (Ok s) next t all e = by_rest P paths (next s) t (all s refl) e
by_step P paths (Err f) next t all e =
    let same : (paths, Err f) ≡ t = cc in subst (λ (x : Traced Packages). IsSo P x.1) same tt

by_turn : (P : Packages → Type 0) (more : Bool) (c : Packages) (paths : List (List ℕ)) (found : Found ProgressFields)
    (next : ProgressFields → Option (Traced Packages)) (t : Traced Packages) → P c
    → (more ≡ true → (s : ProgressFields) → found ≡ Ok s → (u : Traced Packages) → next s ≡ Some u → IsSo P u.1)
    → cond more (go_on paths found next) (Some ([], Ok c)) ≡ Some t → IsSo P t.1
by_turn P true c paths found next t h all e = by_step P paths found next t (all refl) e
by_turn P false c paths found next t h all e =
    let same : ([], Ok c) ≡ t = cc in subst (λ (x : Traced Packages). IsSo P x.1) same h

-- what is true of the progress of loading from a folder: of its beginning, and with each package that is found behind
-- it; and what it says of the catalog
pub record IsKept (m : FileMap) (folder : List ℕ) (b : Beginning) (P : Packages → Type 0)
    (Q : ProgressFields → Type 0) : Type 0 where
  pub first : Q (first_progress b)
  pub turn : (s : ProgressFields) (p : ℕ × PackageFields) → length s.packages < length s.names → Q s
      → package_at m folder (next_name s) s.bytes ≡ Ok p → Q (progress_with s p)
  pub so : (s : ProgressFields) → Q s → P s.packages

below : (s : ProgressFields) → nat_lt (length s.packages) (length s.names) ≡ true → length s.packages < length s.names
below s e = grind (arith, nat_tests)

module _ (m : FileMap) (folder : List ℕ) (b : Beginning) (P : Packages → Type 0) (Q : ProgressFields → Type 0)
    (kept : IsKept m folder b P Q) where
  by_package : (s r : ProgressFields) → length s.packages < length s.names → Q s → (found : Found (ℕ × PackageFields))
      → package_at m folder (next_name s) s.bytes ≡ found → (found >>= λ p. within (progress_with s p)) ≡ Ok r → Q r
  by_package s r lt h (Err f) is e = absurd (cc e)
  by_package s r lt h (Ok p) is e = subst Q (within_is (progress_with s p) r e) (kept.turn s p lt h is)

  turns : (n : ℕ) (s : ProgressFields) (t : Traced Packages) → Q s → load_from m folder n s ≡ Some t → IsSo P t.1
  turns zero s t h e = absurd (cc e)
  turns (suc n) s t h e =
      by_turn P (nat_lt (length s.packages) (length s.names)) s.packages (document_path folder (next_name s) ∷ [])
      (next_progress m folder s) (load_from m folder n) t (kept.so s h)
      (λ lt r went u rest. turns n r u
      (by_package s r (below s lt) h (package_at m folder (next_name s) s.bytes) refl went) rest) e

  -- so it is of what is loaded
  pub loaded : (c : Packages) → LoadAnswer m folder b (Ok c) → P c
  loaded c loads =
      by_step P [] (within (first_progress b)) (load_from m folder loads.1.0) (loads.0, Ok c)
      (λ r went u rest. turns loads.1.0 r u (subst Q (within_is (first_progress b) r went) kept.first) rest) loads.1.1
