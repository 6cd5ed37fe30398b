-- Documents are read in order, each once.
use Rattle.std.proofs.Common.{◌≡◌, ◌∙◌, ◌≤◌, ℕ, zero, suc, List, [], ◌∷◌, ◌++◌, Result, Ok, Err, OnOk, ap, sym, refl, subst, length, map, take, Some, append_assoc, append-nil, arith}
use Rattle.std.proofs.lemmas.List.{map-append, take-append-le, take_all}
use Rattle.ul_files.specs.Files.{FileMap, Read}
use Rattle.ul_index.specs.Catalogs.{Packages}
use Rattle.ul_load.specs.Loading.{Beginning, Loads, ProgressFields, Traced, document_path, load_from, most_packages, next_name}
use Rattle.ul_load.specs.Progressing.{HasNext, IsLoading}
use Rattle.ul_load.specs.Reads.{ReadsEach, ReadsFirst}
use Rattle.ul_load.proofs.Ends.{ends_from, turns_agree}
use Rattle.ul_load.proofs.Turns.{next_first}

-- what holds anyway holds where a result is Ok
pub on_ok : {T E : Type 0} (r : Result T E) (P : Type 0) → P → OnOk r P
on_ok (Ok x) P h = h
on_ok (Err e) P h = tt

-- no read of no path
pub each_of_none : (before : List Read) → ReadsEach before before []
each_of_none before = record { reads = []; behind = sym (append-nil before); are = refl }

take_none : {A : Type 0} (xs : List A) → take 0 xs ≡ []
take_none [] = refl
take_none (x ∷ xs) = refl

-- no read
pub first_of_none : (before : List Read) (paths : List (List ℕ)) → ReadsFirst before before paths
first_of_none before paths = (0, record { reads = []; behind = sym (append-nil before); are = sym (take_none paths) })

-- one read, of this path
pub each_of_one : (before now : List Read) (path : List ℕ) (read : Read) → now ≡ before ++ read ∷ [] → read.path ≡ path → ReadsEach before now (path ∷ [])
each_of_one before now path read behind is = record { reads = read ∷ []; behind = behind; are = ap (λ p. p ∷ []) is }

-- reads one after another
pub each_then : (before between now : List Read) (ps qs : List (List ℕ)) → ReadsEach before between ps → ReadsEach between now qs → ReadsEach before now (ps ++ qs)
each_then before between now ps qs first next = record {
  reads = first.reads ++ next.reads;
  behind = next.behind ∙ ap (λ (rs : List Read). rs ++ next.reads) first.behind ∙ append_assoc before first.reads next.reads;
  are = map-append (λ (r : Read). r.path) first.reads next.reads
      ∙ ap (λ (l : List (List ℕ)). l ++ map (λ (r : Read). r.path) next.reads) first.are ∙ ap (λ (l : List (List ℕ)). ps ++ l) next.are;
}

front : {A : Type 0} (ps rest : List A) → take (length ps) (ps ++ rest) ≡ ps
front ps rest = take-append-le (length ps) ps rest (omega arith) ∙ take_all (length ps) ps (omega arith)

-- reads of the first paths
pub each_first : (before now : List Read) (ps rest paths : List (List ℕ)) → paths ≡ ps ++ rest → ReadsEach before now ps → ReadsFirst before now paths
each_first before now ps rest paths is made =
    (length ps, record { reads = made.reads; behind = made.behind; are = made.are ∙ sym (ap (take (length ps)) is ∙ front ps rest) })

-- reads of the first paths, and then perhaps one more, of the next
then_by_count : (before between now : List Read) (ps : List (List ℕ)) (path : List ℕ) (rest paths : List (List ℕ)) (count : ℕ) → paths ≡ ps ++ path ∷ rest
    → ReadsEach before between ps → ReadsEach between now (take count (path ∷ [])) → ReadsFirst before now paths
then_by_count before between now ps path rest paths zero is first last =
    each_first before now ps (path ∷ rest) paths is
    (subst (ReadsEach before now) (append-nil ps) (each_then before between now ps [] first (subst (ReadsEach between now) (take_none (path ∷ [])) last)))
then_by_count before between now ps path rest paths (suc count) is first last =
    each_first before now (ps ++ path ∷ []) rest paths (is ∙ sym (append_assoc ps (path ∷ []) rest))
    (each_then before between now ps (path ∷ []) first (subst (ReadsEach between now) (take_all (suc count) (path ∷ []) (omega arith)) last))

pub first_then : (before between now : List Read) (ps : List (List ℕ)) (path : List ℕ) (rest paths : List (List ℕ)) → paths ≡ ps ++ path ∷ rest
    → ReadsEach before between ps → ReadsFirst between now (path ∷ []) → ReadsFirst before now paths
first_then before between now ps path rest paths is first last = then_by_count before between now ps path rest paths last.0 is first last.1

module _ (m : FileMap) (folder : List ℕ) (b : Beginning) where
  -- what loading reads is, behind what was read so far, what is read from here on
  paths_are : (paths : List (List ℕ)) (s : ProgressFields) (turns : ℕ) (u t : Traced Packages) → load_from m folder turns s ≡ Some u
      → IsLoading m folder b paths s → Loads m folder b t → t.0 ≡ paths ++ u.0
  paths_are paths s turns u t e kept loads =
      let mine = kept.rest turns u e in
      ap (λ (x : Traced Packages). x.0) (turns_agree m folder b loads.0 mine.0 t (paths ++ u.0, u.1) loads.1 mine.1)

  -- what was read so far is what loading reads first
  pub read_so_far : (before now : List Read) (paths : List (List ℕ)) (s : ProgressFields) → length s.names ≤ most_packages
      → ReadsEach before now paths → IsLoading m folder b paths s → (t : Traced Packages) → Loads m folder b t → ReadsFirst before now t.0
  read_so_far before now paths s names made kept t loads =
      let end = ends_from m folder most_packages s (omega arith) names in
      each_first before now paths end.1.0 t.0 (paths_are paths s end.0 end.1 t end.2 kept loads) made

  -- and then perhaps the next document
  pub read_next : (before between now : List Read) (paths : List (List ℕ)) (s : ProgressFields) → length s.names ≤ most_packages → HasNext s
      → ReadsEach before between paths → ReadsFirst between now (document_path folder (next_name s) ∷ []) → IsLoading m folder b paths s
      → (t : Traced Packages) → Loads m folder b t → ReadsFirst before now t.0
  read_next before between now paths s names next made last kept t loads =
      let end = ends_from m folder most_packages s (omega arith) names in
      let after = next_first m folder end.0 s end.1 next end.2 in
      first_then before between now paths (document_path folder (next_name s)) after.0 t.0
      (paths_are paths s end.0 end.1 t end.2 kept loads ∙ ap (λ l. paths ++ l) after.1) made last
