-- What was read, before what is left to read; and parts that are refused.
use Rattle.std.proofs.Common.{◌≡◌, ◌++◌, ◌+◌, ℕ, List, [], ◌∷◌, refl, ap, sym, ◌∙◌, append_assoc, append-nil}
use Rattle.std.proofs.lemmas.Result.{err_from_is_err_and}
use Rattle.std.specs.Prelude.{Result, Ok, Err, IsErrAnd}
use Rattle.ul_project.specs.Answers.{Gives}
use Rattle.ul_project.specs.Kept.{IsFaultOf}
use Rattle.ul_project.specs.Results.{◌>>=◌, each_from}
use Rattle.ul_project.specs.Shapes.{Fault, Reading, not_toml, requirement_fault, shape, unsupported}
use Rattle.ul_project.specs.declared.fault.ProjectFault.{ProjectFault}
use Rattle.ul_project.specs.declared.fault.ProjectFault.TheVariants.{NotToml, Shape, Requirement, Unsupported, EmptyRegion, NoMemory}

-- what refuses a part refuses the whole
pub Gives-err : {X Y X' Y' : Type 0} (view : X → Y) (view' : X' → Y') (fault : ProjectFault) (part : Reading Y) (whole : Reading Y')
    → ((f : Fault) → part ≡ Err f → whole ≡ Err f) → Gives view (Err fault) part → Gives view' (Err fault) whole
Gives-err view view' NotToml part whole f h = f not_toml h
Gives-err view view' (Shape path) part whole f h = f (shape path) h
Gives-err view view' (Requirement path) part whole f h = f (requirement_fault path) h
Gives-err view view' (Unsupported path) part whole f h = f (unsupported path) h
Gives-err view view' EmptyRegion part whole f h = absurd h
Gives-err view view' NoMemory part whole f h = tt

-- what refuses a part that was read beside what is kept refuses the whole
pub read-err : {X Y X' Y' : Type 0} (view : X → Y) (view' : X' → Y') (read : Result X ProjectFault) (fault : ProjectFault) (part : Reading Y) (whole : Reading Y')
    → IsFaultOf read fault → Gives view read part → ((f : Fault) → part ≡ Err f → whole ≡ Err f) → Gives view' (Err fault) whole
read-err view view' read NotToml part whole is given refused =
    let same : read ≡ Err NotToml = is (λ n. cc) in Gives-err view view' NotToml part whole refused (rw same at given)
read-err view view' read (Shape path) part whole is given refused =
    let same : read ≡ Err (Shape path) = is (λ n. cc) in Gives-err view view' (Shape path) part whole refused (rw same at given)
read-err view view' read (Requirement path) part whole is given refused =
    let same : read ≡ Err (Requirement path) = is (λ n. cc) in Gives-err view view' (Requirement path) part whole refused (rw same at given)
read-err view view' read (Unsupported path) part whole is given refused =
    let same : read ≡ Err (Unsupported path) = is (λ n. cc) in Gives-err view view' (Unsupported path) part whole refused (rw same at given)
read-err view view' read EmptyRegion part whole is given refused =
    let same : read ≡ Err EmptyRegion = is (λ n. cc) in Gives-err view view' EmptyRegion part whole refused (rw same at given)
read-err view view' read NoMemory part whole is given refused = tt

-- the same, where the fault is handed on by `?`
pub handed_on : {X Y X' Y' : Type 0} (view : X → Y) (view' : X' → Y') (fault : ProjectFault) (answer : Result X' ProjectFault) (part : Reading Y) (whole : Reading Y')
    → IsErrAnd answer (λ e. e ≡ fault) → ((f : Fault) → part ≡ Err f → whole ≡ Err f) → Gives view (Err fault) part → Gives view' answer whole
handed_on view view' fault answer part whole is refused given =
    let p = err_from_is_err_and answer is in rw (p.1, p.2) (Gives-err view view' fault part whole refused given)

-- the same, where it was read beside what is kept
pub read_handed_on : {X Y X' Y' : Type 0} (view : X → Y) (view' : X' → Y') (read : Result X ProjectFault) (fault : ProjectFault) (answer : Result X' ProjectFault)
    (part : Reading Y) (whole : Reading Y') → IsErrAnd answer (λ e. e ≡ fault) → IsFaultOf read fault → Gives view read part → ((f : Fault) → part ≡ Err f → whole ≡ Err f)
    → Gives view' answer whole
read_handed_on view view' read fault answer part whole is of given refused =
    let p = err_from_is_err_and answer is in rw (p.1, p.2) (read-err view view' read fault part whole of given refused)

-- values found, and then those that are read of the rest
abbrev pub behind : {B : Type 0} → List B → Reading (List B) → Reading (List B)
behind found rest = rest >>= λ ys. Ok (found ++ ys)

-- one more stands behind what was found
pub then_one : {B : Type 0} (found : List B) (y : B) (rest : Reading (List B)) → behind found (rest >>= λ ys. Ok (y ∷ ys)) ≡ behind (found ++ y ∷ []) rest
then_one found y (Ok ys) = ap Ok (sym (append_assoc found (y ∷ []) ys))
then_one found y (Err e) = refl

-- nothing was read yet
pub each-start : {B : Type 0} (found : List B) (rest : Reading (List B)) → found ≡ [] → rest ≡ behind found rest
each-start found (Ok ys) e = rw e refl
each-start found (Err f) e = refl

-- one more is read
pub each-next : {A B : Type 0} (read : ℕ → A → Reading B) (i : ℕ) (found after : List B) (x : A) (xs : List A) (y : B) → read i x ≡ Ok y → after ≡ found ++ y ∷ []
    → behind found (each_from read i (x ∷ xs)) ≡ behind after (each_from read (i + 1) xs)
unfolding each_from
each-next read i found after x xs y e s = rw (e, s) (then_one found y (each_from read (i + 1) xs))

-- one is refused
pub each-fault : {A B : Type 0} (read : ℕ → A → Reading B) (i : ℕ) (found : List B) (x : A) (xs : List A) (f : Fault) → read i x ≡ Err f
    → behind found (each_from read i (x ∷ xs)) ≡ Err f
unfolding each_from
each-fault read i found x xs f e = rw e refl

-- nothing is left
pub each-end : {A B : Type 0} (read : ℕ → A → Reading B) (i : ℕ) (found : List B) → behind found (each_from read i []) ≡ Ok found
unfolding each_from
each-end read i found = ap Ok (append-nil found)

-- ---- reading that doesn't look at the numbers

module _ {A B : Type 0} (read : A → Reading B) where
  -- what is read, whatever the first number is
  any_number : (i j : ℕ) (xs : List A) → each_from (λ n. read) i xs ≡ each_from (λ n. read) j xs
  unfolding each_from
  any_number i j [] = refl
  any_number i j (x ∷ xs) = ap (λ rest. read x >>= λ y. rest >>= λ ys. Ok (y ∷ ys)) (any_number (i + 1) (j + 1) xs)

  -- one more is read
  pub unnumbered-next : (found after : List B) (before rest : List A) (x : A) (y : B) → before ≡ x ∷ rest → read x ≡ Ok y → after ≡ found ++ y ∷ []
      → behind found (each_from (λ n. read) 0 before) ≡ behind after (each_from (λ n. read) 0 rest)
  unnumbered-next found after before rest x y b e s =
      ap (λ xs. behind found (each_from (λ n. read) 0 xs)) b ∙ each-next (λ n. read) 0 found after x rest y e s
      ∙ ap (behind after) (any_number 1 0 rest)

  -- one is refused
  pub unnumbered-fault : (found : List B) (before rest : List A) (x : A) (f : Fault) → before ≡ x ∷ rest → read x ≡ Err f
      → behind found (each_from (λ n. read) 0 before) ≡ Err f
  unnumbered-fault found before rest x f b e = ap (λ xs. behind found (each_from (λ n. read) 0 xs)) b ∙ each-fault (λ n. read) 0 found x rest f e

  -- nothing is left
  pub unnumbered-end : (found : List B) (before : List A) → before ≡ [] → behind found (each_from (λ n. read) 0 before) ≡ Ok found
  unnumbered-end found before b = ap (λ xs. behind found (each_from (λ n. read) 0 xs)) b ∙ each-end (λ n. read) 0 found
