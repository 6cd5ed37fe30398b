-- Files that were read, before those that are left to read; and entries likewise.
use Rattle.std.proofs.Common.{◌≡◌, ◌++◌, ◌+◌, ℕ, List, [], ◌∷◌, refl, ap, sym, append_assoc, append-nil}
use Rattle.std.specs.Prelude.{Ok, Err}
use Rattle.serde_json.specs.Data.{Data}
use Rattle.ul_requirement.specs.Fields.{FileFields}
use Rattle.ul_index.specs.Documents.{DocumentFault, Reading, shape, file_of, files_from}
use Rattle.ul_index.specs.Results.{◌>>=◌, or_fault}
use Rattle.ul_index.specs.declared.place.Place.TheVariants.{File}

-- values found, and then those that are read of the rest
abbrev pub behind : {B : Type 0} → List B → Reading (List B) → Reading (List B)
behind found rest = rest >>= λ ys. Ok (found ++ ys)

then_one : {B : Type 0} (found : List B) (y : B) (rest : Reading (List B)) → behind found (rest >>= λ ys. Ok (y ∷ ys)) ≡ behind (found ++ y ∷ []) rest
then_one found y (Ok ys) = ap Ok (sym (append_assoc found (y ∷ []) ys))
then_one found y (Err e) = refl

pub files-next : (entry i : ℕ) (found after : List FileFields) (d : Data) (ds : List Data) (f : FileFields) → or_fault (shape (File entry i)) (file_of d) ≡ Ok f → after ≡ found ++ f ∷ []
    → behind found (files_from entry i (d ∷ ds)) ≡ behind after (files_from entry (i + 1) ds)
unfolding files_from
files-next entry i found after d ds f e s = rw (e, s) (then_one found f (files_from entry (i + 1) ds))

pub files-fault : (entry i : ℕ) (found : List FileFields) (d : Data) (ds : List Data) (f : DocumentFault) → or_fault (shape (File entry i)) (file_of d) ≡ Err f
    → behind found (files_from entry i (d ∷ ds)) ≡ Err f
unfolding files_from
files-fault entry i found d ds f e = rw e refl

pub files-end : (entry i : ℕ) (found : List FileFields) → behind found (files_from entry i []) ≡ Ok found
unfolding files_from
files-end entry i found = ap Ok (append-nil found)
