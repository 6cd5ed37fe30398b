-- What is read of files. One definition says which answer the files' contents give and which paths are read for it, so
-- that the two can't drift apart.
use Rattle.std.specs.Prelude.{◌≡◌, ◌⊎◌, ℕ, List, codes, length, nat_le, Option, Some, None, Result, Ok, Err, if◌then◌else◌}
use Rattle.ul_files.specs.Files.{FileMap, content}
use Rattle.ul_load.specs.Loading.{file_bytes}
use Rattle.ul_inputs.specs.Refused.{Refused, malformed, limit}

-- which values or refusals the files' contents give, and which paths are read
pub record Said (A : Type 0) : Type 1 where
  pub gives : Result A Refused → Type 0
  pub reads : List ℕ → Type 0

-- what is said by files
abbrev pub Input : Type 0 → Type 1
Input A = FileMap → Said A

-- the first is refused
abbrev pub IsRefusal : {A B : Type 0} → (Result A Refused → Type 0) → Result B Refused → Type 0
IsRefusal first (Ok x) = ⊥
IsRefusal first (Err e) = first (Err e)

-- the first gives this value, and the next answers on it
pub record GoesOn {A B : Type 0} (first : Result A Refused → Type 0) (next : A → Result B Refused → Type 0) (r : Result B Refused)
    : Type 0 where
  pub value : A
  pub gave : first (Ok value)
  pub answers : next value r

-- the path is read for the first, or for the next on what the first gives
pub record ReadsOn {A : Type 0} (first : Result A Refused → Type 0) (next : A → List ℕ → Type 0) (path : List ℕ) : Type 0 where
  pub value : A
  pub gave : first (Ok value)
  pub read : next value path

-- the first, and then the next on its value; its refusal ends the reading
abbrev pub said_on : {A B : Type 0} → Said A → (A → Said B) → Said B
said_on first next = record {
  gives = λ r. IsRefusal first.gives r ⊎ GoesOn first.gives (λ x. (next x).gives) r;
  reads = λ p. first.reads p ⊎ ReadsOn first.gives (λ x. (next x).reads) p;
}

infixl 10 ◌>>=◌
-- an input, and then the next on its value; its refusal ends the reading
abbrev pub ◌>>=◌ : {A B : Type 0} → Input A → (A → Input B) → Input B
(first >>= next) m = said_on (first m) (λ x. next x m)

-- answers for which nothing is read
abbrev pub only : {A : Type 0} → (Result A Refused → Type 0) → Said A
only gives = record { gives = gives; reads = λ path. ⊥ }

-- answers by values alone
abbrev pub answer : {A : Type 0} → (Result A Refused → Type 0) → Input A
answer gives m = only gives

-- exactly this answer
abbrev pub just : {A : Type 0} → Result A Refused → Input A
just r = answer (λ found. found ≡ r)

-- the bytes of a file that is there, if they aren't too many
abbrev pub bounded : List ℕ → ℕ → Option (List ℕ) → Result (Option (List ℕ)) Refused
bounded name most None = Ok None
bounded name most (Some bytes) = if nat_le (length bytes) most then Ok (Some bytes) else Err (limit name most)

-- the bytes at a path, which may be absent, of at most so many bytes
abbrev pub file_at : List ℕ → ℕ → List ℕ → Input (Option (List ℕ))
file_at name most path m = record {
  gives = λ r. r ≡ bounded name most (content m path);
  reads = λ read. read ≡ path;
}

-- what has to be there
abbrev pub present : List ℕ → Option (List ℕ) → Result (List ℕ) Refused
present path None = Err (malformed path (codes "absent"))
present path (Some bytes) = Ok bytes

-- the bytes of a file that has to be there
abbrev pub present_file : List ℕ → ℕ → List ℕ → Input (List ℕ)
present_file name most path = file_at name most path >>= λ found. just (present path found)

-- the most bytes of a lock or of a derivation
abbrev pub text_bytes : ℕ
text_bytes = 67108864

-- the bytes of a project file, a machine file or a file of markers
abbrev pub small_file : List ℕ → Input (List ℕ)
small_file = present_file (codes "file-bytes") file_bytes

-- the bytes of a lock or a derivation
abbrev pub large_file : List ℕ → Input (List ℕ)
large_file = present_file (codes "text-bytes") text_bytes
