-- What the words of the command line ask.
use Rattle.std.specs.Prelude.{Option, Some, None, ◌==◌, ℕ, List, [], ◌∷◌, codes, Bool, true, false, not, nat_le, if◌then◌else◌, ◌&&◌}
use Rattle.std.specs.Char.{is_ascii_digit}
use Rattle.std.specs.List.{list_all}
use Rattle.std.specs.Str.{bytes_eq}
use Rattle.std.specs.Str.Parse.{digits_value}
use Rattle.ul_commands.specs.Asked.{Asked, usage, lock, why, relock, gen, env, export, marker, check, verify}

-- there is a first digit, and it is no zero, unless it is the only one
abbrev pub leads_well : List ℕ → Bool
leads_well [] = false
leads_well (b ∷ []) = true
leads_well (b ∷ c ∷ bs) = not (b == 48)

-- the word is a run of digits without a leading zero, or `0` itself
abbrev pub is_decimal : List ℕ → Bool
is_decimal word = list_all is_ascii_digit word && leads_well word

-- the word is a number from low to high
unfoldable pub is_number_in : ℕ → ℕ → List ℕ → Bool
is_number_in low high word = is_decimal word && (nat_le low (digits_value 10 word) && nat_le (digits_value 10 word) high)

-- the number of a word, if it is one from low to high
abbrev pub number_in : ℕ → ℕ → List ℕ → Option ℕ
number_in low high word = if is_number_in low high word then Some (digits_value 10 word) else None

-- a number of workers, 1 to 64
abbrev pub workers_of : List ℕ → Option ℕ
workers_of = number_in 1 64

-- a seed, below 2^64
abbrev pub seed_of : List ℕ → Option ℕ
seed_of = number_in 0 18446744073709551615

-- the size of a generated project, 1 to 2,000
abbrev pub size_of : List ℕ → Option ℕ
size_of = number_in 1 2000

-- a command with its number of workers
abbrev pub with_workers : (ℕ → Asked) → Option ℕ → Asked
with_workers asked None = usage
with_workers asked (Some workers) = asked workers

-- lock PROJECT INDEXDIR WORKERS [OLDLOCK]
abbrev pub asked_lock : List (List ℕ) → Asked
asked_lock (project ∷ folder ∷ workers ∷ []) = with_workers (λ n. lock project folder n None) (workers_of workers)
asked_lock (project ∷ folder ∷ workers ∷ old ∷ []) = with_workers (λ n. lock project folder n (Some old)) (workers_of workers)
asked_lock _ = usage

-- why PROJECT INDEXDIR WORKERS [OLDLOCK]
abbrev pub asked_why : List (List ℕ) → Asked
asked_why (project ∷ folder ∷ workers ∷ []) = with_workers (λ n. why project folder n None) (workers_of workers)
asked_why (project ∷ folder ∷ workers ∷ old ∷ []) = with_workers (λ n. why project folder n (Some old)) (workers_of workers)
asked_why _ = usage

-- relock PROJECT INDEXDIR WORKERS OLDLOCK
abbrev pub asked_relock : List (List ℕ) → Asked
asked_relock (project ∷ folder ∷ workers ∷ old ∷ []) = with_workers (λ n. relock project folder n old) (workers_of workers)
asked_relock _ = usage

-- env LOCK MACHINE [EXTRA] [EXTRA] and so on
abbrev pub asked_env : List (List ℕ) → Asked
asked_env (lock_file ∷ machine ∷ extras) = env lock_file machine extras
asked_env _ = usage

-- check PROJECT INDEXDIR DERIVATION
abbrev pub asked_check : List (List ℕ) → Asked
asked_check (project ∷ folder ∷ derivation ∷ []) = check project folder derivation
asked_check _ = usage

-- a generated project's seed, its size and a number of workers, if each is a number
abbrev pub generated : Option ℕ → Option ℕ → Option ℕ → Asked
generated (Some seed) (Some size) (Some workers) = gen seed size workers
generated _ _ _ = usage

-- gen SEED SIZE WORKERS
abbrev pub asked_gen : List (List ℕ) → Asked
asked_gen (seed ∷ size ∷ workers ∷ []) = generated (seed_of seed) (size_of size) (workers_of workers)
asked_gen _ = usage

-- export LOCK [EXTRA] [EXTRA] and so on
abbrev pub asked_export : List (List ℕ) → Asked
asked_export (lock_file ∷ extras) = export lock_file extras
asked_export _ = usage

-- marker FILE
abbrev pub asked_marker : List (List ℕ) → Asked
asked_marker (file ∷ []) = marker file
asked_marker _ = usage

-- verify PROJECT INDEXDIR LOCK
abbrev pub asked_verify : List (List ℕ) → Asked
asked_verify (project ∷ folder ∷ lock_file ∷ []) = verify project folder lock_file
asked_verify _ = usage

-- the command that the first word names, with the words after it
abbrev pub asked_command : List ℕ → List (List ℕ) → Asked
asked_command verb rest =
    if bytes_eq verb (codes "lock") then asked_lock rest else
    if bytes_eq verb (codes "why") then asked_why rest else
    if bytes_eq verb (codes "relock") then asked_relock rest else
    if bytes_eq verb (codes "env") then asked_env rest else
    if bytes_eq verb (codes "check") then asked_check rest else
    if bytes_eq verb (codes "gen") then asked_gen rest else
    if bytes_eq verb (codes "export") then asked_export rest else
    if bytes_eq verb (codes "marker") then asked_marker rest else
    if bytes_eq verb (codes "verify") then asked_verify rest else usage

-- what the words ask
unfoldable pub question : List (List ℕ) → Asked
question [] = usage
question (verb ∷ rest) = asked_command verb rest
