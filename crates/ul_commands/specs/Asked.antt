-- What the words of a command line ask.
use Rattle.std.specs.Prelude.{ℕ, List, Option}

-- what is asked, one for each command: that the words aren't one of them; a lock, or why there is none, of a project file, an
-- index folder, a number of workers and perhaps an old lock; what becomes of an old lock, for such files; the counts of a
-- generated project's lock, by its seed, its size and a number of workers; what a lock gives on a machine, or in which worlds
-- it gives each of its nodes, with extras; the canonical texts of a file's markers; whether a derivation, or a lock, is right for
-- a project file and an index folder
pub data Asked : Type 0 where
  usage : Asked
  lock : (project folder : List ℕ) → (workers : ℕ) → (old : Option (List ℕ)) → Asked
  why : (project folder : List ℕ) → (workers : ℕ) → (old : Option (List ℕ)) → Asked
  relock : (project folder : List ℕ) → (workers : ℕ) → (old : List ℕ) → Asked
  gen : (seed size workers : ℕ) → Asked
  env : (lock machine : List ℕ) → (extras : List (List ℕ)) → Asked
  export : (lock : List ℕ) → (extras : List (List ℕ)) → Asked
  marker : (file : List ℕ) → Asked
  check : (project folder derivation : List ℕ) → Asked
  verify : (project folder lock : List ℕ) → Asked
