-- A generated project: its files, and the counts of its lock.
use Rattle.std.specs.Prelude.{◌≡◌, ℕ, zero, suc, List, [], ◌∷◌, ◌++◌, codes, decimal, None, Result, Ok, Err}
use Rattle.ul_files.specs.Files.{FileMap}
use Rattle.ul_gen.specs.Texts.{document_text, name_text, project_text}
use Rattle.ul_inputs.specs.Inputs.{Input, Said, only}
use Rattle.ul_inputs.specs.Refused.{Refused}
use Rattle.ul_answers.specs.Answer.{Answer, locked, counted}
use Rattle.ul_commands.specs.Locking.{lock_of}

-- where the project file stands
abbrev pub project_path : List ℕ
project_path = codes "pyproject.toml"

-- where the index documents stand
abbrev pub index_folder : List ℕ
index_folder = codes "ix"

-- the document of a package, at its path
abbrev pub document_file : ℕ → ℕ → ℕ → List ℕ × List ℕ
document_file seed size k = (codes "ix/" ++ name_text k ++ codes ".json", document_text seed size k)

-- the documents of the packages below a number
abbrev pub documents_below : ℕ → ℕ → ℕ → FileMap
documents_below seed size zero = []
documents_below seed size (suc n) = documents_below seed size n ++ document_file seed size n ∷ []

-- the files of a project of this size
abbrev pub generated_files : ℕ → ℕ → FileMap
generated_files seed size = (project_path, project_text size) ∷ documents_below seed size size

-- its counts in the place of a lock
abbrev pub counted_for : Result Answer Refused → Result Answer Refused
counted_for (Ok (locked lock forks)) = Ok (counted lock forks)
counted_for r = r

-- the answer of `lock`, with the counts in the place of the lock
pub record IsCounted (locks : Said Answer) (r : Result Answer Refused) : Type 0 where
  pub found : Result Answer Refused
  pub gave : locks.gives found
  pub is : r ≡ counted_for found

-- the counts of a generated project's lock; no file is read for them, and the number of workers isn't looked at
abbrev pub gen_said : ℕ → ℕ → Input Answer
gen_said seed size m = only (IsCounted (lock_of project_path index_folder None (generated_files seed size)))
