use Rattle.std.proofs.Common.{ℕ, List, drop}
use Rattle.std.specs.HashMap.{get_by_text}
use Rattle.ul_files.specs.Files.{content, files_of}
use Rattle.ul_files.specs.ListedFiles.{SaysAt}
use Rattle.ul_files.proofs.listed_files.index.Given as goal

-- the index has the first place of each path of the pairs from here on
abbrev pub invariant-loop-place : goal.invariant-loop-place
invariant-loop-place l =
    (path : List ℕ) → SaysAt l.list (get_by_text l.places path) (content (files_of (drop l.place l.list)) path)
