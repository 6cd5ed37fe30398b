-- What the worked examples of files and sinks speak of.
use Rattle.std.specs.Prelude.{ℕ, List, [], ◌∷◌, Option, codes}
use Rattle.ul_files.specs.Files.{FileMap, Found, Read}
use Rattle.ul_files.specs.MemFiles.{FilesState}
use Rattle.ul_files.specs.MemSink.{SinkState}

-- three pairs, of which two have one path, and one is empty
abbrev pub three_files : FileMap
three_files = (codes "p", codes "12345") ∷ (codes "p", codes "other") ∷ (codes "q", []) ∷ []

-- the read of a path that found this
abbrev pub read_at : List ℕ → Found → Read
read_at path found = record { path = path; found = found }

-- these files in memory, of which the second read fails, after so many reads and faults, the path that failed last, and
-- the reads so far
abbrev pub files_after : ℕ → ℕ → Option (List ℕ) → List Read → FilesState
files_after calls faults last reads =
    record { files = three_files; failing = 1 ∷ []; calls = calls; faults = faults; last = last; reads = reads }

-- a sink with these bytes, of which the second write fails after three bytes, after so many writes and faults, and with
-- these pieces given
abbrev pub sink_after : List ℕ → ℕ → ℕ → List (List ℕ) → SinkState
sink_after bytes calls faults given =
    record { bytes = bytes; failing = (1, 3) ∷ []; calls = calls; faults = faults; given = given }
