-- Maps that agree with reads on record.
use Rattle.std.proofs.Common.{◌≡◌, ℕ, List, [], ◌∷◌, ◌++◌, Option, Some, None, Result, Ok, Err, Vec, subst}
use Rattle.std.specs.declared.alloc.Global.{Global}
use Rattle.ul_files.specs.Files.{Agrees, FileMap, IsFound, IsWithin, Read, Remembers, Tells, content, read_of}
use Rattle.ul_files.specs.MemFiles.{reads_here}
use Rattle.ul_files.specs.declared.files.ReadRefused.{ReadRefused}
use Rattle.ul_files.specs.declared.files.ReadRefused.TheVariants.{Failed, TooLong, NoMemory}

-- what agrees with reads agrees with the first of them
pub agrees_front : (m : FileMap) (front rest : List Read) → Agrees m (front ++ rest) → Agrees m front
agrees_front m [] rest h = tt
agrees_front m (read ∷ front) rest h = (h.0, agrees_front m front rest h.1)

agrees_last : (m : FileMap) (front : List Read) (last : Read) → Agrees m (front ++ last ∷ []) → IsFound (content m last.path) last.found
agrees_last m [] last h = h.0
agrees_last m (read ∷ front) last h = agrees_last m front last h.1

-- what was read before one read more is still on record
pub remembers_read : (before now : List Read) (read : Read) → now ≡ before ++ read ∷ [] → Remembers before now
remembers_read before now read is m h = agrees_front m before (read ∷ []) (subst (Agrees m) is h)

tells_found : (m : FileMap) (path : List ℕ) (limit : ℕ) (answer : Result (Option (Vec ℕ Global)) ReadRefused) → IsWithin limit answer
    → IsFound (content m path) (read_of path limit answer).found → Tells m path limit answer
tells_found m path limit (Ok None) within is = is
tells_found m path limit (Ok (Some bytes)) within is = (is, within)
tells_found m path limit (Err TooLong) within is = is
tells_found m path limit (Err Failed) within is = tt
tells_found m path limit (Err NoMemory) within is = tt

-- of each map that agrees with a read that is the last on record, its answer tells the truth
pub read_tells : (m : FileMap) (before now : List Read) (path : List ℕ) (limit : ℕ) (answer : Result (Option (Vec ℕ Global)) ReadRefused)
    → now ≡ before ++ read_of path limit answer ∷ [] → IsWithin limit answer → Agrees m now → Tells m path limit answer
read_tells m before now path limit answer is within h =
    tells_found m path limit answer within (agrees_last m before (read_of path limit answer) (subst (Agrees m) is h))

agrees_front_here : (m files : FileMap) (front rest : List Read) → Agrees m (reads_here files (front ++ rest)) → Agrees m (reads_here files front)
agrees_front_here m files [] rest h = tt
agrees_front_here m files (read ∷ front) rest h = (h.0, agrees_front_here m files front rest h.1)

-- reads as a map answers them are still on record after one read more, where the map stays
pub remembers_here : (files files_now : FileMap) (before now : List Read) (read : Read) → files_now ≡ files → now ≡ before ++ read ∷ []
    → Remembers (reads_here files before) (reads_here files_now now)
remembers_here files files_now before now read same is m h =
    agrees_front_here m files before (read ∷ []) (subst (λ f. Agrees m (reads_here f (before ++ read ∷ []))) same (subst (λ n. Agrees m (reads_here files_now n)) is h))
