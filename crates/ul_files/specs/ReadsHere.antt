-- Reads that were answered from a map agree with it.
use Rattle.std.specs.Prelude.{◌≡◌, ℕ, ◌<◌, List, [], ◌∷◌, length, nat_lt, Bool, true, false, Option, Some, None, cond}
use Rattle.std.proofs.Common.{refl, subst, arith}
use Rattle.std.proofs.lemmas.Bool.Decides.{nat_tests}
use Rattle.ul_files.specs.Files.{Agrees, FileMap, Found, IsFound, Read, absent, content, longer, there, untold}
use Rattle.ul_files.specs.MemFiles.{found_here, reads_here}

is_longer : (limit n : ℕ) → nat_lt limit n ≡ true → limit < n
is_longer limit n h = grind (arith, nat_tests)

by_length : (bytes : List ℕ) (limit : ℕ) (b : Bool) → nat_lt limit (length bytes) ≡ b → IsFound (Some bytes) (cond b (longer limit) untold)
by_length bytes limit true h = (bytes, refl, is_longer limit (length bytes) h)
by_length bytes limit false h = tt

-- what is found here is here
found_agrees : (here : Option (List ℕ)) (found : Found) → IsFound here (found_here here found)
found_agrees here untold = tt
found_agrees None (longer limit) = tt
found_agrees (Some bytes) (longer limit) = by_length bytes limit (nat_lt limit (length bytes)) refl
found_agrees None absent = refl
found_agrees (Some bytes) absent = refl
found_agrees None (there _) = refl
found_agrees (Some bytes) (there _) = refl

agrees_here : (m : FileMap) (reads : List Read) → Agrees m (reads_here m reads)
agrees_here m [] = tt
agrees_here m (read ∷ reads) = (found_agrees (content m read.path) read.found, agrees_here m reads)

-- the map that answered them agrees with the reads
pub here_agrees : (files m : FileMap) (reads : List Read) → Some files ≡ Some m → Agrees m (reads_here files reads)
here_agrees files m reads e = let same : files ≡ m = cc in subst (λ x. Agrees x (reads_here files reads)) same (agrees_here files reads)
