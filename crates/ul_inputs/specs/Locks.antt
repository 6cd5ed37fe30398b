-- Locks that are read, and what an old one keeps.
use Rattle.std.specs.Prelude.{◌≡◌, ℕ, List, [], ◌++◌, codes, map, filter, not, bytes_eq, Option, Some, None, Result, Ok, Err}
use Rattle.std.specs.Fmt.{decimal}
use Rattle.ul_version.specs.Fields.{Fields}
use Rattle.ul_lines.specs.Faults.{IsFault}
use Rattle.ul_lines.specs.Lines.{lines_of}
use Rattle.ul_lock.specs.declared.parts.Lock.{Lock}
use Rattle.ul_lock.specs.declared.parts.Locked.{Locked}
use Rattle.ul_lock_read.specs.declared.locks.LockFault.{LockFault as ReadFault}
use Rattle.ul_lock_read.specs.declared.locks.LockFault.TheVariants.{Line, Root, Target, NoMemory}
use Rattle.ul_lock_read.specs.Headline.{LacksRoot, TextLacksTarget}
use Rattle.ul_lock_read.specs.ShapedTexts.{AreShaped}
use Rattle.ul_lock_read.specs.TextOf.{IsTextOf}
use Rattle.ul_inputs.specs.Inputs.{Input, ◌>>=◌, answer, just, large_file}
use Rattle.ul_inputs.specs.Refused.{Refused, malformed}

-- why a text is no lock's: its first line that no lock's text has there; not exactly one root; the first package with an
-- edge that leads nowhere
pub data LockFault : Type 0 where
  line : ℕ → LockFault
  root : LockFault
  target : ℕ → LockFault

-- the text has this fault
abbrev pub HasLockFault : List ℕ → LockFault → Type 0
HasLockFault text (line n) = IsFault AreShaped (lines_of text) n
HasLockFault text root = LacksRoot text
HasLockFault text (target k) = TextLacksTarget text k

-- a fault as it is printed
abbrev pub fault_text : LockFault → List ℕ
fault_text (line n) = codes "line" ++ codes " " ++ decimal n
fault_text root = codes "root"
fault_text (target k) = codes "target" ++ codes " " ++ decimal k

-- the refusal of a lock file at a place with a number
abbrev pub numbered : (path word : List ℕ) → ℕ → Refused
numbered path word n = malformed path (word ++ codes " " ++ decimal n)

-- what a fault of the code says, if it isn't want of memory
abbrev pub refused_lock : List ℕ → ReadFault → Option Refused
refused_lock path (Line n) = Some (numbered path (codes "line") n)
refused_lock path Root = Some (malformed path (codes "root"))
refused_lock path (Target k) = Some (numbered path (codes "target") k)
refused_lock path NoMemory = None

-- the text is refused for its fault
pub record IsFaulty (path text : List ℕ) (e : Refused) : Type 0 where
  pub fault : LockFault
  pub has : HasLockFault text fault
  pub is : e ≡ malformed path (fault_text fault)

-- the lock whose text it is, or its fault
abbrev pub IsLockOf : (path text : List ℕ) → Result Lock Refused → Type 0
IsLockOf path text (Ok l) = IsTextOf text l
IsLockOf path text (Err e) = IsFaulty path text e

-- the lock of a text
abbrev pub lock_said : (path text : List ℕ) → Input Lock
lock_said path text = answer (IsLockOf path text)

-- the lock of a lock file
abbrev pub lock_at : List ℕ → Input Lock
lock_at path = large_file path >>= lock_said path

-- a name at a version
abbrev pub Kept : Type 0
Kept = List ℕ × Fields

-- what packages keep beside the root: their names and versions
abbrev pub kept_beside : List ℕ → List Locked → List Kept
kept_beside own bs = map (λ b. (b.name, b.version)) (filter (λ b. not (bytes_eq b.name own)) bs)

-- what a lock keeps: the names and versions of its packages but the root
abbrev pub kept_of : Lock → List Kept
kept_of l = kept_beside l.root l.packages

-- what an old lock keeps; without one nothing is kept
abbrev pub old_lock : Option (List ℕ) → Input (List Kept)
old_lock None = just (Ok [])
old_lock (Some path) = lock_at path >>= λ l. just (Ok (kept_of l))
