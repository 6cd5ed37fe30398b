-- The main theorem: what reading a lock answers, exactly.
use Rattle.std.specs.Prelude.{◌≡◌, ℕ, List, false, Result, Ok, Err, IfOk}
use Rattle.ul_lines.specs.Lines.{lines_of}
use Rattle.ul_lines.specs.Faults.{IsFault}
use Rattle.ul_lock.specs.declared.parts.Lock.{Lock}
use Rattle.ul_lock_write.specs.declared.sheets.Sheet.{Sheet}
use Rattle.ul_lock_read.specs.declared.locks.LockFault.{LockFault}
use Rattle.ul_lock_read.specs.declared.locks.LockFault.TheVariants.{Line as LineAt, Root, Target, NoMemory as NoMemoryToRead}
use Rattle.ul_lock_read.specs.Answers.{LacksTarget}
use Rattle.ul_lock.specs.Targets.{has_one_root}
use Rattle.ul_lock_write.specs.Texts.{sheet_text}
use Rattle.ul_lock_read.specs.ShapedTexts.{IsText, AreShaped}
use Rattle.ul_lock_read.specs.TextOf.{IsTextOf}

-- the lock, unless memory ran out
abbrev pub IsLock : Result Lock LockFault → Lock → Type 0
IsLock (Ok l) m = l ≡ m
IsLock (Err NoMemoryToRead) m = Unit {0}
IsLock (Err e) m = ⊥

-- a shaped text with no root, or two
abbrev pub LacksRoot : List ℕ → Type 0
LacksRoot text = (x : Sheet) × IsText x × (sheet_text x ≡ text) × (has_one_root x.head.root x.packages ≡ false)

-- a shaped text with one root, whose package k is the first that leads nowhere
abbrev pub TextLacksTarget : List ℕ → ℕ → Type 0
TextLacksTarget text k = (x : Sheet) × IsText x × (sheet_text x ≡ text) × LacksTarget x k

-- what reading answers for a text
pub record ReadsLock (text : List ℕ) (result : Result Lock LockFault) : Type 0 where
  -- what is read is well formed, and the text is its text
  pub found : IfOk result (λ l. IsTextOf text l)
  -- each lock's text is read
  pub only : (l : Lock) → IsTextOf text l → IsLock result l
  -- the line of a fault is the first that no shaped text has there
  pub line : (n : ℕ) → result ≡ Err (LineAt n) → IsFault AreShaped (lines_of text) n
  -- the text is shaped, but not exactly one package has the root's name
  pub root : result ≡ Err Root → LacksRoot text
  -- the text is shaped and has one root, and package k is the first with an edge that leads nowhere
  pub target : (k : ℕ) → result ≡ Err (Target k) → TextLacksTarget text k
