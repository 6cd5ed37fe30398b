-- The laws of a lock's text.
use Rattle.std.specs.Prelude.{◌≡◌, ℕ, List, [], None}
use Rattle.ul_lines.specs.Faults.{IsFault}
use Rattle.ul_lines.specs.Reader.{Each}
use Rattle.ul_lock_lines.specs.declared.lines.Edition.TheVariants.{First as one}
use Rattle.ul_lock.specs.declared.parts.Lock.{Lock}
use Rattle.ul_lock_write.specs.Markers.{first_over, markers_of}
use Rattle.ul_lock_write.specs.Readable.{IsLockReadable}
use Rattle.ul_lock_write.specs.Texts.{lock_text, sheet_in, sheet_text}
use Rattle.ul_lock_read.specs.ShapedTexts.{AreShaped}
use Rattle.ul_lock.specs.WellFormed.{IsWellFormed}
use Rattle.ul_lock_read.specs.TextOf.{IsTextOf}

-- different locks have different texts, also where one is in version 1 and the other in version 2
abbrev pub OneTextOneLock : Type 0
OneTextOneLock = (text : List ℕ) (l m : Lock) → IsTextOf text l → IsTextOf text m → l ≡ m

-- what is written of a well formed lock, all of whose markers are printed, is the lock's text
abbrev pub TextIsLocks : Type 0
TextIsLocks = (l : Lock) → IsWellFormed l → first_over (markers_of l) ≡ None → IsTextOf (lock_text l) l

-- a text of version 1
abbrev pub IsFirstTextOf : List ℕ → Lock → Type 0
IsFirstTextOf text l = IsWellFormed l × IsLockReadable l × Each (λ b. b.files ≡ []) l.packages × (sheet_text (sheet_in one l) ≡ text)

-- a lock's text of version 1 stands for one well formed lock, without files, which has a text of version 2
pub record StandsForOne (text : List ℕ) (l : Lock) : Type 0 where
  pub is_text : IsTextOf text l
  pub second : IsTextOf (lock_text l) l
  pub alone : (m : Lock) → IsTextOf text m → m ≡ l

-- each text of version 1 does
abbrev pub FirstVersion : Type 0
FirstVersion = (text : List ℕ) (l : Lock) → IsFirstTextOf text l → StandsForOne text l

-- the line of a fault is determined, and a shaped text has none
pub record OneFault : Type 0 where
  pub once : (ls : List (List ℕ)) (m n : ℕ) → IsFault AreShaped ls m → IsFault AreShaped ls n → m ≡ n
  pub none : (ls : List (List ℕ)) (n : ℕ) → AreShaped ls → IsFault AreShaped ls n → ⊥
