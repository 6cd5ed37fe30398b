-- The text of a lock, in either version of the format.
use Rattle.std.specs.Prelude.{◌≡◌, ℕ, List}
use Rattle.ul_lines.specs.Reader.{Each}
use Rattle.ul_lock_lines.specs.declared.lines.Edition.{Edition}
use Rattle.ul_lock.specs.declared.parts.Lock.{Lock}
use Rattle.ul_lock.specs.WellFormed.{IsWellFormed}
use Rattle.ul_lock_read.specs.Shaped.{MayHave}
use Rattle.ul_lock_write.specs.Readable.{IsLockReadable}
use Rattle.ul_lock_write.specs.Texts.{sheet_in, sheet_text}

-- the text is that of the lock, in one of the two versions of the format; the first has no files. No path of a marker
-- has too many nodes.
pub record IsTextOf (text : List ℕ) (l : Lock) : Type 0 where
  pub edition : Edition
  pub allowed : Each (λ b. MayHave edition b.files) l.packages
  pub well_formed : IsWellFormed l
  pub readable : IsLockReadable l
  pub same : sheet_text (sheet_in edition l) ≡ text
