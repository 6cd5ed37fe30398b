-- Shaped texts.
use Rattle.std.specs.Prelude.{ℕ, List}
use Rattle.ul_lines.specs.Reader.{HasText, AreLines}
use Rattle.ul_lock_lines.specs.Text.{Fit, spell}
use Rattle.ul_lock_write.specs.declared.sheets.Sheet.{Sheet}
use Rattle.ul_lock_write.specs.Sheet.{sheet_lines}
use Rattle.ul_lock_read.specs.Shaped.{IsSheet}

-- a sheet whose text is shaped
abbrev pub IsText : Sheet → Type 0
IsText x = HasText Fit sheet_lines IsSheet x

-- these are the lines of a shaped text, in one of the two versions of the format
abbrev pub AreShaped : List (List ℕ) → Type 0
AreShaped ls = AreLines spell sheet_lines IsText ls
