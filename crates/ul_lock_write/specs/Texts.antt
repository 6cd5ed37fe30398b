-- The text of a lock.
use Rattle.std.specs.Prelude.{ℕ, List}
use Rattle.ul_lines.specs.Reader.{text_by}
use Rattle.ul_lock_lines.specs.declared.lines.Edition.{Edition}
use Rattle.ul_lock_lines.specs.declared.lines.Edition.TheVariants.{Second as two}
use Rattle.ul_lock.specs.declared.parts.Lock.{Lock}
use Rattle.ul_lock_lines.specs.Text.{spell}
use Rattle.ul_lock_write.specs.declared.sheets.Sheet.{Sheet}
use Rattle.ul_lock_write.specs.Sheet.{sheet_lines}

-- the text of a sheet
abbrev pub sheet_text : Sheet → List ℕ
sheet_text x = text_by spell sheet_lines x

-- a lock in a version of the format
abbrev pub sheet_in : Edition → Lock → Sheet
sheet_in e l =
    record {
      head = record { edition = e; root = l.root; supported = l.supported; forks = l.forks };
      packages = l.packages;
    }

-- the lock of a sheet
abbrev pub lock_of : Sheet → Lock
lock_of x = record { root = x.head.root; supported = x.head.supported; forks = x.head.forks; packages = x.packages }

-- the text of a lock
abbrev pub lock_text : Lock → List ℕ
lock_text l = sheet_text (sheet_in two l)
