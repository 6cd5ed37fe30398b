-- What the program answers, told by the definitions; want of memory is free.
use Rattle.std.specs.Prelude.{◌≡◌, ℕ, true, false, Some, Result, Ok, Err}
use Rattle.ul_lock.specs.declared.parts.Lock.{Lock}
use Rattle.ul_lock_write.specs.declared.sheets.Sheet.{Sheet}
use Rattle.ul_lock_read.specs.declared.texts.ShapeFault.{ShapeFault}
use Rattle.ul_lock_read.specs.declared.texts.ShapeFault.TheVariants.{Line as ShapeLine, NoMemory as ShapeMemory}
use Rattle.ul_lock_read.specs.declared.locks.LockFault.{LockFault}
use Rattle.ul_lock_read.specs.declared.locks.LockFault.TheVariants.{Line as LineAt, Root, Target, NoMemory}
use Rattle.ul_lock.specs.Targets.{has_one_root, all_lead_on, first_without_target}
use Rattle.ul_lock_write.specs.Texts.{lock_of}

-- a fault of the shape: its line is the one that the reading by lines tells
abbrev pub Fails : ShapeFault → Result Sheet ℕ → Type 0
Fails ShapeMemory read = Unit {0}
Fails (ShapeLine n) read = read ≡ Err n

-- the reading by lines
abbrev pub Gives : Result Sheet ShapeFault → Result Sheet ℕ → Type 0
Gives (Ok x) read = read ≡ Ok x
Gives (Err e) read = Fails e read

-- a shaped text without fault
pub record IsWell (x : Sheet) : Type 0 where
  pub root : has_one_root x.head.root x.packages ≡ true
  pub targets : all_lead_on x.packages ≡ true

-- a shaped text with one root and a package that leads nowhere
pub record LacksTarget (x : Sheet) (k : ℕ) : Type 0 where
  pub root : has_one_root x.head.root x.packages ≡ true
  pub target : first_without_target x.packages ≡ Some k

-- a shaped text: first the root, then the targets; no memory is taken
abbrev pub Judged : Result Lock LockFault → Sheet → Type 0
Judged (Ok l) x = IsWell x × (l ≡ lock_of x)
Judged (Err (LineAt n)) x = ⊥
Judged (Err Root) x = has_one_root x.head.root x.packages ≡ false
Judged (Err (Target k)) x = LacksTarget x k
Judged (Err NoMemory) x = ⊥
