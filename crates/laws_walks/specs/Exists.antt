-- What a lock gives has a tree for each of its nodes, picks in each world, and rows.
use Rattle.std.specs.Prelude.{◌<◌, ◌≤◌, ◌^◌, ℕ, List, Contains, length}
use Rattle.ul_comparison.specs.Worlds.{WorldFields}
use Rattle.ul_nodes.specs.Plain.{Plain}
use Rattle.ul_lock.specs.declared.parts.Lock.{Lock}
use Rattle.ul_lock.specs.declared.parts.Locked.{Locked}
use Rattle.ul_lock.specs.Walk.{Pick as NodeAt}
use Rattle.ul_lock.specs.WellFormed.{IsWellFormed}
use Rattle.ul_lock_lines.specs.declared.lines.Edition.{Edition}
use Rattle.ul_lock_write.specs.TextLimit.{text_bytes}
use Rattle.ul_lock_write.specs.Texts.{sheet_in, sheet_text}
use Rattle.ul_filter.specs.Picks.{ArePicks}
use Rattle.ul_filter.specs.declared.picks.Pick.{Pick}
use Rattle.ul_reach.specs.Reach.{IsReach}
use Rattle.ul_reach.specs.Rows.{AreRows}
use Rattle.ul_reach.specs.declared.rows.Reached.{Reached}

-- each node has the tree of its reach
abbrev pub ReachTreeExists : Type 0
ReachTreeExists = (l : Lock) (xs : List (List ℕ)) (n : NodeAt) → IsWellFormed l → (t : Plain) × IsReach l xs n t

-- the extras of each package are as few as a `Vec` can have
abbrev pub HasFewExtras : Lock → Type 0
HasFewExtras l = (b : Locked) → Contains l.packages b → length b.extras < 2 ^ 63

-- a lock has picks in each world, where the extras that are picked of a package fit a `Vec`
abbrev pub PicksExist : Type 0
PicksExist = (l : Lock) (w : WorldFields) (xs : List (List ℕ)) → HasFewExtras l → (ps : List Pick) × ArePicks l w xs ps

-- a lock in a version of the format, whose text isn't too long, has few extras
abbrev pub FewExtras : Type 0
FewExtras = (e : Edition) (l : Lock) → length (sheet_text (sheet_in e l)) ≤ text_bytes → HasFewExtras l

-- a lock has rows
abbrev pub RowsExist : Type 0
RowsExist = (l : Lock) (xs : List (List ℕ)) → IsWellFormed l → (rows : List Reached) × AreRows l xs rows
