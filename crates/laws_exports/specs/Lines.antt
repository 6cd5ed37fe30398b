-- What the lines that `export` prints are read as, and what they ask for together (PEP 508). White space at the ends of
-- a text has no say in its reading, so a line is read with its end.
use Rattle.std.specs.Prelude.{◌≡◌, ◌||◌, ℕ, List, [], ◌∷◌, Bool, Contains, true, false, if◌then◌else◌, IfSome, Option, Some, None}
use Rattle.ul_comparison.specs.Atoms.{is_extras}
use Rattle.ul_comparison.specs.Formulas.{Formula}
use Rattle.ul_comparison.specs.Worlds.{WorldFields, IsWorld}
use Rattle.ul_lines.specs.Lines.{lines_of}
use Rattle.ul_marker.specs.Parts.{asks_extras}
use Rattle.ul_requirement.specs.Reading.{Reading, reading_of, requirement, unread}
use Rattle.ul_requirement.specs.Truth.{may_hold}
use Rattle.ul_nodes.specs.Plain.{Plain, truth, node, Branches, done, branch}
use Rattle.ul_tree.specs.Regions.{region_of}
use Rattle.ul_tree.specs.Sample.{atom_of}
use Rattle.ul_lock.specs.declared.parts.Lock.{Lock}
use Rattle.ul_lock.specs.Walk.{Pick as NodeAt}
use Rattle.ul_lock.specs.WellFormed.{IsWellFormed}
use Rattle.ul_reach.specs.Headline.{IsGiven}
use Rattle.ul_reach.specs.Lines.{rows_text}
use Rattle.ul_reach.specs.Rows.{AreRows, is_supported}
use Rattle.ul_reach.specs.declared.rows.Reached.{Reached}
use Rattle.laws_exports.specs.Requirements.{pinned}

-- ---- comparisons with `extras`

-- whether a level of a tree is a comparison with `extras`
abbrev pub is_extras_level : List ℕ → Bool
is_extras_level [] = false
is_extras_level (a ∷ []) = false
is_extras_level (a ∷ b ∷ rest) = is_extras (atom_of (a ∷ b ∷ rest)).variable

abbrev mutual
  -- whether a comparison with `extras` stands in a tree
  pub compares_extras : Plain → Bool
  compares_extras (truth b) = false
  compares_extras (node level rest branches) =
      is_extras_level level || (compares_extras rest || some_compare_extras branches)

  pub some_compare_extras : Branches → Bool
  some_compare_extras done = false
  some_compare_extras (branch key part rest) = compares_extras part || some_compare_extras rest

-- ---- one line

-- The requirement of a row. A marker that compares `extras`, as a lock's may do (PEP 751), is none of PEP 508: with it
-- a line has no reading, so it is refused rather than misread.
abbrev pub read_as : Reached → Option Formula → Reading
read_as r None = requirement (pinned r.node r.version None)
read_as r (Some f) = if asks_extras f then unread else requirement (pinned r.node r.version (Some f))

-- A line is read as the requirement of a row, by a marker, or none, that is true in each world exactly where the row's
-- is, whichever extra is asked for; and that compares `extras` only where the row's does.
pub record IsRowLine (line : List ℕ) (r : Reached) : Type 0 where
  pub marker : Option Formula
  pub read : reading_of line ≡ read_as r marker
  pub truth : (w : WorldFields) (x : List ℕ) → IsWorld w → may_hold marker w x ≡ region_of r.marker w
  pub silent : compares_extras r.marker ≡ false → IfSome marker (λ f. asks_extras f ≡ false)

-- lines are those of rows, one of each in order
abbrev pub AreRowLines : List (List ℕ) → List Reached → Type 0
AreRowLines [] [] = Unit {0}
AreRowLines [] (r ∷ rows) = ⊥
AreRowLines (line ∷ lines) [] = ⊥
AreRowLines (line ∷ lines) (r ∷ rows) = IsRowLine line r × AreRowLines lines rows

-- ---- all lines

-- one of the lines is read as a requirement that pins the node to the version, and is true in the world
abbrev pub IsAsked : List (List ℕ) → WorldFields → NodeAt → Type 0
IsAsked lines w p = (line : List ℕ) × Contains lines line × (marker : Option Formula)
    × (reading_of line ≡ requirement (pinned p.0 p.1 marker)) × (may_hold marker w [] ≡ true)

-- each line has a reading
abbrev pub AreRead : List (List ℕ) → Type 0
AreRead lines = (line : List ℕ) → Contains lines line → reading_of line ≡ unread → ⊥

-- In each world that the lock supports the lines ask for nothing but what the lock gives there, and where each has a
-- reading they ask for all of it.
pub record AskWhatIsGiven (l : Lock) (xs lines : List (List ℕ)) : Type 0 where
  pub nothing_else : (w : WorldFields) → IsWorld w → is_supported l w ≡ true → (p : NodeAt)
      → IsAsked lines w p → IsGiven l w xs p
  pub all : AreRead lines → (w : WorldFields) → IsWorld w → is_supported l w ≡ true → (p : NodeAt)
      → IsGiven l w xs p → IsAsked lines w p

-- the lines of what a well formed lock gives are those of its rows, and ask for what it gives; and each has a reading
-- where no row's marker compares `extras`
pub record LinesAreRead : Type 0 where
  pub rows : (l : Lock) (xs : List (List ℕ)) (rows : List Reached) → IsWellFormed l → AreRows l xs rows
      → AreRowLines (lines_of (rows_text rows)) rows
  pub ask : (l : Lock) (xs : List (List ℕ)) (rows : List Reached) → IsWellFormed l → AreRows l xs rows
      → AskWhatIsGiven l xs (lines_of (rows_text rows))
  pub read : (l : Lock) (xs : List (List ℕ)) (rows : List Reached) → IsWellFormed l → AreRows l xs rows
      → ((r : Reached) → Contains rows r → compares_extras r.marker ≡ false) → AreRead (lines_of (rows_text rows))
