-- Shaped lines, said without the automaton.
use Rattle.std.specs.Prelude.{◌≡◌, List, []}
use Rattle.ul_requirement.specs.Fields.{FileFields}
use Rattle.ul_lock.specs.declared.parts.Extra.{Extra}
use Rattle.ul_lock.specs.declared.parts.Locked.{Locked}
use Rattle.ul_lock_lines.specs.declared.lines.Edition.{Edition}
use Rattle.ul_lock_lines.specs.declared.lines.Edition.TheVariants.{First as one, Second as two}
use Rattle.ul_lock_write.specs.declared.sheets.Sheet.{Sheet}
use Rattle.ul_lines.specs.Reader.{Each}
use Rattle.ul_lock.specs.Increasing.{Rising, NoneOrSeveral}
use Rattle.ul_lock.specs.Orders.{edge_less, extra_less, file_less, block_less}

-- files stand in the second version of the format alone
abbrev pub MayHave : Edition → List FileFields → Type 0
MayHave one fs = fs ≡ []
MayHave two fs = Unit {0}

-- the edges of an extra increase
abbrev pub IsExtra : Extra → Type 0
IsExtra x = Rising edge_less x.edges

-- the lists of a package increase
pub record IsBlock (b : Locked) : Type 0 where
  pub files : Rising file_less b.files
  pub edges : Rising edge_less b.edges
  pub extras : Rising extra_less b.extras
  pub each : Each IsExtra b.extras

-- the lines of a text are in order, and no version 1 has files
pub record IsSheet (s : Sheet) : Type 0 where
  pub forks : NoneOrSeveral s.head.forks
  pub blocks : Rising block_less s.packages
  pub each : Each IsBlock s.packages
  pub allowed : Each (λ b. MayHave s.head.edition b.files) s.packages
