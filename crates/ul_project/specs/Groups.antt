-- Dependency groups as plain data (PEP 735).
use Rattle.std.specs.Prelude.{ℕ, List}
use Rattle.ul_project.specs.declared.group.GroupEntry.{GroupEntry}

-- a group, under the normal form of its name; an entry is a requirement, or the name of a group whose entries are
-- included
pub record GroupFields : Type 0 where
  pub name : List ℕ
  pub entries : List GroupEntry
