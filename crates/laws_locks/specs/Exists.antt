-- Leaves merge into a lock.
use Rattle.std.specs.Prelude.{List}
use Rattle.std.specs.List.{AllByRecursion}
use Rattle.ul_requirement.specs.Fields.{IsPackage}
use Rattle.ul_index.specs.Catalogs.{Packages}
use Rattle.ul_project.specs.Fields.{ProjectFields}
use Rattle.ul_lock.specs.declared.parts.Lock.{Lock}
use Rattle.ul_sound.specs.Headline.{AreMergeable}
use Rattle.ul_sound.specs.Leaves.{LeafFields}
use Rattle.ul_sound.specs.Merged.{IsMergedLock}
use Rattle.laws_trees.specs.Trees.{AreRequirements}

-- leaves that can be merged have a lock, if the versions of each package differ
abbrev pub LockExists : Type 0
LockExists = (c : Packages) (p : ProjectFields) (leaves : List LeafFields)
    → AllByRecursion IsPackage c → AreRequirements c → AreMergeable c p leaves
    → (l : Lock) × IsMergedLock c p leaves l
