-- What the answers of the expansion say.
use Rattle.std.specs.Prelude.{◌≡◌, Result, Ok, Err}
use Rattle.ul_project.specs.declared.fault.ProjectFault.{ProjectFault}
use Rattle.ul_project.specs.declared.fault.ProjectFault.TheVariants.{NotToml, Shape, Requirement, Unsupported, EmptyRegion, NoMemory}
use Rattle.ul_groups.specs.Expanded.{Expanding, refused}

-- the result is the definition's answer; want of memory says nothing of it, and no other fault than a refused include
-- comes
abbrev pub Gives : {X Y : Type 0} → (X → Y) → Result X ProjectFault → Expanding Y → Type 0
Gives view (Ok x) answer = answer ≡ Ok (view x)
Gives view (Err NotToml) answer = ⊥
Gives view (Err (Shape path)) answer = answer ≡ Err (refused path)
Gives view (Err (Requirement path)) answer = ⊥
Gives view (Err (Unsupported path)) answer = ⊥
Gives view (Err EmptyRegion) answer = ⊥
Gives view (Err NoMemory) answer = Unit {0}
