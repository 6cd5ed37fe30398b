-- What is true of a project whose groups became extras.
use Rattle.std.proofs.Common.{◌≡◌, List, [], map, ap}
use Rattle.std.specs.List.Sorted.{IsStrictlySortedBy}
use Rattle.ul_base.specs.Names.{name_cmp}
use Rattle.ul_project.specs.Groups.{GroupFields}
use Rattle.ul_groups.proofs.AdjustedLists.{no_extras}

-- no groups stand in order
pub no_groups : (groups : List GroupFields) → groups ≡ [] → IsStrictlySortedBy name_cmp (map (λ (g : GroupFields). g.name) groups)
no_groups groups e = no_extras (map (λ (g : GroupFields). g.name) groups) (ap (map (λ (g : GroupFields). g.name)) e)
