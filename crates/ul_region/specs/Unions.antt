-- Unions of regions.
use Rattle.std.specs.Prelude.{List, [], ◌∷◌, Bool, false, ◌||◌}
use Rattle.ul_comparison.specs.Worlds.{WorldFields}
use Rattle.ul_region.specs.Truths.{DiagramMark, region_at}

-- some of the regions has the world
abbrev pub some_holds : List DiagramMark → WorldFields → Bool
some_holds [] w = false
some_holds (m ∷ ms) w = region_at m w || some_holds ms w
