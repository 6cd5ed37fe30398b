-- Files that tell no map.
use Rattle.std.specs.Prelude.{◌≡◌, List, None, Some}
use Rattle.ul_files.specs.Files.{Agrees, FileMap, Read}

-- no map is told, so that nothing is said of one
pub no_map : (m : FileMap) (reads : List Read) → None ≡ Some m → Agrees m reads
no_map m reads e = absurd (cc)
