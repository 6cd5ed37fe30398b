-- The different opaque comparisons of formulas.
use Rattle.std.specs.Prelude.{List, [], Bool, length, nat_lt}
use Rattle.std.specs.List.{flat_map}
use Rattle.ul_comparison.specs.Formulas.{Formula}
use Rattle.ul_marker.specs.Parts.{atoms_of}
use Rattle.ul_load.specs.Loading.{comparisons_with, most_comparisons}

-- whether they are more than there may be
abbrev pub has_too_many : List Formula → Bool
has_too_many fs = nat_lt most_comparisons (length (comparisons_with [] (flat_map atoms_of fs)))
